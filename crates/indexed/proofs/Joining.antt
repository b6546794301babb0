-- Rows of some nodes and rows of those after them are rows of both.
use Rattle.std.proofs.Common.{◌≡◌, ℕ, Bool, true, false, cond, eqb, ◌⊎◌, List, [], ◌∷◌, ◌++◌, Some, None, Ok, Err, Option, Result, sym, refl, ap, ◌∙◌, inl, inr}
use Rattle.faults.specs.declared.fault.RouteFault.{RouteFault}
use Rattle.faults.specs.declared.fault.TokenFault.{TokenFault}
use Rattle.faults.specs.declared.place.At.{At}
use Rattle.fdt.specs.declared.cursor.Cursor.{Cursor}
use Rattle.fdt.specs.Tokens.{after}
use Rattle.tree.specs.declared.tree.Tree.{Tree}
use Rattle.tree.specs.Nodes.{Entry, Listed}
use Rattle.tree.specs.Phandles.{held, with_phandle}
use Rattle.values.specs.declared.counts.Counts.{Counts}
use Rattle.values.specs.Counts.{counts_of}
use Rattle.values.specs.Values.{node_of, node_or}
use Rattle.indexed.specs.declared.row.Few.{Few}
use Rattle.indexed.specs.declared.row.Row.{Row}
use Rattle.indexed.specs.Rows.{Keeps, Kept, Tells, by_row, counts_by, counts_found, counts_with, few, good, node_at, nodes_past, row_with}

-- what is found further on may be found by the rows of what is there
found_more : (t : Tree) (x : ℕ) (rs qs : List Row) (there further : Result (Option Entry) TokenFault) → there ≡ by_row t further (row_with x qs)
    → by_row t there (row_with x rs) ≡ by_row t further (row_with x (rs ++ qs))
found_more t x [] qs there further h = h
found_more t x (r ∷ rs) qs there further h = go (eqb r.phandle x) (found_more t x rs qs there further h)
  where
    go : (b : Bool) → by_row t there (row_with x rs) ≡ by_row t further (row_with x (rs ++ qs))
        → by_row t there (cond b (Some r) (row_with x rs)) ≡ by_row t further (cond b (Some r) (row_with x (rs ++ qs)))
    go true ih = refl
    go false ih = ih

pub tells_more : (t : Tree) (es : List Listed) (rs qs : List Row) (b c : Cursor) → Tells t es rs b → Tells t (nodes_past t b) qs c → Tells t es (rs ++ qs) c
tells_more t es rs qs b c h g = λ x. h x ∙ found_more t x rs qs (with_phandle x (nodes_past t b)) (with_phandle x (nodes_past t c)) (g x)

with_more : (x : ℕ) (rs qs : List Row) (s : Row) → row_with x (rs ++ qs) ≡ Some s → (row_with x rs ≡ Some s) ⊎ (row_with x qs ≡ Some s)
with_more x [] qs s e = inr e
with_more x (r ∷ rs) qs s e = go (eqb r.phandle x) (with_more x rs qs s) e
  where
    go : (b : Bool) → (row_with x (rs ++ qs) ≡ Some s → (row_with x rs ≡ Some s) ⊎ (row_with x qs ≡ Some s))
        → cond b (Some r) (row_with x (rs ++ qs)) ≡ Some s → (cond b (Some r) (row_with x rs) ≡ Some s) ⊎ (row_with x qs ≡ Some s)
    go true ih q = inl q
    go false ih q = ih q

pub keeps_more : (t : Tree) (rs qs : List Row) → Keeps t rs → Keeps t qs → Keeps t (rs ++ qs)
keeps_more t rs qs h g = λ x s q. go x s (with_more x rs qs s q)
  where
    go : (x : ℕ) (s : Row) → (row_with x rs ≡ Some s) ⊎ (row_with x qs ≡ Some s) → Kept t s
    go x s (inl q) = h x s q
    go x s (inr q) = g x s q

good_is : (r : Result Counts RouteFault) (c : Counts) → good r ≡ Some c → r ≡ Ok c
good_is (Ok d) c h = let e : d ≡ c = cc in ap Ok e
good_is (Err f) c h = cc

found_counts : (holder : At) (q : Result (Option Entry) TokenFault) (c : Counts) → counts_found q ≡ Some c → after (after (held q) (node_or holder)) counts_of ≡ Ok c
found_counts holder (Ok (Some e)) c h = good_is (counts_of e) c h
found_counts holder (Ok None) c h = cc
found_counts holder (Err f) c h = cc

-- the counts that a row keeps are those of the node that a search finds
pub counts_told : (t : Tree) (es : List Listed) (rs : List Row) (b : Cursor) (x : ℕ) (holder : At) (r : Row) (f : Few) → Tells t es rs b → Keeps t rs
    → row_with x rs ≡ Some r → r.counts ≡ Some f → Ok (few f) ≡ after (node_of es x holder) counts_of
counts_told t es rs b x holder r f tells keeps q w =
    let found : with_phandle x es ≡ node_at t r = tells x ∙ ap (by_row t (with_phandle x (nodes_past t b))) q in
    sym (ap (λ z. after (after (held z) (node_or holder)) counts_of) found ∙ found_counts holder (node_at t r) (few f) (keeps x r q f w))

pub few_told : (t : Tree) (es : List Listed) (rs : List Row) (b : Cursor) (x : ℕ) (holder : At) (f : Few) → Tells t es rs b → Keeps t rs
    → counts_with x rs ≡ Some f → Ok (few f) ≡ after (node_of es x holder) counts_of
few_told t es rs b x holder f tells keeps w = go (row_with x rs) refl w
  where
    go : (o : Option Row) → row_with x rs ≡ o → counts_by o ≡ Some f → Ok (few f) ≡ after (node_of es x holder) counts_of
    go (Some r) q w = counts_told t es rs b x holder r f tells keeps q w
    go None q w = cc

-- rows that are found as those of both
module _ (t : Tree) (old qs new : List Row) (more : (x : ℕ) → row_with x new ≡ row_with x (old ++ qs)) where
  pub tells_added : (es : List Listed) (b c : Cursor) → Tells t es old b → Tells t (nodes_past t b) qs c → Tells t es new c
  tells_added es b c h g = λ x. tells_more t es old qs b c h g x ∙ ap (by_row t (with_phandle x (nodes_past t c))) (sym (more x))

  pub keeps_added : Keeps t old → Keeps t qs → Keeps t new
  keeps_added h g = λ x s q. keeps_more t old qs h g x s (sym (more x) ∙ q)
