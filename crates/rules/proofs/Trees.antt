-- The walk accepts exactly the tokens of one tree.
use Rattle.std.proofs.Common.{◌≡◌, ℕ, zero, suc, ◌+◌, ◌-◌, ◌≤◌, Bool, true, false, cond, eqb, leb, List, [], ◌∷◌, length, Ok, Err, Result, sym, refl, ap, ◌∙◌, subst, arith}
use Rattle.std.proofs.lemmas.Bool.{eqb-true, leb-false, lt-leb, eq-eqb, ne_eqb}
use Rattle.cells.specs.declared.header.Header.{Header}
use Rattle.faults.specs.declared.fault.TokenFault.{TokenFault}
use Rattle.faults.specs.declared.fault.TokenFault.TheVariants.{Rule, Depth}
use Rattle.cells.specs.Cells.{Piece}
use Rattle.fdt.specs.Tokens.{Word, opens, property, closes, nothing, ends, at, ending}
use Rattle.fdt.specs.Items.{Item, item, bad, all_items}
use Rattle.rules.specs.declared.walk.Walk.{Walk}
use Rattle.rules.specs.declared.walk.Stage.{Stage}
use Rattle.rules.specs.declared.walk.Stage.TheVariants.{Start, Properties as Owning, Subnodes, Finished}
use Rattle.rules.specs.Rules.{walk, admitted, checked, walked}
use Rattle.rules.specs.Trees.{Next, here, past, Properties, no_more, one_more, Node, node, Nodes, no_node, one_node, OneTree, tree, Accepts}

pub no_result : {P X F : Type 0} {f : F} {x : X} → ◌≡◌ {A = Result X F} (Err f) (Ok x) → P
no_result p = absurd (let z : ◌≡◌ {A = ℕ} 0 1 = cc in omega arith)

-- Where a walk can stand: in a node one deeper than the number, and whether properties may still come.
pub data Standing : Type 0 where
  start : Standing
  inside : Bool → ℕ → Standing
  done : Standing

abbrev pub depth_of : Standing → ℕ
depth_of start = 0
depth_of (inside b d) = suc d
depth_of done = 0

abbrev pub stage_of : Standing → Stage
stage_of start = Start
stage_of (inside true d) = Owning
stage_of (inside false d) = Subnodes
stage_of done = Finished

abbrev pub stand : ℕ → Standing → Walk
stand p s = walk p (depth_of s) (stage_of s)

-- past the close
abbrev pub up : ℕ → Standing
up zero = done
up (suc d) = inside false d

module _ (end : ℕ) where
  open_in : (p : ℕ) (b : Bool) (d : ℕ) (name : Piece) (n : ℕ) → suc (suc d) ≤ 16 → admitted end (stand p (inside b d)) (opens name) n ≡ Ok (stand n (inside true (suc d)))
  open_in p true d name n h =
      let a : suc d + 1 ≡ suc (suc d) = omega arith in
      rw (lt-leb 16 (suc d) (omega arith), a)
  open_in p false d name n h =
      let a : suc d + 1 ≡ suc (suc d) = omega arith in
      rw (lt-leb 16 (suc d) (omega arith), a)

  open_root : (p : ℕ) (name : Piece) (n : ℕ) → name.bytes ≡ [] → admitted end (stand p start) (opens name) n ≡ Ok (stand n (inside true 0))
  open_root p name n e = rw (eq-eqb (length name.bytes) 0 (ap length e))

  pub close_in : (p : ℕ) (b : Bool) (d n : ℕ) → admitted end (stand p (inside b d)) closes n ≡ Ok (stand n (up d))
  close_in p b zero n = refl
  close_in p b (suc d) n =
      let a : suc (suc d) - 1 ≡ suc d = omega arith in
      rw (ne_eqb (suc (suc d)) 0 (λ e. omega arith), ne_eqb (suc (suc d)) 1 (λ e. omega arith), a)

  -- A walk from the first standing and tokens goes on as one from the second.
  abbrev Reaches : Standing → List Item → Standing → List Item → Type 0
  Reaches s ts s2 us = (p : ℕ) → (q : ℕ) × (checked end (Ok (stand p s)) ts ≡ checked end (Ok (stand q s2)) us)

  both : (s : Standing) (ts : List Item) (s2 : Standing) (us : List Item) (s3 : Standing) (vs : List Item) → Reaches s ts s2 us → Reaches s2 us s3 vs → Reaches s ts s3 vs
  both s ts s2 us s3 vs f g p =
      let a = f p in
      let b = g a.0 in
      (b.0, a.1 ∙ b.1)

  by_next : (s s2 : Standing) (ts : List Item) (w : Word) (n : ℕ) (us : List Item) → Next ts w n us
      → ((p i : ℕ) (vs : List Item) → checked end (Ok (stand p s)) (item i w n ∷ vs) ≡ checked end (Ok (stand n s2)) vs) → Reaches s ts s2 us
  by_next s s2 ts w n us (here i w2 n2 ts2) h p = (n, h p i us)
  by_next s s2 ts w n us (past i m ts2 w2 n2 us2 x) h p = by_next s s2 ts2 w n us x h m

  props_reach : (d : ℕ) (ts us : List Item) → Properties ts us → Reaches (inside true d) ts (inside true d) us
  props_reach d ts us (no_more ts2) p = (p, refl)
  props_reach d ts vs (one_more ts2 us vs2 name value n x y) p =
      both (inside true d) ts (inside true d) us (inside true d) vs
      (by_next (inside true d) (inside true d) ts (property name value) n us x (λ p i vs. refl))
      (props_reach d us vs y) p

  closes_reach : (b : Bool) (d : ℕ) (ts : List Item) (n : ℕ) (us : List Item) → Next ts closes n us → Reaches (inside b d) ts (up d) us
  closes_reach b d ts n us x = by_next (inside b d) (up d) ts closes n us x (λ p i vs. ap (λ r. checked end r vs) (close_in p b d n))

  -- what is in a node, up to its close
  body_reaches : (d : ℕ) (us vs ws rest : List Item) (m : ℕ) → Properties us vs → (b : Bool) × Reaches (inside true d) vs (inside b d) ws → Next ws closes m rest
      → Reaches (inside true d) us (up d) rest
  body_reaches d us vs ws rest m x y z =
      both (inside true d) us (inside true d) vs (up d) rest (props_reach d us vs x)
      (both (inside true d) vs (inside y.0 d) ws (up d) rest y.1 (closes_reach y.0 d ws m rest z))

  mutual
    node_reaches : (d : ℕ) (name : Piece) (ts rest : List Item) → Node (suc (suc d)) name ts rest → (b : Bool) → Reaches (inside b d) ts (inside false d) rest
    node_reaches d name ts rest (node depth name2 n m ts2 us vs ws rest2 low o x y z) b =
        both (inside b d) ts (inside true (suc d)) us (inside false d) rest
        (by_next (inside b d) (inside true (suc d)) ts (opens name) n us o (λ p i vs. ap (λ r. checked end r vs) (open_in p b d name n low)))
        (body_reaches (suc d) us vs ws rest m x (nodes_reach (suc d) vs ws y true) z)

    nodes_reach : (d : ℕ) (ts rest : List Item) → Nodes (suc (suc d)) ts rest → (b : Bool) → (c : Bool) × Reaches (inside b d) ts (inside c d) rest
    nodes_reach d ts rest (no_node depth ts2) b = (b, λ p. (p, refl))
    nodes_reach d ts rest (one_node depth name ts2 us vs x y) b =
        let f = node_reaches d name ts us x b in
        let g = nodes_reach d us rest y false in
        (g.0, both (inside b d) ts (inside false d) us (inside g.0 d) rest f g.1)

  root_reaches : (name : Piece) (ts rest : List Item) → name.bytes ≡ [] → Node 1 name ts rest → Reaches start ts done rest
  root_reaches name ts rest e (node depth name2 n m ts2 us vs ws rest2 low o x y z) =
      both start ts (inside true 0) us done rest
      (by_next start (inside true 0) ts (opens name) n us o (λ p i vs. ap (λ r. checked end r vs) (open_root p name n e)))
      (body_reaches 0 us vs ws rest m x (nodes_reach 0 vs ws y true) z)

  end_accepted : (p : ℕ) (ts : List Item) (n : ℕ) → n ≡ end → Next ts ends n [] → (w : Walk) × (checked end (Ok (stand p done)) ts ≡ Ok w)
  end_accepted p ts n e (here i w n2 ts2) = (walk n 0 Finished, rw (eq-eqb n end e))
  end_accepted p ts n e (past i m ts2 w n2 us x) = end_accepted m ts2 n e x

  pub tree_accepted : (p : ℕ) (ts : List Item) → OneTree end ts → (w : Walk) × (checked end (Ok (walk p 0 Start)) ts ≡ Ok w)
  tree_accepted p ts (tree root ts2 us e x y) =
      let r = root_reaches root ts us e x p in
      let f = end_accepted r.0 us end refl y in
      (f.0, r.1 ∙ f.1)

  -- What the tokens hold where a walk accepts them: the rest of this node, and of those above it.
  record Inner (d : ℕ) (ts rest : List Item) : Type 0 where
    last : List Item
    n : ℕ
    nodes : Nodes (suc (suc d)) ts last
    close : Next last closes n rest

  record Outer (d : ℕ) (ts rest : List Item) : Type 0 where
    mid : List Item
    props : Properties ts mid
    inner : Inner d mid rest

  abbrev Above : ℕ → List Item → Type 0
  Above zero ts = Next ts ends end []
  Above (suc d) ts = (rest : List Item) × (Inner d ts rest × Above d rest)

  abbrev Expect : Standing → List Item → Type 0
  Expect start ts = OneTree end ts
  Expect (inside true d) ts = (rest : List Item) × (Outer d ts rest × Above d rest)
  Expect (inside false d) ts = (rest : List Item) × (Inner d ts rest × Above d rest)
  Expect done ts = Next ts ends end []

  above : (d : ℕ) (ts : List Item) → Expect (up d) ts → Above d ts
  above zero ts x = x
  above (suc d) ts x = x

  -- with its properties over, or with none
  settle : (b : Bool) (d : ℕ) (ts rest : List Item) → Inner d ts rest → Above d rest → Expect (inside b d) ts
  settle true d ts rest x y = (rest, (record { mid = ts; props = no_more ts; inner = x }, y))
  settle false d ts rest x y = (rest, (x, y))

  -- a no-op token before
  module _ (i m : ℕ) where
    node_skip : (depth : ℕ) (name : Piece) (ts rest : List Item) → Node depth name ts rest → Node depth name (item i nothing m ∷ ts) rest
    node_skip depth name ts rest (node depth2 name2 n k ts2 us vs ws rest2 low o x y z) =
        node depth name n k (item i nothing m ∷ ts) us vs ws rest low (past i m ts (opens name) n us o) x y z

    inner_skip : (d : ℕ) (ts rest last : List Item) (n : ℕ) → Nodes (suc (suc d)) ts last → Next last closes n rest → Inner d (item i nothing m ∷ ts) rest
    inner_skip d ts rest last n (no_node depth ts2) z =
        record { last = item i nothing m ∷ ts; n = n; nodes = no_node (suc (suc d)) (item i nothing m ∷ ts); close = past i m ts closes n rest z }
    inner_skip d ts rest last n (one_node depth name ts2 us vs x y) z =
        record { last = last; n = n; nodes = one_node (suc (suc d)) name (item i nothing m ∷ ts) us last (node_skip (suc (suc d)) name ts us x) y; close = z }

    outer_skip : (d : ℕ) (ts rest mid : List Item) → Properties ts mid → Inner d mid rest → Outer d (item i nothing m ∷ ts) rest
    outer_skip d ts rest mid (no_more ts2) x =
        record { mid = item i nothing m ∷ ts; props = no_more (item i nothing m ∷ ts); inner = inner_skip d ts rest x.last x.n x.nodes x.close }
    outer_skip d ts rest mid (one_more ts2 us vs name value n o y) x =
        record { mid = mid; props = one_more (item i nothing m ∷ ts) us mid name value n (past i m ts (property name value) n us o) y; inner = x }

    tree_skip : (ts : List Item) → OneTree end ts → OneTree end (item i nothing m ∷ ts)
    tree_skip ts (tree root ts2 us e x y) = tree root (item i nothing m ∷ ts) us e (node_skip 1 root ts us x) y

    skip : (s : Standing) (ts : List Item) → Expect s ts → Expect s (item i nothing m ∷ ts)
    skip start ts x = tree_skip ts x
    skip (inside true d) ts x = (x.0, (outer_skip d ts x.0 x.1.0.mid x.1.0.props x.1.0.inner, x.1.1))
    skip (inside false d) ts x = (x.0, (inner_skip d ts x.0 x.1.0.last x.1.0.n x.1.0.nodes x.1.0.close, x.1.1))
    skip done ts x = past i m ts ends end [] x

  empty_bytes : (xs : List ℕ) → length xs ≡ 0 → xs ≡ []
  empty_bytes [] e = refl
  empty_bytes (x ∷ xs) e = absurd (omega arith)

  module _ (i n : ℕ) (ts : List Item) (p : ℕ) (v : Walk) where
    -- the node that is opened here, from what its body and the nodes above it hold
    opened_node : (depth d : ℕ) (name : Piece) (rest : List Item) → depth ≤ 16 → suc depth ≡ suc (suc d) → Outer d ts rest → Node depth name (item i (opens name) n ∷ ts) rest
    opened_node depth d name rest low e o =
        node depth name n o.inner.n (item i (opens name) n ∷ ts) ts o.mid o.inner.last rest low (here i (opens name) n ts) o.props
        (subst (λ (k : ℕ). Nodes k o.mid o.inner.last) (sym e) o.inner.nodes) o.inner.close

    root_opened : (name : Piece) (t : Bool) → eqb (length name.bytes) 0 ≡ t
        → checked end (cond t (Ok (stand n (inside true 0))) (Err (Rule (at p)))) ts ≡ Ok v
        → (checked end (Ok (stand n (inside true 0))) ts ≡ Ok v → Expect (inside true 0) ts)
        → OneTree end (item i (opens name) n ∷ ts)
    root_opened name false et e ih = no_result e
    root_opened name true et e ih =
        let r = ih e in
        tree name (item i (opens name) n ∷ ts) r.0 (empty_bytes name.bytes (eqb-true (length name.bytes) 0 et))
        (opened_node 1 0 name r.0 (omega arith) refl r.1.0) r.1.1

    sub_opened : (b : Bool) (d : ℕ) (name : Piece) (t : Bool) → leb 16 (suc d) ≡ t
        → checked end (cond t (Err (Depth (at p))) (Ok (walk n (suc d + 1) Owning))) ts ≡ Ok v
        → (checked end (Ok (stand n (inside true (suc d)))) ts ≡ Ok v → Expect (inside true (suc d)) ts)
        → Expect (inside b d) (item i (opens name) n ∷ ts)
    sub_opened b d name true et e ih = no_result e
    sub_opened b d name false et e ih =
        let a : suc d + 1 ≡ suc (suc d) = omega arith in
        let low = leb-false 16 (suc d) et in
        let r = ih (rw a at e) in
        let u = r.1.1 in
        let x = opened_node (suc (suc d)) (suc d) name r.0 (omega arith) refl r.1.0 in
        settle b d (item i (opens name) n ∷ ts) u.0
        (record { last = u.1.0.last; n = u.1.0.n; nodes = one_node (suc (suc d)) name (item i (opens name) n ∷ ts) r.0 u.1.0.last x u.1.0.nodes; close = u.1.0.close })
        u.1.1

    closed_node : (b : Bool) (d : ℕ) → checked end (admitted end (stand p (inside b d)) closes n) ts ≡ Ok v
        → (checked end (Ok (stand n (up d))) ts ≡ Ok v → Expect (up d) ts) → Expect (inside b d) (item i closes n ∷ ts)
    closed_node b d e ih =
        settle b d (item i closes n ∷ ts) ts
        (record { last = item i closes n ∷ ts; n = n; nodes = no_node (suc (suc d)) (item i closes n ∷ ts); close = here i closes n ts })
        (above d ts (ih (sym (ap (λ r. checked end r ts) (close_in p b d n)) ∙ e)))

    owned_here : (d : ℕ) (name value : Piece) → Expect (inside true d) ts → Expect (inside true d) (item i (property name value) n ∷ ts)
    owned_here d name value x =
        let o = x.1.0 in
        (x.0, (record { mid = o.mid; props = one_more (item i (property name value) n ∷ ts) ts o.mid name value n (here i (property name value) n ts) o.props; inner = o.inner }, x.1.1))

  ended_last : (i n p : ℕ) (v : Walk) (t : Bool) → eqb n end ≡ t
      → cond t (Ok (walk n 0 Finished)) (Err (Rule (at p))) ≡ Ok v → Next (item i ends n ∷ []) ends end []
  ended_last i n p v false et e = no_result e
  ended_last i n p v true et e = subst (λ (k : ℕ). Next (item i ends n ∷ []) ends k []) (eqb-true n end et) (here i ends n [])

  accepted : (ts : List Item) (s : Standing) (p : ℕ) (v : Walk) → checked end (Ok (stand p s)) ts ≡ Ok v → Expect s ts
  accepted [] s p v e = no_result e
  accepted (bad f ∷ ts) s p v e = no_result e
  accepted (item i nothing n ∷ ts) s p v e = skip i n s ts (accepted ts s n v e)
  accepted (item i (opens name) n ∷ ts) start p v e = root_opened i n ts p v name (eqb (length name.bytes) 0) refl e (accepted ts (inside true 0) n v)
  accepted (item i (opens name) n ∷ ts) (inside true d) p v e = sub_opened i n ts p v true d name (leb 16 (suc d)) refl e (accepted ts (inside true (suc d)) n v)
  accepted (item i (opens name) n ∷ ts) (inside false d) p v e = sub_opened i n ts p v false d name (leb 16 (suc d)) refl e (accepted ts (inside true (suc d)) n v)
  accepted (item i (opens name) n ∷ ts) done p v e = no_result e
  accepted (item i (property name value) n ∷ ts) start p v e = no_result e
  accepted (item i (property name value) n ∷ ts) (inside true d) p v e = owned_here i n ts p v d name value (accepted ts (inside true d) n v e)
  accepted (item i (property name value) n ∷ ts) (inside false d) p v e = no_result e
  accepted (item i (property name value) n ∷ ts) done p v e = no_result e
  accepted (item i closes n ∷ ts) start p v e = no_result e
  accepted (item i closes n ∷ ts) (inside b d) p v e = closed_node i n ts p v b d e (accepted ts (up d) n v)
  accepted (item i closes n ∷ ts) done p v e = no_result e
  accepted (item i ends n ∷ t ∷ ts) s p v e = no_result e
  accepted (item i ends n ∷ []) start p v e = no_result e
  accepted (item i ends n ∷ []) (inside true d) p v e = no_result e
  accepted (item i ends n ∷ []) (inside false d) p v e = no_result e
  accepted (item i ends n ∷ []) done p v e = ended_last i n p v (eqb n end) refl e

  pub accepted_tree : (p : ℕ) (ts : List Item) (v : Walk) → checked end (Ok (walk p 0 Start)) ts ≡ Ok v → OneTree end ts
  accepted_tree p ts v e = accepted ts start p v e

pub accepts : (b : List ℕ) (h : Header) (r : Result Walk TokenFault) → r ≡ walked b h → Accepts b h r
accepts b h r e = record {
  only = λ p. accepted_tree (ending h) h.structure (all_items b h) p.0 (sym e ∙ p.1);
  every = λ t. let p = tree_accepted (ending h) h.structure (all_items b h) t in (p.0, e ∙ p.1);
}
