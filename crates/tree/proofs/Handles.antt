-- The phandles are accepted exactly if they are good and distinct.
use Rattle.std.proofs.Common.{◌≡◌, ℕ, ◌+◌, Bool, true, false, cond, is_some, ◌||◌, eqb, List, [], ◌∷◌, ◌++◌, length, Some, None, Ok, Err, Option, Result, sym, refl, ap, ◌∙◌, subst, append_assoc, append-nil}
use Rattle.std.proofs.lemmas.Bool.{eqb-true, eqb-false, eq-eqb, ne_eqb, or_parts, or_from, and_from, and_right}
use Rattle.faults.specs.declared.fault.TokenFault.{TokenFault}
use Rattle.fdt.specs.Tokens.{after}
use Rattle.properties.specs.Properties.{Owned}
use Rattle.faults.specs.declared.fault.RouteFault.TheVariants.{Value, Phandle}
use Rattle.tree.specs.Nodes.{Entry, Listed, listed, broken}
use Rattle.tree.specs.Opening.{Readable}
use Rattle.tree.specs.Phandles.{phandle_name, phandle_of, places, held, one_cell, is_cell, used, good_handle, handle_checked, phandle_checked, phandles_from, handle, GoodPhandles}
use Rattle.fdt.proofs.Onward.{after_by, cond_ok}
use Rattle.tree.proofs.Readable.{readable_more}

pub held_ok : {X : Type 0} (r : Result X TokenFault) (x : X) → held r ≡ Ok x → r ≡ Ok x
held_ok (Ok y) x e = cc
held_ok (Err f) x e = cc

-- a test that refuses was not passed
refuses : {X F : Type 0} (t : Bool) (f : F) (r : Result X F) (x : X) → cond t (Err f) r ≡ Ok x → (t ≡ false) × (r ≡ Ok x)
refuses true f r x e = cc
refuses false f r x e = (refl, e)

-- the phandle of e is one cell, neither 0 nor 0xffffffff, and no node before has it
pub record FineOne (before : List Listed) (p : Owned) : Type 0 where
  one : length p.value.bytes ≡ 4
  some : handle p ≡ 0 → ⊥
  most : handle p ≡ 0xffffffff → ⊥
  new : used (handle p) before ≡ Ok false

abbrev FineAt : List Listed → Entry → Type 0
FineAt before e = (p : Owned) → phandle_of e ≡ Ok (Some p) → FineOne before p

abbrev pub Fine : List Listed → List Listed → Type 0
Fine before [] = Unit {0}
Fine before (broken f ∷ es) = ⊥
Fine before (listed e ∷ es) = FineAt before e × Fine (before ++ (listed e ∷ [])) es

-- what is accepted is fine
good_fine : (node : ℕ) (p : Owned) (before : List Listed) (has : Bool) → length p.value.bytes ≡ 4 → good_handle node p (handle p) before ≡ Ok has → FineOne before p
good_fine node p before has four e =
    let fault = Phandle (places node p.place) in
    let x = handle p in
    let t = refuses (eqb x 0 || eqb x 0xffffffff) fault (after (held (used x before)) (λ u. cond u (Err fault) (Ok true))) has e in
    let o = or_parts (eqb x 0) (eqb x 0xffffffff) t.0 in
    after_by (held (used x before)) (λ u. cond u (Err fault) (Ok true)) has (λ u eu f.
    let w = refuses u fault (Ok true) has f in
    record {
      one = four;
      some = eqb-false x 0 o.0;
      most = eqb-false x 0xffffffff o.1;
      new = held_ok (used x before) u eu ∙ ap Ok w.0;
    }) t.1

handle_fine : (node : ℕ) (p : Owned) (before : List Listed) (has : Bool) → handle_checked node before (Some p) ≡ Ok has → FineOne before p
handle_fine node p before has =
    after_by (one_cell node p) (λ x. good_handle node p x before) has (λ x ex e.
    let c = cond_ok (eqb (length p.value.bytes) 4) (Ok (handle p)) (Value (places node p.place)) x ex in
    let same : handle p ≡ x = cc c.1 in
    good_fine node p before has (eqb-true (length p.value.bytes) 4 c.0) (ap (λ z. good_handle node p z before) same ∙ e))

pub accepted_fine : (n m : ℕ) (before es : List Listed) → phandles_from n before es ≡ Ok m → Fine before es
accepted_fine n m before [] e = tt
accepted_fine n m before (broken f ∷ es) e = cc
accepted_fine n m before (listed d ∷ es) e =
    after_by (phandle_checked before d) (λ has. phandles_from (cond has (n + 1) n) (before ++ (listed d ∷ [])) es) m (λ has eh rest. (
      (λ p ep. handle_fine d.place p before has (sym (ap (λ r. after (held r) (handle_checked d.place before)) ep) ∙ eh)),
      accepted_fine (cond has (n + 1) n) m (before ++ (listed d ∷ [])) es rest,
    )) e

-- what is fine is accepted
fine_handle : (node : ℕ) (p : Owned) (before : List Listed) → FineOne before p → handle_checked node before (Some p) ≡ Ok true
fine_handle node p before f =
    let t = eq-eqb (length p.value.bytes) 4 f.one in
    let o = or_from (eqb (handle p) 0) (eqb (handle p) 0xffffffff) (ne_eqb (handle p) 0 f.some) (ne_eqb (handle p) 0xffffffff f.most) in
    ap (λ b. after (cond b (Ok (handle p)) (Err (Value (places node p.place)))) (λ x. good_handle node p x before)) t
    ∙ ap (λ b. cond b (Err (Phandle (places node p.place))) (after (held (used (handle p) before)) (λ u. cond u (Err (Phandle (places node p.place))) (Ok true)))) o
    ∙ ap (λ r. after (held r) (λ u. cond u (Err (Phandle (places node p.place))) (Ok true))) f.new

fine_checked : (before : List Listed) (e : Entry) (o : Option Owned) → phandle_of e ≡ Ok o → FineAt before e → phandle_checked before e ≡ Ok (is_some o)
fine_checked before e None q f = ap (λ r. after (held r) (handle_checked e.place before)) q
fine_checked before e (Some p) q f = ap (λ r. after (held r) (handle_checked e.place before)) q ∙ fine_handle e.place p before (f p q)

pub fine_accepted : (n : ℕ) (before es : List Listed) → Readable es → Fine before es → (m : ℕ) × (phandles_from n before es ≡ Ok m)
fine_accepted n before [] c f = (n, refl)
fine_accepted n before (broken g ∷ es) c f = absurd c
fine_accepted n before (listed e ∷ es) c f =
    let t = is_some (c.0 phandle_name).0 in
    let q = fine_checked before e (c.0 phandle_name).0 (c.0 phandle_name).1 f.0 in
    let r = fine_accepted (cond t (n + 1) n) (before ++ (listed e ∷ [])) es c.1 f.1 in
    (r.0, ap (λ z. after z (λ has. phandles_from (cond has (n + 1) n) (before ++ (listed e ∷ [])) es)) q ∙ r.1)

-- a phandle that some node has is used
is_cell_yes : (x : ℕ) (p : Owned) → length p.value.bytes ≡ 4 → handle p ≡ x → is_cell x (Some p) ≡ true
is_cell_yes x p four e = and_from (eqb (length p.value.bytes) 4) (eqb (handle p) x) (eq-eqb (length p.value.bytes) 4 four) (eq-eqb (handle p) x e)

-- past a node that does not have it
passed : (t : Bool) (r : Result Bool TokenFault) → cond t (Ok true) r ≡ Ok false → r ≡ Ok false
passed true r e = cc
passed false r e = e

used_has : (x : ℕ) (xs ys : List Listed) (d : Entry) (p : Owned) → phandle_of d ≡ Ok (Some p) → length p.value.bytes ≡ 4 → handle p ≡ x
    → used x (xs ++ (listed d ∷ ys)) ≡ Ok false → ⊥
used_has x [] ys d p q four e u =
    let yes = is_cell_yes x p four e in
    cc (ap (λ r. after r (λ o. cond (is_cell x o) (Ok true) (used x ys))) q, ap (λ t. cond t (Ok true) (used x ys)) yes)
used_has x (broken f ∷ xs) ys d p q four e u = cc
used_has x (listed c ∷ xs) ys d p q four e u =
    after_by (phandle_of c) (λ o. cond (is_cell x o) (Ok true) (used x (xs ++ (listed d ∷ ys)))) false
    (λ o eo w. used_has x xs ys d p q four e (passed (is_cell x o) (used x (xs ++ (listed d ∷ ys))) w)) u

-- a phandle that no node has is not used
is_cell_no : (x : ℕ) (o : Option Owned) → ((p : Owned) → o ≡ Some p → handle p ≡ x → ⊥) → is_cell x o ≡ false
is_cell_no x None f = refl
is_cell_no x (Some p) f = and_right (eqb (length p.value.bytes) 4) (eqb (handle p) x) (ne_eqb (handle p) x (f p refl))

used_new : (x : ℕ) (es : List Listed) → Readable es
    → ((xs ys : List Listed) (d : Entry) (p : Owned) → es ≡ xs ++ (listed d ∷ ys) → phandle_of d ≡ Ok (Some p) → handle p ≡ x → ⊥)
    → used x es ≡ Ok false
used_new x [] c f = refl
used_new x (broken g ∷ es) c f = absurd c
used_new x (listed d ∷ es) c f =
    let o = (c.0 phandle_name).0 in
    let q = (c.0 phandle_name).1 in
    ap (λ r. after r (λ z. cond (is_cell x z) (Ok true) (used x es))) q
    ∙ ap (λ t. cond t (Ok true) (used x es)) (is_cell_no x o (λ p e. f [] es d p refl (q ∙ ap Ok e)))
    ∙ used_new x es c.1 (λ xs ys b p e. f (listed d ∷ xs) ys b p (ap (λ z. listed d ∷ z) e))

-- what is fine holds of each node and those before it
fine_split : (before xs ys : List Listed) (e : Entry) → Fine before (xs ++ (listed e ∷ ys)) → FineAt (before ++ xs) e
fine_split before [] ys e f = rw append-nil f.0
fine_split before (broken g ∷ xs) ys e f = absurd f
fine_split before (listed d ∷ xs) ys e f = rw append_assoc at (fine_split (before ++ (listed d ∷ [])) xs ys e f.1)

pub fine_good : (es : List Listed) → Fine [] es → GoodPhandles es
fine_good es f = record { one = one; proper = proper; distinct = distinct }
  where
    at_node : (xs ys : List Listed) (e : Entry) → es ≡ xs ++ (listed e ∷ ys) → FineAt xs e
    at_node xs ys e s = fine_split [] xs ys e (subst (λ (z : List Listed). Fine [] z) s f)

    one : (xs ys : List Listed) (e : Entry) (p : Owned) → es ≡ xs ++ (listed e ∷ ys) → phandle_of e ≡ Ok (Some p) → length p.value.bytes ≡ 4
    one xs ys e p s q = (at_node xs ys e s p q).one

    proper : (xs ys : List Listed) (e : Entry) (p : Owned) → es ≡ xs ++ (listed e ∷ ys) → phandle_of e ≡ Ok (Some p) → (handle p ≡ 0 → ⊥) × (handle p ≡ 0xffffffff → ⊥)
    proper xs ys e p s q = ((at_node xs ys e s p q).some, (at_node xs ys e s p q).most)

    distinct : (xs ys zs : List Listed) (d e : Entry) (p q : Owned) → es ≡ xs ++ (listed d ∷ (ys ++ (listed e ∷ zs)))
        → phandle_of d ≡ Ok (Some p) → phandle_of e ≡ Ok (Some q) → handle p ≡ handle q → ⊥
    distinct xs ys zs d e p q s pd pe same =
        used_has (handle q) xs ys d p pd (one xs (ys ++ (listed e ∷ zs)) d p s pd) same
        (at_node (xs ++ (listed d ∷ ys)) zs e (s ∙ sym (append_assoc xs (listed d ∷ ys) (listed e ∷ zs))) q pe).new

-- good phandles are fine, node by node
module _ (all : List Listed) (g : GoodPhandles all) where
  good_from : (before es : List Listed) → all ≡ before ++ es → Readable before → Readable es → Fine before es
  good_from before [] s cb ce = tt
  good_from before (broken f ∷ es) s cb ce = absurd ce
  good_from before (listed e ∷ es) s cb ce = (
    (λ p q. record {
      one = g.one before es e p s q;
      some = (g.proper before es e p s q).0;
      most = (g.proper before es e p s q).1;
      new = used_new (handle p) before cb (λ xs ys d r sb qd same.
          g.distinct xs ys es d e r p (s ∙ ap (λ z. z ++ (listed e ∷ es)) sb ∙ append_assoc xs (listed d ∷ ys) (listed e ∷ es)) qd q same);
    }),
    good_from (before ++ (listed e ∷ [])) es (s ∙ sym (append_assoc before (listed e ∷ []) es)) (readable_more before (listed e ∷ []) cb (ce.0, tt)) ce.1,
  )

pub good_fine_all : (es : List Listed) → GoodPhandles es → Readable es → Fine [] es
good_fine_all es g c = good_from es g [] es refl tt c
