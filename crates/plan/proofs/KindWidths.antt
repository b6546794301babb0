-- A kind that is read of a node has at most 64 lines.
use Rattle.std.proofs.Common.{◌≡◌, ℕ, ◌≤◌, true, Some, None, Ok, Err, Option, Result, refl, ap, subst, ◌∙◌, arith}
use Rattle.std.specs.Prelude.{◌&&◌, codes, nat_le}
use Rattle.std.proofs.lemmas.Bool.Decides.{nat_tests}
use Rattle.std.proofs.lemmas.Option.{none-some, same_Some, cond_some}
use Rattle.fdt.specs.Tokens.{after}
use Rattle.fdt.proofs.Onward.{after_by, cond_ok, ok_same}
use Rattle.faults.specs.declared.fault.RouteFault.{RouteFault}
use Rattle.tree.specs.Nodes.{Entry}
use Rattle.values.specs.Values.{Cell, cell_in, cells_within}
use Rattle.kind_values.specs.Kinds.{Text, compatible, inputs, ndev}
use Rattle.table.specs.Ranges.{in_range}
use Rattle.kinds.specs.declared.binding.Binding.{Binding}
use Rattle.kinds.specs.declared.binding.Binding.TheVariants.{I8259, Plic, StatusMux}
use Rattle.kinds.specs.Bindings.{binding_in}
use Rattle.kinds.specs.Kinds.{Sort, plic, mux, width_of}
use Rattle.kinds.specs.Reading.{Called, both, bound, bound_option, called, called_by, called_in, counted, fitting, held, kind_in, levels_by, mux_of, or_value, plic_of, width_by}

-- an answer is no refusal
pub ok_err : {X F P : Type 0} (x : X) (f : F) → ◌≡◌ {A = Result X F} (Err f) (Ok x) → P
ok_err x f e = absurd (let o : ◌≡◌ {A = ℕ} 0 1 = cc in omega arith)

in_range_below : (most n w : ℕ) → in_range most n ≡ Some w → w ≤ most
in_range_below most n w e = let p = cond_some (nat_le 1 n && nat_le n most) n w e in subst (λ x. x ≤ most) p.1 (below n p.0)
  where
    below : (n : ℕ) → (nat_le 1 n && nat_le n most) ≡ true → n ≤ most
    below n t = grind (arith, nat_tests)

value_below : (most node property w n : ℕ) (o : Option ℕ) → in_range most n ≡ o → or_value node property o ≡ Ok w → w ≤ most
value_below most node property w n None e h = ok_err w _ h
value_below most node property w n (Some x) e h = in_range_below most n w (e ∙ ap Some (ok_same h))

width_below : (most node w : ℕ) (o : Option Cell) → width_by most node o ≡ Ok w → w ≤ most
width_below most node w None h = ok_err w _ h
width_below most node w (Some c) h = value_below most node c.property.0 w c.value (in_range most c.value) refl h

read_below : (most node w : ℕ) (r : Result (Option Cell) RouteFault) → after r (width_by most node) ≡ Ok w → w ≤ most
read_below most node w r h = after_by r (width_by most node) w (λ o _ t. width_below most node w o t) h

-- a kind has at most 64 lines
abbrev Narrow : Sort → Type 0
Narrow k = width_of k ≤ 64

plic_below : (e : Entry) (k : Sort) → plic_of e ≡ Ok k → Narrow k
plic_below e k h =
    after_by (after (ndev e) (width_by 64 e.place)) (λ w. after (after (cells_within (codes "factory,priorities") e) (levels_by e.place w)) (λ p. Ok (plic w p))) k
    (λ w s t. after_by (after (cells_within (codes "factory,priorities") e) (levels_by e.place w)) (λ p. Ok (plic w p)) k
    (λ p _ u. subst Narrow (ok_same u) (read_below 64 e.place w (ndev e) s)) t) h

mux_below : (e : Entry) (k : Sort) → mux_of e ≡ Ok k → Narrow k
mux_below e k h =
    after_by (after (inputs e) (width_by 32 e.place)) (λ w. Ok (mux w)) k
    (λ w s t. subst Narrow (ok_same t) (let l = read_below 32 e.place w (inputs e) s in omega arith)) h

bound_below : (e : Entry) (b : Binding) (k : Sort) → bound e b ≡ Ok k → Narrow k
bound_below e I8259 k h = subst Narrow (ok_same h) (omega arith)
bound_below e Plic k h = plic_below e k h
bound_below e StatusMux k h = mux_below e k h

-- each kind that is called is narrow
abbrev NarrowIn : Option Sort → Type 0
NarrowIn o = (k : Sort) → o ≡ Some k → Narrow k

narrow_none : NarrowIn None
narrow_none k e = absurd (none-some k e)

option_below : (e : Entry) (b : Option Binding) (o : Option Sort) → bound_option e b ≡ Ok o → NarrowIn o
option_below e None o h = subst NarrowIn (ok_same h) narrow_none
option_below e (Some b) o h =
    after_by (bound e b) (λ k. Ok (Some k)) o (λ k s t. subst NarrowIn (ok_same t) (λ l u. subst Narrow (same_Some k l u) (bound_below e b k s))) h

by_below : (e : Entry) (t : Option Text) (c : Called) → called_by e t ≡ Ok c → NarrowIn c.kind
by_below e None c h = subst (λ (x : Called). NarrowIn x.kind) (ok_same h) narrow_none
by_below e (Some t) c h =
    after_by (bound_option e (binding_in t.bytes)) (λ k. Ok (called t.property k)) c
    (λ o s u. subst (λ (x : Called). NarrowIn x.kind) (ok_same u) (option_below e (binding_in t.bytes) o s)) h

called_below : (e : Entry) (c : Called) → called_in e ≡ Ok c → NarrowIn c.kind
called_below e c h = after_by (compatible e) (called_by e) c (λ t _ u. by_below e t c u) h

both_first : {A B : Type 0} (a : Result A RouteFault) (b : Result B RouteFault) (x : A × B) → both a b ≡ Ok x → a ≡ Ok x.0
both_first (Ok a) (Ok b) x h = let e : (a, b) ≡ x = ok_same h in ap (λ y. Ok y.0) e
both_first (Ok a) (Err g) x h = ok_err x g h
both_first (Err f) (Ok b) x h = ok_err x f h
both_first (Err f) (Err g) x h = ok_err x _ h

held_same : {X : Type 0} (r : Result X RouteFault) (x : X) → held r ≡ Ok x → r ≡ Ok x
held_same (Ok y) x h = ap Ok (ok_same h)
held_same (Err f) x h = ok_err x _ h

counted_same : (node : ℕ) (k l : Sort) (o : Option Cell) → counted node k o ≡ Ok l → k ≡ l
counted_same node k l None h = ok_err l _ h
counted_same node k l (Some c) h = ok_same (cond_ok _ (Ok k) _ l h).1

fitting_below : (node : ℕ) (c : Called) (o : Option Sort) (cells : Option Cell) (k : Sort) → NarrowIn o → fitting node c o cells ≡ Ok k → Narrow k
fitting_below node c None cells k n h = ok_err k _ h
fitting_below node c (Some l) cells k n h = n k (ap Some (counted_same node l k cells h))

pub kind_below : (e : Entry) (k : Sort) → kind_in e ≡ Ok k → width_of k ≤ 64
kind_below e k h =
    after_by (held (both (called_in e) (cell_in (codes "#interrupt-cells") 1 4 e))) (λ b. fitting e.place b.0 b.0.kind b.1) k
    (λ b s t. fitting_below e.place b.0 b.0.kind b.1 k (called_below e b.0 (both_first (called_in e) (cell_in (codes "#interrupt-cells") 1 4 e) b (held_same _ b s))) t) h
