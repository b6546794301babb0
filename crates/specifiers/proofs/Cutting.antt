-- Each specifier takes a cell, so what is left is cut as the whole is.
use Rattle.std.proofs.Common.{◌≡◌, ℕ, zero, suc, ◌<◌, ◌≤◌, Bool, true, false, cond, eqb, List, ◌∷◌, length, get_or, drop, Some, None, Ok, Err, codes, Option, Result, refl, ap, arith}
use Rattle.std.proofs.lemmas.List.{length-drop}
use Rattle.std.proofs.lemmas.Bool.Decides.{nat_tests}
use Rattle.faults.specs.declared.fault.RouteFault.{RouteFault}
use Rattle.faults.specs.declared.fault.RouteFault.TheVariants.{NoEnd}
use Rattle.fdt.specs.Tokens.{after}
use Rattle.fdt.proofs.Onward.{after_by}
use Rattle.properties.specs.Properties.{Owned}
use Rattle.tree.specs.Nodes.{Entry, Listed}
use Rattle.tree.specs.Phandles.{places}
use Rattle.values.specs.Counts.{count_or, interrupt_cells}
use Rattle.values.specs.Values.{cell_by, node_of, property_of}
use Rattle.specifiers.specs.Cuts.{cuts_by, cuts_in, specifiers_in}
use Rattle.specifiers.specs.Specifiers.{Begun, CutOff, Specified, Uncut, cut_at, head_by, head_of, next_specifier}

-- a count that was read is at least 1
some_by : (missing : RouteFault) (node n : ℕ) (r : Result (Option Owned) RouteFault) → after (after r (cell_by 1 4 node)) (count_or missing) ≡ Ok n → 1 ≤ n
some_by missing node n (Err f) e = cc
some_by missing node n (Ok None) e = cc
some_by missing node n (Ok (Some p)) e = grind (arith, nat_tests)

some_cells : (e : Entry) (n : ℕ) → interrupt_cells e ≡ Ok n → 1 ≤ n
some_cells e n = some_by (NoEnd (places e.place 0)) e.place n (property_of (codes "#interrupt-cells") e)

-- fewer cells are left after each specifier
head_short : (es : List Listed) (u : Uncut) (p : Option Entry) (h : Begun) → head_by es u p ≡ Ok h → length h.cells ≤ length u.left
head_short es u (Some p) h e = grind arith
head_short es u None h e =
    after_by (node_of es (get_or u.left 0 0) (places u.device.place u.property)) (λ p. Ok (record { parent = p; cells = drop 1 u.left })) h
    (λ p ep q. grind (arith, length-drop {A = ℕ})) e

cut_short : (u : Uncut) (h : Begun) (n : ℕ) (c : CutOff) → 1 ≤ n → length h.cells ≤ length u.left → cut_at u h n ≡ Ok (Some c)
    → length c.rest.left < length u.left
cut_short u h n c one short e = grind (arith, nat_tests, length-drop {A = ℕ})

passed : (t : Bool) (r : Result (Option CutOff) RouteFault) (c : CutOff) → cond t (Ok None) r ≡ Ok (Some c) → r ≡ Ok (Some c)
passed true r c e = cc
passed false r c e = e

pub shorter : (es : List Listed) (u : Uncut) (c : CutOff) → next_specifier es u ≡ Ok (Some c) → length c.rest.left < length u.left
shorter es u c e =
    after_by (head_of es u) (λ h. after (interrupt_cells h.parent) (cut_at u h)) (Some c) (λ h eh.
    after_by (interrupt_cells h.parent) (cut_at u h) (Some c) (λ n en q.
    cut_short u h n c (some_cells h.parent n en) (head_short es u u.parent h eh) q))
    (passed (eqb (length u.left) 0) (after (head_of es u) (λ h. after (interrupt_cells h.parent) (cut_at u h))) c e)

by_same : (k l : Uncut → List (Result Specified RouteFault)) (r : Result (Option CutOff) RouteFault)
    → ((c : CutOff) → r ≡ Ok (Some c) → k c.rest ≡ l c.rest) → cuts_by k r ≡ cuts_by l r
by_same k l (Err f) same = refl
by_same k l (Ok None) same = refl
by_same k l (Ok (Some c)) same = ap (λ z. Ok c.specifier ∷ z) (same c refl)

-- any number of specifiers that is large enough gives the same
fuel : (n m : ℕ) (es : List Listed) (u : Uncut) → length u.left < n → length u.left < m → cuts_in n es u ≡ cuts_in m es u
fuel zero m es u p q = absurd (omega arith)
fuel (suc n) zero es u p q = absurd (omega arith)
fuel (suc n) (suc m) es u p q =
    by_same (cuts_in n es) (cuts_in m es) (next_specifier es u)
    (λ c e. let s = shorter es u c e in fuel n m es c.rest (omega arith) (omega arith))

pub specifiers_is : (es : List Listed) (u : Uncut) → specifiers_in es u ≡ cuts_by (specifiers_in es) (next_specifier es u)
unfolding specifiers_in
specifiers_is es u =
    by_same (cuts_in (length u.left) es) (λ v. cuts_in (suc (length v.left)) es v) (next_specifier es u)
    (λ c e. let s = shorter es u c e in fuel (length u.left) (suc (length c.rest.left)) es c.rest (omega arith) (omega arith))
