use Rattle.std.proofs.Common.{◌≡◌, ℕ, zero, suc, ◌+◌, ◌<◌, List, get_or, refl, ap, ◌∙◌, subst, add-zero, zero-add, arith, rules, tests}
use Rattle.std.specs.Array.{IsFromFnResultFrom}
use Rattle.std.specs.Fn.{Called}
use denote.Param.Members.{Mut}
use Rattle.plic.specs.Offers.{given_level, level_of}
use Rattle.plic.proofs.chip.ByPriority.controller.Goals as goal

-- calls that leave f as it was give at each number a value that v reads as h says
made_at : {F B : Type 0} {g : Mut F (ℕ × Unit {0}) B} {f : F} (v : B → ℕ) (h : ℕ → ℕ) (ys : List B) → ((x : ℕ) (r : B) (q : F) → Called g f (x, tt) r q → (q ≡ f) × (v r ≡ h x))
    → (i n : ℕ) (p : F) → p ≡ f → IsFromFnResultFrom g p ys i n → (k : ℕ) (d : B) → k < n → v (get_or ys (i + k) d) ≡ h (i + k)
made_at v h ys calls i zero p e w k d l = absurd (let z : ⊥ = omega arith in z)
made_at {F} {B} {g} {f} v h ys calls i (suc n) p e w zero d l =
    let z : i + 0 ≡ i = add-zero i in
    let c = calls i w.1 w.0 (subst (λ (s : F). Called g s (i, tt) w.1 w.0) e w.3) in
    rw z (ap v (w.2.1 d) ∙ c.1)
made_at {F} {B} {g} {f} v h ys calls i (suc n) p e w (suc k) d l =
    let s : i + suc k ≡ i + 1 + k = omega arith in
    let c = calls i w.1 w.0 (subst (λ (s : F). Called g s (i, tt) w.1 w.0) e w.3) in
    rw s (made_at v h ys calls (i + 1) n w.0 c.0 w.4 k d (omega arith))

pub returns-clause-levels : goal.returns-clause-levels
returns-clause-levels c = λ i h.
    let r = c.from_fn-levels.ensures.items in
    let n = r.long in
    let z : 0 + i ≡ i = zero-add i in
    ap (λ o. level_of o i) c.new-2.ensures.order
    ∙ rw z at (made_at (λ x. x) (given_level c.args.priorities.now) c.from_fn-levels.result (λ x y q k. search (rules, tests)) 0 64 _ refl r.each i 0 (omega arith))
