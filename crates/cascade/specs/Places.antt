-- Where the lines of a pair stand, and how many are in service.
use Rattle.std.specs.Prelude.{◌≡◌, ℕ, zero, suc, ◌+◌, ◌-◌, ◌<◌, ◌≤◌, Bool, false, cond, ◌⊎◌, List, [], ◌∷◌, ◌++◌, length, set, Some, None, Option, ◌≢◌, nat_lt, slice_set, refl}
use Rattle.std.proofs.Common.{sym, ap, ◌∙◌, inl, inr, ⊎_elim, arith}
use Rattle.std.proofs.lemmas.Grind.{common_steps}
use Rattle.std.proofs.lemmas.Bool.Decides.{nat_tests}
use Rattle.std.proofs.lemmas.List.{length-set, set_past, set-append_left, set-append_right, set_comm}
use Rattle.std.proofs.lemmas.Bool.{cases_eq, cases_lt}
use Rattle.line.specs.declared.row.Row.{Row}
use Rattle.line.specs.declared.row.Step.{Step}
use Rattle.line.specs.Steps.{stepped}
use Rattle.controller.specs.declared.call.Change.{Change}
use Rattle.controller.specs.Meaning.{at, refusal, moved, step_at, record_at}
use Rattle.cascade.specs.Pairs.{pair_lines, used, busy}

pub within : (ls : List (Option Row)) (k : ℕ) (r : Row) → at ls k ≡ Some r → k < length ls
within ls k r e = grind (arith, common_steps)

module _ (ps cs : List (Option Row)) (k : ℕ) where
  pub left : (i : ℕ) → i < length ps → (i ≢ k) → at (pair_lines k ps cs) i ≡ at ps i
  left i h n = grind (arith, common_steps)

  pub right : (i : ℕ) → length ps ≤ i → at (pair_lines k ps cs) i ≡ at cs (i - length ps)
  right i h = grind (arith, common_steps)

  pub gap : k < length ps → at (pair_lines k ps cs) k ≡ None
  gap h = grind (arith, common_steps)

  pub pair_wide : length (pair_lines k ps cs) ≡ length ps + length cs
  pair_wide = grind (arith, common_steps)

  -- an open line of the pair is one of the parent's but k, or one of the child's
  pub split : k < length ps → (i : ℕ) (r : Row) → at (pair_lines k ps cs) i ≡ Some r →
      ((i < length ps) × (i ≢ k) × (at ps i ≡ Some r)) ⊎ ((length ps ≤ i) × (at cs (i - length ps) ≡ Some r))
  split hk i r e =
      ⊎_elim
      (λ (h : i < length ps).
      ⊎_elim
      (λ (q : i ≡ k). let n : at (pair_lines k ps cs) k ≡ None = gap hk in absurd cc)
      (λ (n : i ≡ k → ⊥). inl (h, n, sym (left i h n) ∙ e))
      (cases_eq i k))
      (λ (h : length ps ≤ i). inr (h, sym (right i h) ∙ e))
      (cases_lt i (length ps))

  -- a line of the pair is below its width as the parent's or the child's line is below theirs
  below_left : (i : ℕ) → i < length ps → nat_lt i (length (pair_lines k ps cs)) ≡ nat_lt i (length ps)
  below_left i h = grind (arith, common_steps, nat_tests)

  below_right : (i : ℕ) → length ps ≤ i → nat_lt i (length (pair_lines k ps cs)) ≡ nat_lt (i - length ps) (length cs)
  below_right i h = grind (arith, common_steps, nat_tests)

  pub refusal_left : (ch : Change) (i : ℕ) → i < length ps → (i ≢ k) → refusal ch (pair_lines k ps cs) i ≡ refusal ch ps i
  refusal_left ch i h n = grind (arith, common_steps, nat_tests)

  pub refusal_right : (ch : Change) (i : ℕ) → length ps ≤ i → refusal ch (pair_lines k ps cs) i ≡ refusal ch cs (i - length ps)
  refusal_right ch i h = grind (arith, common_steps, nat_tests)

  pub record_left : (i : ℕ) → i < length ps → (i ≢ k) → record_at (pair_lines k ps cs) i ≡ record_at ps i
  record_left i h n = grind (arith, common_steps, nat_tests)

  pub record_right : (i : ℕ) → length ps ≤ i → record_at (pair_lines k ps cs) i ≡ record_at cs (i - length ps)
  record_right i h = grind (arith, common_steps, nat_tests)

  pub step_left : (s : Step) (i : ℕ) → i < length ps → (i ≢ k) → pair_lines k (step_at s ps i) cs ≡ step_at s (pair_lines k ps cs) i
  step_left s i h n =
      let x = moved s (at ps i) in
      ap (λ (ls : List (Option Row)). ls ++ cs) (set_comm ps i k x None n)
      ∙ sym (set-append_left (slice_set ps k None) cs i x (omega (arith, length-set ps k None)))
      ∙ ap (λ (y : Option Row). set (pair_lines k ps cs) i (moved s y)) (sym (left i h n))

  pub step_right : (s : Step) (i : ℕ) → length ps ≤ i → pair_lines k ps (step_at s cs (i - length ps)) ≡ step_at s (pair_lines k ps cs) i
  step_right s i h =
      sym (set-append_right (slice_set ps k None) cs (length ps) i (moved s (at cs (i - length ps))) (length-set ps k None) h)
      ∙ ap (λ (y : Option Row). set (pair_lines k ps cs) i (moved s y)) (sym (right i h))

pub busy_set : (ls : List (Option Row)) (i : ℕ) (x : Option Row) → i < length ls → busy (slice_set ls i x) + used (at ls i) ≡ busy ls + used x
busy_set [] i x h = absurd (let f : ⊥ = omega arith in f)
busy_set (y ∷ ys) zero x h = omega arith
busy_set (y ∷ ys) (suc n) x h = omega (arith, busy_set ys n x (omega arith))

used_moved : (s : Step) → ((r : Row) → (stepped s r).service ≡ r.service) → (x : Option Row) → used (moved s x) ≡ used x
used_moved s keeps x = grind arith

-- a step that leaves the service of a line leaves the number of lines in service
pub busy_step : (s : Step) → ((r : Row) → (stepped s r).service ≡ r.service) → (ls : List (Option Row)) (i : ℕ) → busy (step_at s ls i) ≡ busy ls
busy_step s keeps ls i =
    ⊎_elim
    (λ (h : i < length ls). omega (arith, busy_set ls i (moved s (at ls i)) h, used_moved s keeps (at ls i)))
    (λ (h : length ls ≤ i). ap busy (set_past ls i (moved s (at ls i)) h))
    (cases_lt i (length ls))

zero_false : (b : Bool) → cond {A = ℕ} b 1 0 ≡ 0 → b ≡ false
zero_false b e = grind arith

pub unused : (r : Row) → used (Some r) ≡ 0 → r.service ≡ false
unused r e = zero_false r.service e

used_zero : (x : Option Row) → ((r : Row) → x ≡ Some r → r.service ≡ false) → used x ≡ 0
used_zero x h = grind arith

pub zero_busy : (ls : List (Option Row)) → ((i : ℕ) (r : Row) → at ls i ≡ Some r → r.service ≡ false) → busy ls ≡ 0
zero_busy [] h = refl
zero_busy (x ∷ xs) h = omega (arith, used_zero x (λ r q. h 0 r q), zero_busy xs (λ i r q. h (suc i) r q))
