-- The open lines of parts that are reset and cascaded.
use Rattle.std.proofs.Common.{◌≡◌, ℕ, zero, suc, ◌+◌, ◌-◌, ◌<◌, ◌≤◌, true, cond, List, [], ◌∷◌, ◌++◌, length, Some, None, Option, refl, sym, ap, ◌∙◌, ⊎_elim, arith}
use Rattle.std.specs.Prelude.{is_some, ◌≢◌, slice_set, nat_le}
use Rattle.std.proofs.lemmas.Bool.{cases_lt, cond-true, lt-ltb, le-leb}
use Rattle.std.proofs.lemmas.List.{get_or_append_left, length-map, map-append, map-set}
use Rattle.line.specs.declared.row.Row.{Row}
use Rattle.line.specs.declared.row.Step.TheVariants.{Reset}
use Rattle.controller.specs.Meaning.{at, all_reset, moved}
use Rattle.controller.proofs.Resets.{reset_again}
use Rattle.cascade.specs.declared.fault.CascadeFault.{CascadeFault}
use Rattle.cascade.specs.declared.fault.CascadeFault.TheVariants.{NoLine, TooWide}
use Rattle.cascade.specs.Pairs.{pair_lines}
use Rattle.cascade.specs.Places.{left, pair_wide, right, within}
use Rattle.cascade.specs.Questions.{if_open, made_by, made_lines, question_of}
use Rattle.boards.specs.Assembly.{under}

-- a reset opens no line and wires none
pub reset_at : (ls : List (Option Row)) (i : ℕ) → is_some (at (all_reset ls) i) ≡ is_some (at ls i)
reset_at [] i = refl
reset_at (None ∷ xs) zero = refl
reset_at (Some r ∷ xs) zero = refl
reset_at (x ∷ xs) (suc i) = reset_at xs i

pub reset_length : (ls : List (Option Row)) → length (all_reset ls) ≡ length ls
reset_length ls = length-map ls (moved Reset)

-- a reset of the parent or of the child changes nothing of what is made of them
pub under_reset : (ps cs : List (Option Row)) (o : Option ℕ) → under (all_reset ps) cs o ≡ under ps cs o
under_reset ps cs None = reset_again ps
under_reset ps cs (Some k) =
    map-append (moved Reset) (slice_set (all_reset ps) k None) cs
    ∙ ap (λ (xs : List (Option Row)). xs ++ all_reset cs)
    (map-set (moved Reset) (all_reset ps) k None
    ∙ ap (λ (xs : List (Option Row)). slice_set xs k None) (reset_again ps)
    ∙ sym (map-set (moved Reset) ps k None))
    ∙ sym (map-append (moved Reset) (slice_set ps k None) cs)

pub reset_under : (ps cs : List (Option Row)) (o : Option ℕ) → under ps (all_reset cs) o ≡ under ps cs o
reset_under ps cs None = refl
reset_under ps cs (Some k) =
    map-append (moved Reset) (slice_set ps k None) (all_reset cs)
    ∙ ap (λ (xs : List (Option Row)). all_reset (slice_set ps k None) ++ xs) (reset_again cs)
    ∙ sym (map-append (moved Reset) (slice_set ps k None) cs)

is_open_line : (x : Option Row) → is_some x ≡ true → (r : Row) × (x ≡ Some r)
is_open_line None e = absurd cc
is_open_line (Some r) e = (r, refl)

-- a line that is open is there
pub open_within : (ls : List (Option Row)) (i : ℕ) → is_some (at ls i) ≡ true → i < length ls
open_within ls i e = let t = is_open_line (at ls i) e in within ls i t.0 t.1

if_open_none : (x : Option Row) (u : Option CascadeFault) → is_some x ≡ true → if_open x u ≡ u
if_open_none None u e = absurd cc
if_open_none (Some r) u e = refl

-- at an open line a child can be cascaded, if there is room
pub question_none : (ps cs : List (Option Row)) (k : ℕ) → is_some (at ps k) ≡ true → length ps + length cs ≤ 256 → question_of ps cs k ≡ None
question_none ps cs k e h =
    let room : Option CascadeFault = cond (nat_le (length ps + length cs) 256) None (Some TooWide) in
    cond-true _ (if_open (at ps k) room) (Some NoLine) (lt-ltb k (length ps) (open_within ps k e))
    ∙ if_open_none (at ps k) room e
    ∙ cond-true (nat_le (length ps + length cs) 256) None (Some TooWide) (le-leb _ _ h)

-- where the cascade is asked for and has no refusal, it is made
pub made_at_line : (ps cs : List (Option Row)) (k : ℕ) → question_of ps cs k ≡ None → made_lines ps cs (Some k) ≡ under ps cs (Some k)
made_at_line ps cs k e = ap (made_by ps cs k) e

-- the open lines of `whole` below n, but those that are not away, are open in `lines`
pub record Kept (away : ℕ → Type 0) (whole lines : List (Option Row)) (n : ℕ) : Type 0 where
  pub opened : (i : ℕ) → i < n → away i → is_some (at whole i) ≡ true → is_some (at lines i) ≡ true

pub kept_first : (away : ℕ → Type 0) (lines rest : List (Option Row)) (n : ℕ) → n ≤ length lines → Kept away (lines ++ rest) lines n
kept_first away lines rest n h = record {
  opened = λ i lt _ e. ap is_some (sym (get_or_append_left lines rest None i (omega arith))) ∙ e;
}

pub kept_alone : (away near : ℕ → Type 0) (whole lines : List (Option Row)) (n : ℕ) → ((i : ℕ) → near i → away i) → Kept away whole lines n → Kept near whole (all_reset lines) n
kept_alone away near whole lines n f h = record {
  opened = λ i lt a e. reset_at lines i ∙ h.opened i lt (f i a) e;
}

-- the lines of a pair: those of the parent but k, then those of the child
pub kept_pair : (away near : ℕ → Type 0) (whole ps cs : List (Option Row)) (k n m : ℕ) → length ps ≡ n → m ≡ n + length cs → ((i : ℕ) → near i → away i)
    → ((i : ℕ) → near i → i ≢ k) → ((i : ℕ) → i < length cs → at whole (n + i) ≡ at cs i) → Kept away whole ps n → Kept near whole (all_reset (pair_lines k ps cs)) m
kept_pair away near whole ps cs k n m size more f apart there h = record {
  opened = λ i lt a e.
      reset_at (pair_lines k ps cs) i
      ∙ ⊎_elim
      (λ (l : i < length ps). ap is_some (left ps cs k i l (apart i a)) ∙ h.opened i (omega arith) (f i a) e)
      (λ (g : length ps ≤ i).
      let j : ℕ = i - length ps in
      let q : n + j ≡ i = omega arith in
      let t : at whole (n + j) ≡ at cs j = there j (omega arith) in
      ap is_some (right ps cs k i g ∙ sym t ∙ ap (at whole) q) ∙ e)
      (cases_lt i (length ps));
}

pub pair_length : (ps cs : List (Option Row)) (k : ℕ) → length (all_reset (pair_lines k ps cs)) ≡ length ps + length cs
pair_length ps cs k = reset_length (pair_lines k ps cs) ∙ pair_wide ps cs k
