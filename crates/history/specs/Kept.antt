-- Whether a device was kept up with over a list of events, and whether each claim found it waiting.
use Rattle.std.specs.Prelude.{◌≡◌, ℕ, Bool, true, cond, ◌&&◌, List, [], ◌∷◌, ◌++◌}
use Rattle.line.specs.declared.row.Row.{Row}
use Rattle.line.specs.declared.row.Sense.{Sense}
use Rattle.line.specs.Rows.{fresh, rests, waits}
use Rattle.line.specs.Steps.{after}
use Rattle.history.specs.declared.call.Event.{Event}
use Rattle.history.specs.Own.{is_change, is_claim, step_of, at_most_one, stands}

-- just before each change of device i, and at the end, its record is masked, or neither requested nor in service
pub record KeptUp (s : Sense) (i : ℕ) (h : List Event) : Type 0 where
  pub before : (p : List Event) (e : Event) (q : List Event) → h ≡ p ++ (e ∷ q) → is_change i e.call e.answer ≡ true → rests (stands s i p) ≡ true
  pub at_end : rests (stands s i h) ≡ true

-- each claim that names device i finds it waiting
abbrev pub ClaimsWait : Sense → ℕ → List Event → Type 0
ClaimsWait s i h =
    (p : List Event) (e : Event) (q : List Event) → h ≡ p ++ (e ∷ q) → is_claim i e.call e.answer ≡ true → waits (stands s i p) ≡ true

-- the test of KeptUp, for a device that stands so before the list
abbrev pub keeps_from : ℕ → Row → List Event → Bool
keeps_from i r [] = rests r
keeps_from i r (e ∷ h) = cond (is_change i e.call e.answer) (rests r) true && keeps_from i (after r (at_most_one (step_of i e))) h

abbrev pub keeps_up : Sense → ℕ → List Event → Bool
keeps_up s i h = keeps_from i (fresh s) h
