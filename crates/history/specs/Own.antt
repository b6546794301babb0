-- The steps of one device in a list of events, and how it stands after them.
use Rattle.std.specs.Prelude.{ℕ, ◌+◌, Bool, true, false, cond, ◌&&◌, List, [], ◌∷◌, ◌++◌, Some, None, Option, ◌==◌}
use Rattle.line.specs.declared.row.Row.{Row}
use Rattle.line.specs.declared.row.Sense.{Sense}
use Rattle.line.specs.declared.row.Step.{Step}
use Rattle.line.specs.declared.row.Step.TheVariants.{Drive as Driven, Mask as Masked, Sense as Sensed, Claim as Claimed, Complete as Completed, Reset}
use Rattle.line.specs.Rows.{fresh}
use Rattle.line.specs.Steps.{after}
use Rattle.history.specs.declared.call.Call.{Call}
use Rattle.history.specs.declared.call.Call.TheVariants.{Drive, Mask, Claim, Complete}
use Rattle.history.specs.declared.call.Answer.{Answer}
use Rattle.history.specs.declared.call.Answer.TheVariants.{Done, Named, Refused}
use Rattle.history.specs.declared.call.Event.{Event}

-- a call is accepted if its answer is not a refusal
abbrev pub accepted : Answer → Bool
accepted Done = true
accepted (Named o) = true
accepted (Refused number) = false

-- the answer names device i
abbrev pub names : ℕ → Answer → Bool
names i Done = false
names i (Named None) = false
names i (Named (Some j)) = i == j
names i (Refused number) = false

-- an accepted drive or mask change of device i
abbrev pub is_change : ℕ → Call → Answer → Bool
is_change i (Drive j high) a = accepted a && i == j
is_change i (Mask j on) a = accepted a && i == j
is_change i Claim a = false
is_change i (Complete j) a = false

-- a claim that was answered with device i
abbrev pub is_claim : ℕ → Call → Answer → Bool
is_claim i (Drive j high) a = false
is_claim i (Mask j on) a = false
is_claim i Claim a = names i a
is_claim i (Complete j) a = false

-- the step where the test holds, else none
abbrev pub where_so : Bool → Step → Option Step
where_so so s = cond so (Some s) None

-- the step that a call with its answer is for device i, or none
abbrev pub step_by : ℕ → Call → Answer → Option Step
step_by i (Drive j high) a = where_so (accepted a && i == j) (Driven high)
step_by i (Mask j on) a = where_so (accepted a && i == j) (Masked on)
step_by i Claim a = where_so (names i a) Claimed
step_by i (Complete j) a = where_so (accepted a && i == j) Completed

abbrev pub step_of : ℕ → Event → Option Step
step_of i e = step_by i e.call e.answer

-- a step or none, as a list
abbrev pub at_most_one : Option Step → List Step
at_most_one None = []
at_most_one (Some s) = s ∷ []

-- the own steps of device i: its accepted drives, mask changes and completions, and the claims naming it, in order
abbrev pub own : ℕ → List Event → List Step
own i [] = []
own i (e ∷ h) = at_most_one (step_of i e) ++ own i h

-- how device i of a sense stands after a list: as a reset leaves a line, then stepped by its own steps
abbrev pub stands : Sense → ℕ → List Event → Row
stands s i h = after (fresh s) (own i h)

-- a drive or a mask change, as a list
abbrev pub change : Step → List Step
change (Driven high) = Driven high ∷ []
change (Masked on) = Masked on ∷ []
change (Sensed s) = []
change Claimed = []
change Completed = []
change Reset = []

-- the steps that are drives or mask changes
abbrev pub changes_in : List Step → List Step
changes_in [] = []
changes_in (s ∷ ss) = change s ++ changes_in ss

-- the changes of device i
abbrev pub changes : ℕ → List Event → List Step
changes i h = changes_in (own i h)

abbrev pub one : Bool → ℕ
one so = cond so 1 0

-- how many claims were answered with device i
abbrev pub claims : ℕ → List Event → ℕ
claims i [] = 0
claims i (e ∷ h) = one (is_claim i e.call e.answer) + claims i h
