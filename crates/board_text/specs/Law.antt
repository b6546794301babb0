-- Where the law of two boards says that a device is the same on both.
use Rattle.std.specs.Prelude.{◌≡◌, ◌⊎◌, ℕ, Bool, true, false, List}
use Rattle.line.specs.declared.row.Sense.{Sense}
use Rattle.line.specs.declared.row.Sense.TheVariants.{Edge}
use Rattle.line.specs.declared.row.Step.{Step}
use Rattle.line.specs.declared.row.Step.TheVariants.{Drive, Mask, Sense as Sensed, Claim, Complete, Reset}
use Rattle.history.specs.declared.call.Event.{Event}
use Rattle.history.specs.Own.{own, changes}
use Rattle.history.specs.Kept.{KeptUp}

-- both are of one sense, with equal own steps
pub record OneWay (s : Sense) (i : ℕ) (h : List Event) (t : Sense) (j : ℕ) (k : List Event) : Type 0 where
  pub sense : s ≡ t
  pub steps : own i h ≡ own j k

-- both are edge devices that were kept up with, with equal changes
pub record BothKeptUp (s : Sense) (i : ℕ) (h : List Event) (t : Sense) (j : ℕ) (k : List Event) : Type 0 where
  pub old_edge : s ≡ Edge
  pub new_edge : t ≡ Edge
  pub changes : changes i h ≡ changes j k
  pub old : KeptUp Edge i h
  pub new : KeptUp Edge j k

-- the law applies to device i of sense s on a board that is after h, and device j of sense t on one that is after k
abbrev pub Applies : Sense → ℕ → List Event → Sense → ℕ → List Event → Type 0
Applies s i h t j k = OneWay s i h t j k ⊎ BothKeptUp s i h t j k

-- a drive or a mask change
abbrev pub is_change_step : Step → Bool
is_change_step (Drive high) = true
is_change_step (Mask on) = true
is_change_step (Sensed s) = false
is_change_step Claim = false
is_change_step Complete = false
is_change_step Reset = false
