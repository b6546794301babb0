-- A history over which device 0, of sense edge, ticks twice and is kept up with.
use Rattle.std.specs.Prelude.{◌≡◌, true, false, List, [], ◌∷◌, Some}
use Rattle.line.specs.declared.row.Sense.TheVariants.{Edge}
use Rattle.history.specs.declared.call.Call.TheVariants.{Drive, Mask, Claim, Complete}
use Rattle.history.specs.declared.call.Answer.TheVariants.{Done, Named}
use Rattle.history.specs.declared.call.Event.{Event}
use Rattle.history.specs.Own.{claims}
use Rattle.history.specs.Kept.{KeptUp, ClaimsWait}
use Rattle.history.specs.Law.{answered}

-- unmasked, then twice high, claimed, completed and low
abbrev pub two_ticks : List Event
two_ticks =
    answered (Mask 0 false) Done
    ∷ answered (Drive 0 true) Done ∷ answered Claim (Named (Some 0)) ∷ answered (Complete 0) Done ∷ answered (Drive 0 false) Done
    ∷ answered (Drive 0 true) Done ∷ answered Claim (Named (Some 0)) ∷ answered (Complete 0) Done ∷ answered (Drive 0 false) Done
    ∷ []

-- device 0 of sense edge meets every premise of the law, and is claimed twice
pub record PremisesMet (h : List Event) : Type 0 where
  pub kept : KeptUp Edge 0 h
  pub wait : ClaimsWait Edge 0 h
  pub twice : claims 0 h ≡ 2
