-- The own steps of a device and its changes, as what passes a test or is mapped.
use Rattle.std.proofs.Common.{◌≡◌, ℕ, List, [], ◌∷◌, ◌++◌, Option, Some, None, refl, ap, arith}
use Rattle.std.specs.List.{filter, filter_map}
use Rattle.line.specs.declared.row.Step.{Step}
use Rattle.line.specs.declared.row.Step.TheVariants.{Drive, Mask, Sense as Sensed, Claim, Complete, Reset}
use Rattle.history.specs.declared.call.Event.{Event}
use Rattle.history.specs.Own.{own, step_of, at_most_one, changes_in}
use Rattle.board_text.specs.Law.{is_change_step}

one_more : (o : Option Step) (ss : List Step) (e : Event) (i : ℕ) (h : List Event) → step_of i e ≡ o → ss ≡ filter_map (step_of i) h → at_most_one o ++ ss ≡ filter_map (step_of i) (e ∷ h)
one_more None ss e i h so rest = grind arith
one_more (Some s) ss e i h so rest = grind arith

pub own_mapped : (i : ℕ) (h : List Event) → own i h ≡ filter_map (step_of i) h
own_mapped i [] = refl
own_mapped i (e ∷ h) = one_more (step_of i e) (own i h) e i h refl (own_mapped i h)

pub changes_filtered : (ss : List Step) → changes_in ss ≡ filter is_change_step ss
changes_filtered [] = refl
changes_filtered (Drive high ∷ ss) = ap (λ cs. Drive high ∷ cs) (changes_filtered ss)
changes_filtered (Mask on ∷ ss) = ap (λ cs. Mask on ∷ cs) (changes_filtered ss)
changes_filtered (Sensed s ∷ ss) = changes_filtered ss
changes_filtered (Claim ∷ ss) = changes_filtered ss
changes_filtered (Complete ∷ ss) = changes_filtered ss
changes_filtered (Reset ∷ ss) = changes_filtered ss
