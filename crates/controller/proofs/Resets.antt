-- Lines that were reset are as a reset leaves them.
use Rattle.std.proofs.Common.{◌≡◌, List, [], ◌∷◌, Some, None, Option, refl, ap}
use Rattle.line.specs.declared.row.Row.{Row}
use Rattle.line.specs.Steps.{reset}
use Rattle.controller.specs.Meaning.{all_reset}

pub reset_again : (ls : List (Option Row)) → all_reset (all_reset ls) ≡ all_reset ls
reset_again [] = refl
reset_again (None ∷ xs) = ap (λ (ys : List (Option Row)). None ∷ ys) (reset_again xs)
reset_again (Some r ∷ xs) = ap (λ (ys : List (Option Row)). Some (reset r) ∷ ys) (reset_again xs)
