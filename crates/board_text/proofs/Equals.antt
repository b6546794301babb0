-- What `==` says of lists of steps.
use Rattle.std.proofs.Common.{rules, tests, ◌≡◌, Bool, true, List}
use Rattle.std.proofs.lemmas.Slice.Eq.{slice_eq-Decides}
use Rattle.std.specs.Bool.{Decides}
use Rattle.std.specs.Cmp.Lexicographic.{pointwise}
use Rattle.line.specs.declared.row.Step.{Step}
use Rattle.line.specs.contracts.row.StepPartialEq.TheImpl.{eq-value as step_eq}
use Rattle.search.specs.Exactly.{Exactly}

step_decided : (a b : Step) → Decides (step_eq.it a b) (a ≡ b)
step_decided a b = search (rules, tests)

pub steps_equal : (xs ys : List Step) (so : Bool) → so ≡ pointwise step_eq.it xs ys → Exactly (so ≡ true) (xs ≡ ys)
steps_equal xs ys so e = let d = slice_eq-Decides step_decided xs ys so e in record { only = d.0; every = d.1 }
