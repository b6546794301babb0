-- What the kinds of controllers share: their lines are a table's, and the offer follows from the lines.
use Rattle.std.specs.Prelude.{◌≡◌, ℕ, Bool, false, List, Some, None, Option}
use Rattle.search.specs.Exactly.{Exactly}
use Rattle.line.specs.declared.row.Row.{Row}
use Rattle.line.specs.Rows.{waits}
use Rattle.controller.specs.Meaning.{Meaning}

-- the meaning of these lines, offered in a kind's own order
abbrev pub meaning_by : (List (Option Row) → Option ℕ) → List (Option Row) → Meaning
meaning_by offered ls = record { lines = ls; offer = offered ls }

-- an open line that waits
abbrev pub ready : Option Row → Bool
ready None = false
ready (Some r) = waits r

-- an open line that is in service
abbrev pub serving : Option Row → Bool
serving None = false
serving (Some r) = r.service

-- the answer is a line exactly if P holds of it, and none exactly if P holds of no line
pub record OfferedBy (P : ℕ → Type 0) (r : Option ℕ) : Type 0 where
  pub line : (i : ℕ) → Exactly (r ≡ Some i) (P i)
  pub none : Exactly (r ≡ None) ((i : ℕ) → P i → ⊥)
