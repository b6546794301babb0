-- A table's lines, and what its calls make of them.
use Rattle.std.specs.Prelude.{◌≡◌, ℕ, List, map, take, Some, None, Ok, Err, Option, Result}
use Rattle.line.specs.declared.row.Row.{Row}
use Rattle.line.specs.Rows.{made}
use Rattle.controller.specs.declared.call.CallFault.{CallFault}
use Rattle.controller.specs.declared.call.Change.{Change}
use Rattle.controller.specs.Calls.{step_of}
use Rattle.controller.specs.Meaning.{refusal, step_at}
use Rattle.table.specs.declared.rows.Table.{Table}

-- the line of a row is open, with the record that the row makes
abbrev pub made_line : Row → Option Row
made_line r = Some (made r)

-- the lines of the first rows
abbrev pub table_lines : Table → List (Option Row)
table_lines x = map made_line (take x.wide x.rows)

-- a change of line i, by its answer: accepted, that line is stepped and no other; refused, none is
abbrev pub ChangedLines : {X : Type 0} → Change → ℕ → List (Option Row) → List (Option Row) → Result X CallFault → Type 0
ChangedLines c i ls ls' (Ok _) = (refusal c ls i ≡ None) × (ls' ≡ step_at (step_of c) ls i)
ChangedLines c i ls ls' (Err f) = (refusal c ls i ≡ Some f) × (ls' ≡ ls)
