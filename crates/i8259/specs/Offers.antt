-- What an 8259A offers.
use Rattle.std.specs.Prelude.{ℕ, ◌<◌, Bool, cond, ◌||◌, List, Some, None, Option}
use Rattle.search.specs.First.{first}
use Rattle.line.specs.declared.row.Row.{Row}
use Rattle.controller.specs.Meaning.{Meaning, Serves, Waits, at}
use Rattle.table.specs.Tables.{table_lines}
use Rattle.table.specs.Kinds.{meaning_by, ready, serving}
use Rattle.table.specs.declared.over.OverTable.{OverTable}
use Rattle.i8259.specs.declared.chip.FullyNested.{FullyNested}

-- a line that waits or is in service
abbrev pub held : Option Row → Bool
held x = ready x || serving x

-- the line, if it waits
abbrev pub if_waiting : List (Option Row) → Option ℕ → Option ℕ
if_waiting ls None = None
if_waiting ls (Some i) = cond (ready (at ls i)) (Some i) None

-- of the lines that wait or are in service the lowest-numbered, if it waits
abbrev pub i8259_offer : List (Option Row) → Option ℕ
i8259_offer ls = if_waiting ls (first held ls)

abbrev pub i8259_meaning : OverTable FullyNested → Meaning
i8259_meaning x = meaning_by i8259_offer (table_lines x.table)

-- line i waits, no line below it waits, and no line below it is in service
pub record LowestUnserved (ls : List (Option Row)) (i : ℕ) : Type 0 where
  pub waiting : Waits ls i
  pub below : (k : ℕ) → k < i → Waits ls k → ⊥
  pub service : (k : ℕ) → k < i → Serves ls k → ⊥
