-- What a status multiplexer offers.
use Rattle.std.specs.Prelude.{ℕ, ◌<◌, List, replicate, Some, Option}
use Rattle.search.specs.First.{first}
use Rattle.line.specs.declared.row.Row.{Row}
use Rattle.line.specs.declared.row.Sense.TheVariants.{Following}
use Rattle.line.specs.Rows.{fresh}
use Rattle.controller.specs.Meaning.{Meaning, Waits}
use Rattle.table.specs.Tables.{table_lines}
use Rattle.table.specs.Kinds.{meaning_by, ready}
use Rattle.table.specs.declared.one_to.OneTo.{OneTo}
use Rattle.table.specs.declared.over.OverTable.{OverTable}
use Rattle.status_mux.specs.declared.mux.LowestFirst.{LowestFirst}

-- the lines of a new multiplexer, of a width from 1 to 32
abbrev pub new_lines : OneTo 32 → List (Option Row)
new_lines w = replicate w.number (Some (fresh Following))

-- the lowest-numbered line that waits
abbrev pub mux_offer : List (Option Row) → Option ℕ
mux_offer ls = first ready ls

abbrev pub mux_meaning : OverTable LowestFirst → Meaning
mux_meaning x = meaning_by mux_offer (table_lines x.table)

-- line i waits and no line below it waits
pub record LowestWaiting (ls : List (Option Row)) (i : ℕ) : Type 0 where
  pub waiting : Waits ls i
  pub below : (k : ℕ) → k < i → Waits ls k → ⊥
