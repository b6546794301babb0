-- The lines of this controller, and which of them it offers.
use Rattle.std.specs.Prelude.{ℕ, zero, suc, ◌<◌, Bool, false, cond, List, length, map, Some, None, Option, slice_set}
use Rattle.line.specs.declared.row.Row.{Row}
use Rattle.line.specs.Rows.{made, waits}
use Rattle.controller.specs.Meaning.{Meaning, Waits, at}
use Rattle.highest_first.specs.declared.chip.HighestFirst.{HighestFirst}

-- the line of a row is open, with the record that the row makes
abbrev pub made_line : Row → Option Row
made_line r = Some (made r)

-- the lines of these rows, of which line 5 is wired
abbrev pub lines_of : List Row → List (Option Row)
lines_of xs = slice_set (map made_line xs) 5 None

abbrev pub chip_lines : HighestFirst → List (Option Row)
chip_lines x = lines_of x.rows

-- an open line that waits
abbrev pub ready : Option Row → Bool
ready None = false
ready (Some r) = waits r

-- the highest-numbered line below n that waits
abbrev pub highest_below : List (Option Row) → ℕ → Option ℕ
highest_below ls zero = None
highest_below ls (suc n) = cond (ready (at ls n)) (Some n) (highest_below ls n)

-- the highest-numbered line that waits
abbrev pub highest : List (Option Row) → Option ℕ
highest ls = highest_below ls (length ls)

abbrev pub chip_meaning : HighestFirst → Meaning
chip_meaning x = record { lines = chip_lines x; offer = highest (chip_lines x) }

-- line i is open and waits, and no line above it does
pub record HighestWaiting (ls : List (Option Row)) (i : ℕ) : Type 0 where
  pub waiting : Waits ls i
  pub above : (k : ℕ) → i < k → Waits ls k → ⊥
