-- The kinds of controller, and how their specifiers are read.
use Rattle.std.specs.Prelude.{ℕ, ◌-◌, cond, List, Some, None, Option, nat_le, nat_lt, slice_index}
use Rattle.cell_list.specs.declared.CellList.{CellList}
use Rattle.cell_list.specs.CellLists.{cells_in}
use Rattle.line.specs.declared.row.Sense.{Sense}
use Rattle.line.specs.declared.row.Sense.TheVariants.{Edge, Following, Gated}
use Rattle.kinds.specs.declared.kind.Input.{Input}
use Rattle.kinds.specs.declared.kind.Kind.{Kind}
use Rattle.kinds.specs.declared.kind.Kind.TheVariants.{I8259, Plic, StatusMux}

-- a kind, with the numbers that its node says: a PLIC's width and priorities, a mux's width
pub data Sort : Type 0 where
  chip : Sort
  plic : ℕ → Option (List ℕ) → Sort
  mux : ℕ → Sort

abbrev pub cells_option : Option CellList → Option (List ℕ)
cells_option None = None
cells_option (Some c) = Some (cells_in c)

abbrev pub kind : Kind → Sort
kind I8259 = chip
kind (Plic w p) = plic w.number (cells_option p)
kind (StatusMux w) = mux w.number

-- how many lines it has
abbrev pub width_of : Sort → ℕ
width_of chip = 8
width_of (plic w p) = w
width_of (mux w) = w

-- how many cells its specifiers have
abbrev pub cells_of : Sort → ℕ
cells_of chip = 2
cells_of (plic w p) = 1
cells_of (mux w) = 1

abbrev pub input : ℕ → Sense → Input
input number sense = record { number = number; sense = sense }

-- the sense of an 8259A's second cell
abbrev pub sense_of : ℕ → Option Sense
sense_of cell = cond (nat_lt cell 2) (Some Following) (cond (nat_lt cell 4) (Some Edge) None)

-- the input, if there is one of its number
abbrev pub within : ℕ → Input → Option Input
within width i = cond (nat_lt i.number width) (Some i) None

abbrev pub sensed : ℕ → Option Sense → Option Input
sensed number None = None
sensed number (Some s) = within 8 (input number s)

-- the input that a specifier's cells name, and its sense
abbrev pub input_of : Sort → List ℕ → Option Input
input_of chip cs = sensed (slice_index cs 0) (sense_of (slice_index cs 1))
input_of (plic w p) cs = cond (nat_le 1 (slice_index cs 0)) (within w (input (slice_index cs 0 - 1) Gated)) None
input_of (mux w) cs = within w (input (slice_index cs 0) Following)
