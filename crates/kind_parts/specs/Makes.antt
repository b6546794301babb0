-- The controller of a kind, and the four controllers of a plan.
use Rattle.std.specs.Prelude.{◌≡◌, ℕ, ◌<◌, true, List, length, replicate, is_some, Some, None, Option, slice_index, ⊤}
use Rattle.line.specs.declared.row.Row.{Row}
use Rattle.line.specs.declared.row.Sense.{Sense}
use Rattle.line.specs.declared.row.Sense.TheVariants.{Edge, Following, Gated}
use Rattle.line.specs.Rows.{fresh}
use Rattle.controller.specs.declared.interface.Controller.{Ghosts}
use Rattle.controller.specs.Meaning.{at}
use Rattle.table.specs.Ranges.{in_range}
use Rattle.plic.specs.Offers.{level_of}
use Rattle.any_controller.specs.declared.any.AnyController.{AnyController}
use Rattle.any_controller.specs.declared.any.AnyController.TheVariants.{I8259, Plic, StatusMux}
use Rattle.kinds.specs.Kinds.{Sort, chip, plic, mux, width_of}
use Rattle.plan.specs.Controllers.{Made}
use Rattle.plan.specs.Plans.{Planned, placed_at}
use Rattle.boards.specs.declared.parts.Parts.{Parts}
use Rattle.boards.specs.Assembly.{Lists}
use Rattle.boards.specs.Boards.{lists_in}

-- the sense that the lines of a new controller have
abbrev pub sense_of : Sort → Sense
sense_of chip = Edge
sense_of (plic w p) = Gated
sense_of (mux w) = Following

-- the lines of a new controller
abbrev pub new_lines : Sort → List (Option Row)
new_lines k = replicate (width_of k) (Some (fresh (sense_of k)))

abbrev pub or_one : Option ℕ → ℕ
or_one None = 1
or_one (Some n) = n

-- the priority that a cell says; 1 where it is not from 1 to 7
abbrev pub cell_level : ℕ → ℕ
cell_level cell = or_one (in_range 7 cell)

-- the priority of line i; 1 where the node has no priorities, or none for this line
abbrev pub level_at : Option (List ℕ) → ℕ → ℕ
level_at None i = 1
level_at (Some cells) i = cell_level (slice_index cells i)

-- A controller is of a kind; a PLIC has the priorities of that kind.
abbrev pub OfKind : Sort → AnyController → Type 0
OfKind chip (I8259 x) = ⊤
OfKind chip (Plic x) = ⊥
OfKind chip (StatusMux x) = ⊥
OfKind (plic w p) (I8259 x) = ⊥
OfKind (plic w p) (Plic x) = (i : ℕ) → i < w → level_of x.order i ≡ level_at p i
OfKind (plic w p) (StatusMux x) = ⊥
OfKind (mux w) (I8259 x) = ⊥
OfKind (mux w) (Plic x) = ⊥
OfKind (mux w) (StatusMux x) = ⊤

-- the kind of a controller; where a plan has none, an 8259A
abbrev pub kind_by : Option Made → Sort
kind_by None = chip
kind_by (Some c) = c.kind

-- the kind of the controller at this place of a plan's order
abbrev pub kind_at : Planned → ℕ → Sort
kind_at p place = kind_by (placed_at p place)

-- the lines of the four controllers of a plan
abbrev pub lists_for : Planned → Lists
lists_for p = record { first = new_lines (kind_at p 0); second = new_lines (kind_at p 1); third = new_lines (kind_at p 2); fourth = new_lines (kind_at p 3) }

-- the kinds of the four are those of a plan, in the order of placing
pub record OfPlan (p : Planned) (x : Parts AnyController AnyController AnyController AnyController) : Type 0 where
  pub first : OfKind (kind_at p 0) x.first
  pub second : OfKind (kind_at p 1) x.second
  pub third : OfKind (kind_at p 2) x.third
  pub fourth : OfKind (kind_at p 3) x.fourth

-- the lines of four of one make
abbrev pub lists_of : {A : Type 0} → Ghosts A → Parts A A A A → Lists
lists_of g x = lists_in g g g g x

-- no line is wired
abbrev pub AllOpen : List (Option Row) → Type 0
AllOpen ls = (i : ℕ) → i < length ls → is_some (at ls i) ≡ true
