-- The devices of a board, in the order of their routes.
use Rattle.std.specs.Prelude.{ℕ, List, map, get_or}
use Rattle.arrayvec.specs.ArrayVec.{ArrayVec}
use Rattle.line.specs.declared.row.Sense.{Sense}
use Rattle.plan.specs.Drafts.{Routed}
use Rattle.plan.specs.Seen.{no_route, routed}
use Rattle.boards.specs.declared.device.Device.{Device}
use Rattle.boards.specs.declared.device.DeviceFault.{DeviceFault}
use Rattle.boards.specs.declared.device.DeviceFault.TheVariants.{NoRoute, NotInService}

-- a device: its route, and its line
pub record Seat : Type 0 where
  pub route : Routed
  pub line : ℕ

abbrev pub seat : Device → Seat
seat d = record { route = routed d.route; line = d.line }

-- what a table of devices holds where it has none
abbrev pub no_seat : Seat
no_seat = record { route = no_route; line = 0 }

-- the devices of a table
abbrev pub seats : ArrayVec Device → List Seat
seats v = map seat v.items

-- the line of device i
abbrev pub line_at : List Seat → ℕ → ℕ
line_at ds i = (get_or ds i no_seat).line

-- the sense of device i
abbrev pub sense_at : List Seat → ℕ → Sense
sense_at ds i = (get_or ds i no_seat).route.sense

-- the number of a refusal
abbrev pub number_of : DeviceFault → ℕ
number_of NoRoute = 24
number_of NotInService = 30
