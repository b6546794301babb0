-- What is made of a plan and of four controllers, in the order of placing.
use Rattle.std.specs.Prelude.{ℕ, Bool, true, false, cond, ◌==◌, ◌&&◌, List, [], ◌++◌, is_some, length, map, Some, None, Ok, Err, Option, Result}
use Rattle.std.specs.List.{list_all}
use Rattle.line.specs.declared.row.Row.{Row}
use Rattle.kinds.specs.Kinds.{width_of}
use Rattle.board_faults.specs.declared.BoardFault.{BoardFault}
use Rattle.board_faults.specs.declared.BoardFault.TheVariants as fault
use Rattle.plan.specs.declared.placed.Parent.{Parent}
use Rattle.plan.specs.declared.placed.Parent.TheVariants.{Root, At, Several}
use Rattle.plan.specs.declared.placed.Spot.{Spot}
use Rattle.plan.specs.Controllers.{Made}
use Rattle.plan.specs.Drafts.{Routed}
use Rattle.plan.specs.Plans.{Planned, held, line_of, placed_at}
use Rattle.controller.specs.Meaning.{at, all_reset}
use Rattle.cascade.specs.Pairs.{pair_lines}
use Rattle.cascade.specs.Questions.{made_lines}
use Rattle.boards.specs.declared.parts.Wiring.{Wiring}
use Rattle.boards.specs.Seats.{Seat}

-- the lines of four controllers
pub record Lists : Type 0 where
  pub first : List (Option Row)
  pub second : List (Option Row)
  pub third : List (Option Row)
  pub fourth : List (Option Row)

-- as a reset leaves them
abbrev pub reset_lists : Lists → Lists
reset_lists ls = record { first = all_reset ls.first; second = all_reset ls.second; third = all_reset ls.third; fourth = all_reset ls.fourth }

-- the lines of all four, one after another
abbrev pub in_order : Lists → List (Option Row)
in_order ls = ls.first ++ (ls.second ++ (ls.third ++ ls.fourth))

-- the line where a specifier ends; in a plan it is below 256
abbrev pub plan_line : Planned → Spot → Option ℕ
plan_line p s = held (line_of p.controllers s)

-- a controller handed over for this one is as wide; where the plan has none, any may be
abbrev pub is_width : ℕ → Option Made → Bool
is_width w None = true
is_width w (Some c) = width_of c.kind == w

abbrev pub widths_fit : Planned → Lists → Bool
widths_fit p ls =
    is_width (length ls.first) (placed_at p 0)
    && (is_width (length ls.second) (placed_at p 1) && (is_width (length ls.third) (placed_at p 2) && is_width (length ls.fourth) (placed_at p 3)))

-- there is such a line, and it is open
abbrev pub is_open : List (Option Row) → Option ℕ → Bool
is_open ls None = false
is_open ls (Some line) = is_some (at ls line)

-- the line where a controller with this parent is cascaded is open, if it is
abbrev pub parent_open : Planned → List (Option Row) → Parent → Bool
parent_open p ls Root = true
parent_open p ls (At s) = is_open ls (plan_line p s)
parent_open p ls Several = true

abbrev pub routes_open : Planned → List (Option Row) → Bool
routes_open p ls = list_all (λ r. is_open ls (plan_line p r.spot)) p.routes

abbrev pub parents_open : Planned → List (Option Row) → Bool
parents_open p ls = list_all (λ c. parent_open p ls c.parent) p.controllers

-- the line where each specifier ends, a device's or a controller's, is open
abbrev pub ends_open : Planned → List (Option Row) → Bool
ends_open p ls = routes_open p ls && parents_open p ls

-- the plan, if controllers with these lines are as it says; its refusal, or 23
abbrev pub asked : Result Planned BoardFault → Lists → Result Planned BoardFault
asked (Err f) ls = Err f
asked (Ok p) ls = cond (widths_fit p ls && ends_open p (in_order ls)) (Ok p) (Err fault.Parts)

-- the refusal, if there is one
abbrev pub question_of : Result Planned BoardFault → Result (Unit {0}) BoardFault
question_of (Err f) = Err f
question_of (Ok p) = Ok tt

-- the line where a controller is cascaded, if it is
abbrev pub parent_line : Planned → Parent → Option ℕ
parent_line p Root = None
parent_line p (At s) = plan_line p s
parent_line p Several = None

abbrev pub cascade_line_of : Planned → Option Made → Option ℕ
cascade_line_of p None = None
cascade_line_of p (Some c) = parent_line p c.parent

-- the line where the controller at this place of the order is cascaded
abbrev pub cascade_line : Planned → ℕ → Option ℕ
cascade_line p place = cascade_line_of p (placed_at p place)

-- the lines of a parent and a child cascaded at a line, as a reset leaves them; of the parent alone where there is no line
abbrev pub under : List (Option Row) → List (Option Row) → Option ℕ → List (Option Row)
under ps cs None = all_reset ps
under ps cs (Some k) = all_reset (pair_lines k ps cs)

-- no controller is cascaded
abbrev pub unwired : Wiring
unwired = record { second = None; third = None; fourth = None }

abbrev pub wiring_of : Result Planned BoardFault → Wiring
wiring_of (Err f) = unwired
wiring_of (Ok p) = record { second = cascade_line p 1; third = cascade_line p 2; fourth = cascade_line p 3 }

-- the lines of what is made of all four
abbrev pub wired_lines : Lists → Wiring → List (Option Row)
wired_lines ls w = made_lines (made_lines (made_lines ls.first ls.second w.second) ls.third w.third) ls.fourth w.fourth

-- the lines of all four, cascaded so
abbrev pub cascaded_lines : Lists → Wiring → List (Option Row)
cascaded_lines ls w = under (under (under ls.first ls.second w.second) ls.third w.third) ls.fourth w.fourth

abbrev pub or_zero : Option ℕ → ℕ
or_zero None = 0
or_zero (Some n) = n

-- the device of a route
abbrev pub seat_of : Planned → Routed → Seat
seat_of p r = record { route = r; line = or_zero (plan_line p r.spot) }

-- the devices of a board: the plan's routes, or none where it is refused
abbrev pub seats_of : Result Planned BoardFault → List Seat
seats_of (Err f) = []
seats_of (Ok p) = map (seat_of p) p.routes
