-- The plan of a tree.
use Rattle.std.specs.Prelude.{ℕ, ◌+◌, ◌^◌, cond, List, [], Some, None, Ok, Err, Option, Result, nat_lt, slice_get}
use Rattle.faults.specs.declared.place.At.{At}
use Rattle.fdt.specs.Tokens.{after}
use Rattle.tree.specs.Nodes.{Listed}
use Rattle.board_faults.specs.declared.BoardFault.{BoardFault}
use Rattle.board_faults.specs.declared.BoardFault.TheVariants as fault
use Rattle.plan.specs.declared.placed.Spot.{Spot}
use Rattle.plan.specs.Controllers.{Made, controllers_of}
use Rattle.plan.specs.Drafts.{Drawn, Routed, drawn_from}
use Rattle.plan.specs.Placings.{Placed, placed}

-- the controllers in blob order, their numbers in the order of placing, and the routes in blob order
pub record Planned : Type 0 where
  pub controllers : List Made
  pub order : List ℕ
  pub routes : List Routed

-- the controllers, before any specifier is read
abbrev pub blank : List Made → Drawn
blank cs = record { controllers = cs; routes = []; second = None }

abbrev pub planned_by : Drawn → Option At → Placed → Result Planned BoardFault
planned_by d (Some holder) p = Err (fault.Second holder)
planned_by d None p = Ok (record { controllers = p.controllers; order = p.order; routes = d.routes })

-- the plan of the nodes, or the refusal
abbrev pub plan_of : List Listed → Result Planned BoardFault
plan_of es =
    after (controllers_of es) (λ cs.
    after (drawn_from es (blank cs) es) (λ d.
    after (placed d.controllers) (planned_by d d.second)))

abbrev pub line_from : Spot → Option ℕ → Option ℕ
line_from s None = None
line_from s (Some first) = Some (first + s.input)

abbrev pub line_by : Spot → Option Made → Option ℕ
line_by s None = None
line_by s (Some c) = line_from s c.first_line

-- the line where a specifier ends: the first line of its controller, plus the input
abbrev pub line_of : List Made → Spot → Option ℕ
line_of cs s = line_by s (slice_get cs s.controller)

-- a number that a usize holds
abbrev pub held : Option ℕ → Option ℕ
held None = None
held (Some n) = cond (nat_lt n (2 ^ 64)) (Some n) None

-- the controller of this number
abbrev pub made_at : Planned → Option ℕ → Option Made
made_at p None = None
made_at p (Some k) = slice_get p.controllers k

-- the controller at this place of the order
abbrev pub placed_at : Planned → ℕ → Option Made
placed_at p place = made_at p (slice_get p.order place)
