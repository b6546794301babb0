-- What the calls of this crate answer, as lists and numbers.
use Rattle.std.specs.Prelude.{List, [], map, Some, None, Ok, Err, Option, Result}
use Rattle.arrayvec.specs.ArrayVec.{ArrayVec}
use Rattle.board_faults.specs.declared.BoardFault.{BoardFault}
use Rattle.plan.specs.declared.placed.Controller.{Controller}
use Rattle.plan.specs.declared.route.Route.{Route}
use Rattle.plan.specs.declared.draft.Draft.{Draft}
use Rattle.plan.specs.declared.draft.End.{End}
use Rattle.line.specs.declared.row.Sense.TheVariants.{Edge}
use Rattle.walk.specs.Hops.{hops_of}
use Rattle.plan.specs.Controllers.{Made, made}
use Rattle.plan.specs.declared.placing.Placing.{Placing}
use Rattle.plan.specs.Placings.{Placed}
use Rattle.plan.specs.declared.tree_plan.Plan.{Plan}
use Rattle.plan.specs.Plans.{Planned}
use Rattle.plan.specs.Drafts.{Drawn, Ended, Routed}

-- the controllers of a table
abbrev pub controllers_in : ArrayVec Controller → List Made
controllers_in v = map made v.items

abbrev pub controllers_seen : Result (ArrayVec Controller) BoardFault → Result (List Made) BoardFault
controllers_seen (Ok v) = Ok (controllers_in v)
controllers_seen (Err f) = Err f

abbrev pub made_option : Option Controller → Option Made
made_option None = None
made_option (Some c) = Some (made c)

abbrev pub controller_seen : Result (Option Controller) BoardFault → Result (Option Made) BoardFault
controller_seen (Ok o) = Ok (made_option o)
controller_seen (Err f) = Err f

abbrev pub routed : Route → Routed
routed r = record { device = r.device.0; index = r.index; hops = hops_of r.hops; spot = r.spot; sense = r.sense }

-- what a table of routes holds where it has none
abbrev pub no_route : Routed
no_route = record { device = 0; index = 0; hops = []; spot = record { controller = 0; input = 0 }; sense = Edge }

abbrev pub drawn : Draft → Drawn
drawn d = record { controllers = map made d.controllers.items; routes = map routed d.routes.items; second = d.second }

abbrev pub drawn_seen : Draft → Result (Unit {0}) BoardFault → Result Drawn BoardFault
drawn_seen d (Ok u) = Ok (drawn d)
drawn_seen d (Err f) = Err f

abbrev pub ended_now : End → Ended
ended_now e = record { route = routed e.route; holder = e.holder }

abbrev pub end_seen : Result End BoardFault → Result Ended BoardFault
end_seen (Ok e) = Ok (ended_now e)
end_seen (Err f) = Err f

abbrev pub placing : Placing → Placed
placing p = record { controllers = controllers_in p.controllers; order = p.order.items; lines = p.lines }

abbrev pub placing_seen : Result Placing BoardFault → Result Placed BoardFault
placing_seen (Ok p) = Ok (placing p)
placing_seen (Err f) = Err f

abbrev pub placing_now : Placing → Result (Unit {0}) BoardFault → Result Placed BoardFault
placing_now p (Ok u) = Ok (placing p)
placing_now p (Err f) = Err f

abbrev pub planned : Plan → Planned
planned p = record { controllers = controllers_in p.controllers; order = p.order.items; routes = map routed p.routes.items }

abbrev pub plan_seen : Result Plan BoardFault → Result Planned BoardFault
plan_seen (Ok p) = Ok (planned p)
plan_seen (Err f) = Err f
