-- What the specifiers of a tree make of its controllers and routes.
use Rattle.std.specs.Prelude.{ℕ, Bool, cond, ◌||◌, List, [], ◌∷◌, ◌++◌, length, is_some, Some, None, Ok, Err, Option, Result, ◌==◌, slice_get, slice_set}
use Rattle.std.specs.List.{list_any}
use Rattle.search.specs.First.{first}
use Rattle.fdt.specs.Tokens.{after}
use Rattle.faults.specs.declared.place.At.{At}
use Rattle.faults.specs.declared.fault.RouteFault.{RouteFault}
use Rattle.faults.specs.declared.fault.RouteFault.TheVariants.{NoEnd, Token}
use Rattle.faults.specs.Places.{places}
use Rattle.tree.specs.Nodes.{Listed, listed, broken}
use Rattle.specifiers.specs.Specifiers.{Specified}
use Rattle.specifiers.specs.Cuts.{specifiers_of}
use Rattle.walk.specs.declared.hops.Hop.{Hop}
use Rattle.walk.specs.Walks.{Found, route_of}
use Rattle.line.specs.declared.row.Sense.{Sense}
use Rattle.board_faults.specs.declared.BoardFault.{BoardFault}
use Rattle.board_faults.specs.declared.BoardFault.TheVariants as fault
use Rattle.kinds.specs.declared.kind.Input.{Input}
use Rattle.kinds.specs.Kinds.{input_of}
use Rattle.kinds.specs.Reading.{held}
use Rattle.plan.specs.declared.placed.Spot.{Spot}
use Rattle.plan.specs.Controllers.{Made, ends_at, parent_with, same_spot}

-- a route: its device's place, the specifier's index, the hops, where it ends, and the sense there
pub record Routed : Type 0 where
  pub device : ℕ
  pub index : ℕ
  pub hops : List Hop
  pub spot : Spot
  pub sense : Sense

-- the controllers, the routes so far, and the first specifier so far that ends where one before it does
pub record Drawn : Type 0 where
  pub controllers : List Made
  pub routes : List Routed
  pub second : Option At

-- where a specifier ends, and its places
pub record Ended : Type 0 where
  pub route : Routed
  pub holder : At

-- a route ends at this input
abbrev pub routed_to : Spot → List Routed → Bool
routed_to spot rs = is_some (first (λ r. same_spot r.spot spot) rs)

-- a controller is cascaded at this input
abbrev pub cascaded_at : Spot → List Made → Bool
cascaded_at spot cs = list_any (λ c. ends_at spot c.parent) cs

-- a specifier before ends at this input
abbrev pub taken : Spot → Drawn → Bool
taken spot d = routed_to spot d.routes || cascaded_at spot d.controllers

-- the controller of a place
abbrev pub controller_at : ℕ → List Made → Option ℕ
controller_at place cs = first (λ c. c.node == place) cs

abbrev pub ended : Specified → Found → ℕ → Input → Ended
ended s f k i = record {
  route = record { device = f.device; index = f.index; hops = f.hops; spot = record { controller = k; input = i.number }; sense = i.sense };
  holder = places s.device.place s.property;
}

-- the controller's kind says which input the cells name
abbrev pub input_by : Specified → Found → ℕ → Option Input → Result Ended BoardFault
input_by s f k None = Err (fault.Input (places s.device.place s.property))
input_by s f k (Some i) = Ok (ended s f k i)

abbrev pub end_at : Specified → Found → ℕ → Option Made → Result Ended BoardFault
end_at s f k None = Err (fault.Route (NoEnd (places f.controller.place 0)))
end_at s f k (Some c) = input_by s f k (input_of c.kind f.cells)

abbrev pub end_by : Specified → Found → List Made → Option ℕ → Result Ended BoardFault
end_by s f cs None = Err (fault.Route (NoEnd (places f.controller.place 0)))
end_by s f cs (Some k) = end_at s f k (slice_get cs k)

-- where a specifier ends: at an input of the controller to which it leads
abbrev pub end_of : List Listed → List Made → Specified → Result Ended BoardFault
end_of es cs s = after (held (route_of es s)) (λ f. end_by s f cs (controller_at f.controller.place cs))

-- the first specifier that ends where one before it does, after one more
abbrev pub noted : Drawn → Ended → Option At → Option At
noted d e (Some holder) = Some holder
noted d e None = cond (taken e.route.spot d) (Some e.holder) None

abbrev pub with_noted : Ended → Drawn → Drawn
with_noted e d = record { controllers = d.controllers; routes = d.routes; second = noted d e d.second }

abbrev pub with_parent : Spot → Made → Made
with_parent spot c = record { node = c.node; kind = c.kind; parent = parent_with spot c.parent; first_line = c.first_line }

-- the controller k has one specifier more
abbrev pub cascaded_by : ℕ → Spot → List Made → Option Made → List Made
cascaded_by k spot cs None = cs
cascaded_by k spot cs (Some c) = slice_set cs k (with_parent spot c)

abbrev pub cascaded : ℕ → Spot → List Made → List Made
cascaded k spot cs = cascaded_by k spot cs (slice_get cs k)

abbrev pub with_cascaded : ℕ → Spot → Drawn → Drawn
with_cascaded k spot d = record { controllers = cascaded k spot d.controllers; routes = d.routes; second = d.second }

-- one route more; there are 256 at most
abbrev pub with_route : Ended → Drawn → Result Drawn BoardFault
with_route e d =
    cond (length d.routes == 256) (Err (fault.Routes e.holder))
    (Ok (record { controllers = d.controllers; routes = d.routes ++ e.route ∷ []; second = d.second }))

-- one specifier more: a controller's, or a route
abbrev pub added_by : Ended → Drawn → Option ℕ → Result Drawn BoardFault
added_by e d (Some k) = Ok (with_cascaded k e.route.spot d)
added_by e d None = with_route e d

abbrev pub added : List Listed → Drawn → Specified → Result Drawn BoardFault
added es d s = after (end_of es d.controllers s) (λ e. added_by e (with_noted e d) (controller_at s.device.place d.controllers))

-- the specifiers of a node, in order
abbrev pub node_drawn : List Listed → Drawn → List (Result Specified RouteFault) → Result Drawn BoardFault
node_drawn es d [] = Ok d
node_drawn es d (Err f ∷ ss) = Err (fault.Route f)
node_drawn es d (Ok s ∷ ss) = after (added es d s) (λ e. node_drawn es e ss)

-- the specifiers of these nodes, in blob order
abbrev pub drawn_from : List Listed → Drawn → List Listed → Result Drawn BoardFault
drawn_from es d [] = Ok d
drawn_from es d (broken f ∷ ns) = Err (fault.Route (Token f))
drawn_from es d (listed e ∷ ns) = after (node_drawn es d (specifiers_of es e)) (λ f. drawn_from es f ns)
