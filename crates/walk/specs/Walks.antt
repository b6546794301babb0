-- From the cells that arrive at a node to the controller where they end.
use Rattle.std.specs.Prelude.{ℕ, zero, suc, cond, List, [], ◌∷◌, ◌++◌, Some, None, Ok, Err, codes, Option, Result}
use Rattle.cell_list.specs.CellLists.{cells_in}
use Rattle.faults.specs.declared.place.At.{At}
use Rattle.faults.specs.declared.fault.RouteFault.{RouteFault}
use Rattle.faults.specs.declared.fault.RouteFault.TheVariants.{NoEnd, TooManyRows}
use Rattle.fdt.specs.Tokens.{at, after}
use Rattle.nexus.specs.Nexuses.{nexus_at}
use Rattle.nexus.specs.Rows.{taken_row}
use Rattle.properties.specs.Properties.{Owned}
use Rattle.specifiers.specs.Specifiers.{Specified}
use Rattle.tree.specs.declared.tree.Tree.{Tree}
use Rattle.tree.specs.Nodes.{Entry, Listed}
use Rattle.tree.specs.Phandles.{places}
use Rattle.tree.specs.Reads.{entry_in}
use Rattle.values.specs.Values.{has, property_of}
use Rattle.walk.specs.declared.hops.Hop.{Hop}
use Rattle.walk.specs.declared.steps.Route.{Route}
use Rattle.walk.specs.Hops.{hops_of}

-- a route: the device's place, the specifier's index, the hops, the controller, and the cells that arrive there
pub record Found : Type 0 where
  pub device : ℕ
  pub index : ℕ
  pub hops : List Hop
  pub controller : Entry
  pub cells : List ℕ

abbrev pub found : Tree → Route → Found
found t r = record {
  device = r.device.0;
  index = r.index;
  hops = hops_of r.hops;
  controller = entry_in t r.controller;
  cells = cells_in r.cells;
}

abbrev pub route_in : Tree → Result Route RouteFault → Result Found RouteFault
route_in t (Ok r) = Ok (found t r)
route_in t (Err f) = Err f

-- the row of a nexus that was taken
abbrev pub hop : Entry → ℕ → Hop
hop e row = record { nexus = at e.place; row = row }

-- what becomes of a specifier's cells at a node, after these hops; a unit address is given except on the first arrival
abbrev pub Next : Type 0
Next = Entry → Option (List ℕ) → List ℕ → List Hop → Result Found RouteFault

-- the route ends at the controller e
abbrev pub ended : Specified → Entry → List ℕ → List Hop → Found
ended s e cells hops = record { device = s.device.place; index = s.index; hops = hops; controller = e; cells = cells }

-- the nexus e with the map p takes a row, and what the row gives goes on at the row's parent
abbrev pub row_taken : (At → Next) → List Listed → Specified → Entry → Owned → Option (List ℕ) → List ℕ → List Hop → Result Found RouteFault
row_taken next es s e p given cells hops =
    after (nexus_at s.device e p given cells) (λ n.
    after (taken_row es n) (λ t.
    next n.holder t.parent (Some t.unit) t.specifier (hops ++ hop e t.row ∷ [])))

abbrev pub at_map : (At → Next) → List Listed → Specified → Entry → Option (List ℕ) → List ℕ → List Hop → Option Owned → Result Found RouteFault
at_map next es s e given cells hops None = Err (NoEnd (places e.place 0))
at_map next es s e given cells hops (Some p) = row_taken next es s e p given cells hops

-- a controller ends the route, a node with a map is a nexus, and any other node is no end
abbrev pub at_node : (At → Next) → List Listed → Specified → Next
at_node next es s e given cells hops =
    after (has (codes "interrupt-controller") e) (λ controller.
    cond controller (Ok (ended s e cells hops))
    (after (property_of (codes "interrupt-map") e) (at_map next es s e given cells hops)))

-- where the cells of a row arrive, with so many rows still allowed before it
abbrev pub onward : ℕ → List Listed → Specified → At → Next
onward zero es s holder e given cells hops = Err (TooManyRows holder)
onward (suc k) es s holder e given cells hops = at_node (onward k es s) es s e given cells hops

-- cells arrive at a node, with so many rows still allowed
abbrev pub arrived : ℕ → List Listed → Specified → Next
arrived k es s e given cells hops = at_node (onward k es s) es s e given cells hops

abbrev pub looked_up : ℕ → List Listed → Specified → Entry → Owned → Option (List ℕ) → List ℕ → List Hop → Result Found RouteFault
looked_up k es s e p given cells hops = row_taken (onward k es s) es s e p given cells hops

-- the walk of a specifier whose cells arrive first at a node: eight rows are allowed
abbrev pub walked : List Listed → Specified → Entry → Result Found RouteFault
walked es s e = arrived 8 es s e None s.cells []

-- the walk of a specifier, from the node where it arrives first
abbrev pub route_of : List Listed → Specified → Result Found RouteFault
route_of es s = walked es s s.parent
