-- Where the items of a node's specifiers end.
use Rattle.std.specs.Prelude.{List, Result}
use Rattle.faults.specs.declared.fault.RouteFault.{RouteFault}
use Rattle.fdt.specs.Tokens.{after}
use Rattle.specifiers.specs.Specifiers.{Specified}
use Rattle.tree.specs.Nodes.{Listed}
use Rattle.walk.specs.Walks.{Found, route_of}

-- the route of a specifier; the fault of one that could not be cut
abbrev pub end_of : List Listed → Result Specified RouteFault → Result Found RouteFault
end_of es r = after r (route_of es)
