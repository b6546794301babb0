use Rattle.std.proofs.Common.{◌≡◌}
use Rattle.tree.specs.Listing.{nodes_left}
use Rattle.tree.specs.Phandles.{with_phandle}
use Rattle.tree.specs.Reads.{nodes_of}
use Rattle.tree.proofs.tree.Tree.node_of_phandle.Given as goal

-- it is found among the nodes that are left as it is among all
abbrev pub invariant-loop-node : goal.invariant-loop-node
invariant-loop-node l =
    (l.node-iterator.tree ≡ l.self) × (with_phandle l.phandle (nodes_left l.node-iterator) ≡ with_phandle l.phandle (nodes_of l.self))
