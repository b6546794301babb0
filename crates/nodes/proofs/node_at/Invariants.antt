use Rattle.std.proofs.Common.{◌≡◌}
use Rattle.nodes.specs.Finding.{node_at}
use Rattle.tree.specs.Listing.{nodes_left}
use Rattle.tree.specs.Reads.{nodes_of}
use Rattle.nodes.proofs.node_at.Given as goal

abbrev pub invariant-loop-node : goal.invariant-loop-node
invariant-loop-node l =
    (l.node-iterator.tree ≡ l.tree) × (node_at l.place.0 (nodes_left l.node-iterator) ≡ node_at l.place.0 (nodes_of l.tree))
