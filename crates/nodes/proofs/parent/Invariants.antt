use Rattle.std.proofs.Common.{◌≡◌}
use Rattle.nodes.specs.Finding.{parent_from, parent_of}
use Rattle.tree.specs.Listing.{nodes_left}
use Rattle.tree.specs.Nodes.{entry_of}
use Rattle.tree.specs.Reads.{nodes_of}
use Rattle.nodes.proofs.parent.Given as goal

abbrev pub invariant-loop-next : goal.invariant-loop-next
invariant-loop-next l =
    let place = l.node.place.0 in
    let depth = l.node.body.depth in
    (l.next-iterator.tree ≡ l.tree)
    × (parent_from place depth (entry_of l.tree.blob.bytes.now l.tree.blob.header l.above) (nodes_left l.next-iterator) ≡ parent_of place depth (nodes_of l.tree))
