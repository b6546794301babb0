use Rattle.std.proofs.Common.{◌≡◌, take}
use Rattle.std.specs.Iterator.Adapters.{take_source, take_count}
use Rattle.tree.specs.Listing.{nodes_left}
use Rattle.tree.specs.Phandles.{used}
use Rattle.tree.specs.Reads.{nodes_of}
use Rattle.tree.proofs.tree.Tree.is_used.Given as goal

-- it is used by a node that is left, or by one of the first `count`
abbrev pub invariant-loop-node : goal.invariant-loop-node
invariant-loop-node l =
    let left = take_source l.node-iterator in
    (left.tree ≡ l.self) × (used l.phandle (take (take_count l.node-iterator) (nodes_left left)) ≡ used l.phandle (take l.count (nodes_of l.self)))
