use Rattle.std.proofs.Common.{◌≡◌, ◌-◌, ◌++◌, map}
use Rattle.fdt.specs.Tokens.{ending}
use Rattle.tree.specs.Reads.{nodes_in, nodes_of}
use Rattle.indexed.specs.Spots.{listed_at}
use Rattle.indexed.proofs.spots.Spots.of.Given as goal

-- the nodes of the spots and those from the cursor on are all nodes
abbrev pub invariant-loop-node : goal.invariant-loop-node
invariant-loop-node l = map (listed_at l.tree) l.list.items ++ nodes_in l.tree l.at.depth l.at.place.0 ≡ nodes_of l.tree

abbrev pub decreases-loop-node : goal.decreases-loop-node
decreases-loop-node l = ending l.tree.blob.header - l.at.place.0
