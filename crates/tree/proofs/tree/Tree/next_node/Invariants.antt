use Rattle.std.proofs.Common.{◌≡◌}
use Rattle.fdt.specs.Left.{tokens_left}
use Rattle.tree.specs.Nodes.{nodes, nodes_from}
use Rattle.tree.proofs.tree.Tree.next_node.Given as goal

-- the nodes from here on are those from the start
abbrev pub invariant-loop-read : goal.invariant-loop-read
invariant-loop-read l =
    nodes l.depth (tokens_left l.read-iterator) ≡ nodes_from l.self.blob.bytes.now l.self.blob.header l.fn.cursor.depth l.fn.cursor.place.0
