-- What is read of a tree.
use Rattle.std.specs.Prelude.{ℕ, List, Option, Result}
use Rattle.faults.specs.declared.fault.TokenFault.{TokenFault}
use Rattle.fdt.specs.Items.{Item, items}
use Rattle.tree.specs.declared.node.Node.{Node}
use Rattle.tree.specs.declared.tree.Tree.{Tree}
use Rattle.tree.specs.Nodes.{Entry, Listed, nodes_from, all_nodes, entry, node_seen}

-- the tokens of the tree from a place on
abbrev pub tokens_in : Tree → ℕ → List Item
tokens_in t i = items t.blob.bytes.now t.blob.header i

-- the nodes of the tree from a place on, which is at this depth
abbrev pub nodes_in : Tree → ℕ → ℕ → List Listed
nodes_in t depth i = nodes_from t.blob.bytes.now t.blob.header depth i

-- all nodes of the tree
abbrev pub nodes_of : Tree → List Listed
nodes_of t = all_nodes t.blob.bytes.now t.blob.header

abbrev pub entry_in : Tree → Node → Entry
entry_in t n = entry t.blob.bytes.now t.blob.header n

abbrev pub node_in : Tree → Result (Option Node) TokenFault → Result (Option Entry) TokenFault
node_in t r = node_seen t.blob.bytes.now t.blob.header r
