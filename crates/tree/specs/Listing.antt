-- The nodes that an iterator over a tree gives.
use Rattle.std.specs.Prelude.{◌≡◌, List, [], ◌∷◌, Some, None, Ok, Err, MatchOption, Option, Result}
use Rattle.fdt.specs.declared.cursor.Cursor.{Cursor}
use Rattle.faults.specs.declared.fault.TokenFault.{TokenFault}
use Rattle.tree.specs.declared.node.Node.{Node}
use Rattle.tree.specs.declared.nodes.Nodes.{Nodes}
use Rattle.tree.specs.declared.tree.Tree.{Tree}
use Rattle.tree.specs.Nodes.{Listed, listed, broken}
use Rattle.tree.specs.Reads.{entry_in, nodes_in}

-- the nodes from a cursor on; none past the last
abbrev pub nodes_at : Tree → Option Cursor → List Listed
nodes_at t None = []
nodes_at t (Some c) = nodes_in t c.depth c.place.0

-- the nodes that are left
abbrev pub nodes_left : Nodes → List Listed
nodes_left s = nodes_at s.tree s.at

-- an item as it stands in the list of the tree's nodes
abbrev pub listed_in : Tree → Result Node TokenFault → Listed
listed_in t (Ok n) = listed (entry_in t n)
listed_in t (Err f) = broken f

-- a call gave the first of the nodes that were left, of the same tree, and left the others, or gave none where none was left
abbrev pub YieldsNodes : Nodes → Option (Result Node TokenFault) → Nodes → Type 0
YieldsNodes s r t =
    (t.tree ≡ s.tree)
    × MatchOption r ((nodes_left s ≡ []) × (nodes_left t ≡ [])) (λ x. nodes_left s ≡ listed_in s.tree x ∷ nodes_left t)
