-- The nodes of a tree, in blob order.
use Rattle.std.specs.Prelude.{◌≡◌, ℕ, zero, suc, ◌+◌, ◌-◌, ◌≤◌, cond, List, [], ◌∷◌, Some, None, Ok, Err, Option, Result, nat_le}
use Rattle.cells.specs.declared.header.Header.{Header}
use Rattle.faults.specs.declared.fault.TokenFault.{TokenFault}
use Rattle.faults.specs.declared.fault.TokenFault.TheVariants.{Rule, Depth}
use Rattle.cells.specs.Cells.{Piece, piece}
use Rattle.fdt.specs.Tokens.{opens, property, closes, nothing, ends, at, ending}
use Rattle.fdt.specs.Items.{Item, item, bad, items}
use Rattle.tree.specs.declared.node.Node.{Node}

-- a node: its place, its name, the place past its open token, its depth, and the tokens from there on
pub record Entry : Type 0 where
  pub place : ℕ
  pub name : Piece
  pub body : ℕ
  pub depth : ℕ
  pub rest : List Item

-- a node, or why the tokens could not be read further
pub data Listed : Type 0 where
  listed : Entry → Listed
  broken : TokenFault → Listed

-- the nodes of the tokens, in blob order, the first token standing at this depth
abbrev pub nodes : ℕ → List Item → List Listed
nodes depth [] = []
nodes depth (bad f ∷ ts) = broken f ∷ []
nodes depth (item i (opens n) next ∷ ts) =
    cond (nat_le 16 depth) (broken (Depth (at i)) ∷ [])
    (listed (record { place = i; name = n; body = next; depth = depth + 1; rest = ts }) ∷ nodes (depth + 1) ts)
nodes depth (item i (property n v) next ∷ ts) = nodes depth ts
nodes zero (item i closes next ∷ ts) = broken (Rule (at i)) ∷ []
nodes (suc depth) (item i closes next ∷ ts) = nodes depth ts
nodes depth (item i nothing next ∷ ts) = nodes depth ts
nodes depth (item i ends next ∷ ts) = []

-- the nodes from a place of the blob on
abbrev pub nodes_from : List ℕ → Header → ℕ → ℕ → List Listed
nodes_from b h depth i = nodes depth (items b h i)

-- all nodes of the blob
abbrev pub all_nodes : List ℕ → Header → List Listed
all_nodes b h = nodes_from b h 0 h.structure

abbrev pub entry : List ℕ → Header → Node → Entry
entry b h n = record {
  place = n.place.0;
  name = piece n.name;
  body = n.body.place.0;
  depth = n.body.depth;
  rest = items b h n.body.place.0;
}

abbrev pub entry_of : List ℕ → Header → Option Node → Option Entry
entry_of b h None = None
entry_of b h (Some n) = Some (entry b h n)

abbrev pub node_seen : List ℕ → Header → Result (Option Node) TokenFault → Result (Option Entry) TokenFault
node_seen b h (Ok o) = Ok (entry_of b h o)
node_seen b h (Err f) = Err f

abbrev pub first_node : List Listed → Result (Option Entry) TokenFault
first_node [] = Ok None
first_node (broken f ∷ es) = Err f
first_node (listed e ∷ es) = Ok (Some e)

-- the list whose first node was read, and of which k has those after a node
abbrev pub listed_by : (Entry → List Listed) → Result (Option Entry) TokenFault → List Listed
listed_by k (Ok None) = []
listed_by k (Ok (Some e)) = listed e ∷ k e
listed_by k (Err f) = broken f ∷ []

-- a node that was read from the place i on lies in the structure block, and its body past i
abbrev pub GoesOn : Header → ℕ → Result (Option Node) TokenFault → Type 0
GoesOn h i (Ok None) = Unit {0}
GoesOn h i (Ok (Some n)) = (i + 4 ≤ n.body.place.0) × (i + 4 ≤ ending h)
GoesOn h i (Err f) = Unit {0}

-- a node that was read is the first one from its own open token on
abbrev pub StandsThere : List ℕ → Header → Result (Option Node) TokenFault → Type 0
StandsThere b h (Ok None) = Unit {0}
StandsThere b h (Ok (Some n)) = first_node (nodes_from b h (n.body.depth - 1) n.place.0) ≡ Ok (Some (entry b h n))
StandsThere b h (Err f) = Unit {0}
