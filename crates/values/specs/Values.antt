-- Properties of a node that are checked when they are read.
use Rattle.std.specs.Prelude.{ℕ, ◌%◌, Bool, cond, ◌&&◌, List, length, is_some, Some, None, Ok, Err, Option, Result, ◌==◌, nat_le}
use Rattle.faults.specs.declared.place.At.{At}
use Rattle.faults.specs.declared.fault.RouteFault.{RouteFault}
use Rattle.faults.specs.declared.fault.RouteFault.TheVariants.{Value, NoNode}
use Rattle.fdt.specs.Tokens.{at, after}
use Rattle.properties.specs.Properties.{Owned, sought}
use Rattle.tree.specs.declared.node.Node.{Node}
use Rattle.tree.specs.declared.tree.Tree.{Tree}
use Rattle.tree.specs.Nodes.{Entry, Listed}
use Rattle.tree.specs.Phandles.{held, one_cell, places, with_phandle}
use Rattle.tree.specs.Reads.{entry_in}
use Rattle.cell_list.specs.declared.CellList.{CellList}
use Rattle.cell_list.specs.CellLists.{cells_in, cells_of}
use Rattle.values.specs.declared.property.Found.{Found}

-- what is found at a property of one cell
abbrev pub Cell : Type 0
Cell = Found ℕ

-- what is found at a property of whole cells
abbrev pub Cells : Type 0
Cells = Found CellList

-- the first property of this name of a node
abbrev pub property_of : List ℕ → Entry → Result (Option Owned) RouteFault
property_of name e = held (sought name e.rest)

-- a property that is one cell from low to high
abbrev pub cell_within : ℕ → ℕ → ℕ → Owned → Result Cell RouteFault
cell_within low high node p =
    after (one_cell node p) (λ x.
    cond (nat_le low x && nat_le x high) (Ok (record { property = at p.place; value = x })) (Err (Value (places node p.place))))

abbrev pub cell_by : ℕ → ℕ → ℕ → Option Owned → Result (Option Cell) RouteFault
cell_by low high node None = Ok None
cell_by low high node (Some p) = after (cell_within low high node p) (λ c. Ok (Some c))

-- the property of this name, if there is one, is one cell from low to high
abbrev pub cell_in : List ℕ → ℕ → ℕ → Entry → Result (Option Cell) RouteFault
cell_in name low high e = after (property_of name e) (cell_by low high e.place)

-- a property of whole cells: its place and its cells
pub record Whole : Type 0 where
  pub property : ℕ
  pub cells : List ℕ

abbrev pub whole : Cells → Whole
whole c = record { property = c.property.0; cells = cells_in c.value }

abbrev pub whole_seen : Result Cells RouteFault → Result Whole RouteFault
whole_seen (Ok c) = Ok (whole c)
whole_seen (Err f) = Err f

abbrev pub whole_option : Option Cells → Option Whole
whole_option None = None
whole_option (Some c) = Some (whole c)

abbrev pub found_seen : Result (Option Cells) RouteFault → Result (Option Whole) RouteFault
found_seen (Ok o) = Ok (whole_option o)
found_seen (Err f) = Err f

-- a property whose length is a multiple of 4
abbrev pub whole_cells : ℕ → Owned → Result Whole RouteFault
whole_cells node p =
    cond (length p.value.bytes % 4 == 0)
    (Ok (record { property = p.place; cells = cells_of p.value.bytes }))
    (Err (Value (places node p.place)))

abbrev pub cells_by : ℕ → Option Owned → Result (Option Whole) RouteFault
cells_by node None = Ok None
cells_by node (Some p) = after (whole_cells node p) (λ w. Ok (Some w))

-- the property of this name, if there is one, is whole cells
abbrev pub cells_within : List ℕ → Entry → Result (Option Whole) RouteFault
cells_within name e = after (property_of name e) (cells_by e.place)

-- a node has a property of this name
abbrev pub has : List ℕ → Entry → Result Bool RouteFault
has name e = after (property_of name e) (λ o. Ok (is_some o))

abbrev pub place_in : Tree → Result Node RouteFault → Result Entry RouteFault
place_in t (Ok n) = Ok (entry_in t n)
place_in t (Err f) = Err f

abbrev pub node_option : Tree → Result (Option Node) RouteFault → Result (Option Entry) RouteFault
node_option t (Ok None) = Ok None
node_option t (Ok (Some n)) = Ok (Some (entry_in t n))
node_option t (Err f) = Err f

abbrev pub node_or : At → Option Entry → Result Entry RouteFault
node_or holder None = Err (NoNode holder)
node_or holder (Some e) = Ok e

-- the node with a phandle, which stands at these places
abbrev pub node_of : List Listed → ℕ → At → Result Entry RouteFault
node_of es x holder = after (held (with_phandle x es)) (node_or holder)
