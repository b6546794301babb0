-- Where the nodes of a tree stand.
use Rattle.std.specs.Prelude.{◌≡◌, ℕ, ◌+◌, ◌*◌, Bool, true, cond, List, [], ◌∷◌, map, Some, None, Ok, Err, Option, Result, ◌==◌}
use Rattle.faults.specs.declared.fault.TokenFault.{TokenFault}
use Rattle.tree.specs.declared.tree.Tree.{Tree}
use Rattle.tree.specs.Nodes.{Entry, Listed, listed, first_node}
use Rattle.tree.specs.Reads.{nodes_in, nodes_of}
use Rattle.indexed.specs.declared.spots.Spot.{Spot}

-- the place of a spot: it counts words of 4 bytes
abbrev pub place_at : Spot → ℕ
place_at s = s.word * 4

abbrev nobody : Entry
nobody = record { place = 0; name = record { place = 0; bytes = [] }; body = 0; depth = 0; rest = [] }

abbrev pub seen : Result (Option Entry) TokenFault → Entry
seen (Ok (Some e)) = e
seen (Ok None) = nobody
seen (Err f) = nobody

-- the node that stands at a spot, from what is read there
abbrev pub entry_by : Spot → Entry → Entry
entry_by s e = record { place = place_at s; name = e.name; body = e.body; depth = s.depth + 1; rest = e.rest }

abbrev pub read_at : Tree → Spot → Result (Option Entry) TokenFault
read_at t s = first_node (nodes_in t s.depth (place_at s))

abbrev pub entry_at : Tree → Spot → Entry
entry_at t s = entry_by s (seen (read_at t s))

abbrev pub listed_at : Tree → Spot → Listed
listed_at t s = listed (entry_at t s)

-- If all nodes of the tree have a spot, the spots are those nodes in order.
abbrev pub Spotted : Tree → List Spot → Bool → Type 0
Spotted t ss whole = whole ≡ true → map (listed_at t) ss ≡ nodes_of t

-- the last spot before the one at a place that is one less deep than this; `above` is the last so far
abbrev pub above_from : ℕ → ℕ → Option Spot → List Spot → Option Spot
above_from place depth above [] = None
above_from place depth above (s ∷ ss) =
    cond (place_at s == place) above (above_from place depth (cond (s.depth + 2 == depth) (Some s) above) ss)

-- a node above, from its spot
abbrev pub above_entry : Tree → Option Spot → Option Entry
above_entry t None = None
above_entry t (Some s) = Some (entry_at t s)
