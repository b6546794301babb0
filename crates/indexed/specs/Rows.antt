-- What the rows of an index say of a tree's nodes.
use Rattle.std.specs.Prelude.{◌≡◌, ℕ, cond, List, [], ◌∷◌, Some, None, Ok, Err, Option, Result, ◌==◌}
use Rattle.faults.specs.declared.fault.RouteFault.{RouteFault}
use Rattle.faults.specs.declared.fault.TokenFault.{TokenFault}
use Rattle.fdt.specs.declared.cursor.Cursor.{Cursor}
use Rattle.tree.specs.declared.tree.Tree.{Tree}
use Rattle.tree.specs.Nodes.{Entry, Listed, first_node}
use Rattle.tree.specs.Phandles.{with_phandle}
use Rattle.tree.specs.Reads.{nodes_in}
use Rattle.values.specs.declared.counts.Counts.{Counts}
use Rattle.values.specs.Counts.{counts_of}
use Rattle.indexed.specs.declared.row.Few.{Few}
use Rattle.indexed.specs.declared.row.Row.{Row}

-- the first row with this phandle
abbrev pub row_with : ℕ → List Row → Option Row
row_with x [] = None
row_with x (r ∷ rs) = cond (r.phandle == x) (Some r) (row_with x rs)

-- the counts that the first row with this phandle keeps
abbrev pub counts_by : Option Row → Option Few
counts_by None = None
counts_by (Some r) = r.counts

abbrev pub counts_with : ℕ → List Row → Option Few
counts_with x rs = counts_by (row_with x rs)

-- the nodes from a cursor on
abbrev pub nodes_past : Tree → Cursor → List Listed
nodes_past t c = nodes_in t c.depth c.place.0

-- the node of a row
abbrev pub node_at : Tree → Row → Result (Option Entry) TokenFault
node_at t r = first_node (nodes_in t r.depth r.place)

-- what a search finds that begins with the rows: the node of the row, or what is found further on where there is none
abbrev pub by_row : Tree → Result (Option Entry) TokenFault → Option Row → Result (Option Entry) TokenFault
by_row t further None = further
by_row t further (Some r) = node_at t r

-- The search for any phandle in these nodes finds the node of its row, and where it has no row what is found from the cursor on.
abbrev pub Tells : Tree → List Listed → List Row → Cursor → Type 0
Tells t es rs c = (x : ℕ) → with_phandle x es ≡ by_row t (with_phandle x (nodes_past t c)) (row_with x rs)

abbrev pub good : Result Counts RouteFault → Option Counts
good (Ok c) = Some c
good (Err f) = None

-- the counts of a node that was found, if they are good
abbrev pub counts_found : Result (Option Entry) TokenFault → Option Counts
counts_found (Ok (Some e)) = good (counts_of e)
counts_found (Ok None) = None
counts_found (Err f) = None

abbrev pub few : Few → Counts
few f = record { address = f.address; interrupt = f.interrupt }

-- What a row keeps are the counts of its node.
abbrev pub Kept : Tree → Row → Type 0
Kept t r = (f : Few) → r.counts ≡ Some f → counts_found (node_at t r) ≡ Some (few f)

-- So it is of the row of any phandle.
abbrev pub Keeps : Tree → List Row → Type 0
Keeps t rs = (x : ℕ) (r : Row) → row_with x rs ≡ Some r → Kept t r

-- a row, or none
abbrev pub rows_of : Option Row → List Row
rows_of None = []
rows_of (Some r) = r ∷ []
