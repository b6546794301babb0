use Rattle.std.proofs.Common.{◌≡◌, ◌+◌, ◌≤◌, length}
use Rattle.cell_list.specs.CellLists.{cells_in}
use Rattle.tree.specs.Reads.{nodes_of}
use Rattle.nexus.specs.Nexuses.{ready}
use Rattle.nexus.specs.Rows.{rows_from, taken_row}
use Rattle.nexus.proofs.rows.taken_row.Given as goal

-- each row has a cell, and the row is sought from here on as in the whole map
abbrev pub invariant-loop-row : goal.invariant-loop-row
invariant-loop-row l =
    (l.row + length (cells_in l.rest) ≤ length (cells_in l.nexus.map))
    × (rows_from (nodes_of l.indexed.tree) (ready l.nexus) l.row (cells_in l.rest) 0 ≡ taken_row (nodes_of l.indexed.tree) (ready l.nexus))
