-- The rows of a nexus's map.
use Rattle.std.specs.Prelude.{ℕ, zero, suc, ◌+◌, ◌-◌, cond, List, [], ◌∷◌, length, take, drop, Ok, Err, Result, ◌==◌, nat_le, nat_lt, slice_index}
use Rattle.cell_list.specs.CellLists.{cells_in}
use Rattle.faults.specs.declared.fault.RouteFault.{RouteFault}
use Rattle.faults.specs.declared.fault.RouteFault.TheVariants.{Row, NoRow}
use Rattle.fdt.specs.Tokens.{after}
use Rattle.tree.specs.declared.tree.Tree.{Tree}
use Rattle.tree.specs.Nodes.{Entry, Listed}
use Rattle.tree.specs.Reads.{entry_in}
use Rattle.values.specs.declared.counts.Counts.{Counts}
use Rattle.values.specs.Counts.{counts_of}
use Rattle.values.specs.Values.{node_of}
use Rattle.nexus.specs.declared.rows.Front.{Front}
use Rattle.nexus.specs.declared.rows.Taken.{Taken}
use Rattle.nexus.specs.Nexuses.{Ready, matches}

-- a row but for its parent, of which the counts alone are asked: its child cells, the unit address and the specifier that it gives,
-- and how many cells it has
pub record Shape : Type 0 where
  pub child : List ℕ
  pub unit : List ℕ
  pub specifier : List ℕ
  pub size : ℕ

-- a row and its parent
pub record RowSeen : Type 0 where
  pub shape : Shape
  pub parent : Entry

-- how many cells a row has, by how many child cells it has and its parent's counts
abbrev pub row_size : ℕ → Counts → ℕ
row_size width c = width + 1 + c.address + c.interrupt

-- the row at the front of the cells, by its parent's counts
abbrev pub shape_of : ℕ → List ℕ → Counts → Shape
shape_of width rest c = record {
  child = take width rest;
  unit = take c.address (drop (width + 1) rest);
  specifier = take c.interrupt (drop c.address (drop (width + 1) rest));
  size = row_size width c;
}

abbrev pub shape_by : Ready → List ℕ → Counts → Result Shape RouteFault
shape_by n rest c =
    cond (nat_le (c.address + c.interrupt) (length (drop (n.width + 1) rest)))
    (Ok (shape_of n.width rest c)) (Err (Row n.holder))

abbrev pub with_parent : Entry → Shape → Result RowSeen RouteFault
with_parent p s = Ok (record { shape = s; parent = p })

-- the row at the front: child cells, the phandle of its parent, then as many cells as the parent's counts say
abbrev pub row_at : List Listed → Ready → List ℕ → Result RowSeen RouteFault
row_at es n rest =
    cond (nat_lt n.width (length rest))
    (after (node_of es (slice_index rest n.width) n.holder) (λ p. after (after (counts_of p) (shape_by n rest)) (with_parent p)))
    (Err (Row n.holder))

-- the row that is taken: its number, its parent, and the unit address and the specifier that it gives
pub record Took : Type 0 where
  pub row : ℕ
  pub parent : Entry
  pub unit : List ℕ
  pub specifier : List ℕ

abbrev pub took : Tree → Taken → Took
took t k = record { row = k.row; parent = entry_in t k.parent; unit = cells_in k.unit; specifier = cells_in k.specifier }

abbrev pub took_in : Tree → Result Taken RouteFault → Result Took RouteFault
took_in t (Ok k) = Ok (took t k)
took_in t (Err f) = Err f

abbrev pub take_row : ℕ → RowSeen → Took
take_row row r = record { row = row; parent = r.parent; unit = r.shape.unit; specifier = r.shape.specifier }

-- the first row that matches, of the rows that begin after a skip; the first has this number
abbrev pub rows_from : List Listed → Ready → ℕ → List ℕ → ℕ → Result Took RouteFault
rows_from es n row [] skip = Err (NoRow n.holder)
rows_from es n row (x ∷ xs) (suc skip) = rows_from es n row xs skip
rows_from es n row (x ∷ xs) zero =
    after (row_at es n (x ∷ xs)) (λ r.
    cond (matches n r.shape.child) (Ok (take_row row r)) (rows_from es n (row + 1) xs (r.shape.size - 1)))

-- the row that a nexus takes
abbrev pub taken_row : List Listed → Ready → Result Took RouteFault
taken_row es n = rows_from es n 0 n.map 0

-- the row at the front: its parent's counts, and the cells after it
pub record FrontSeen : Type 0 where
  pub counts : Counts
  pub left : List ℕ

abbrev pub front_in : Result Front RouteFault → Result FrontSeen RouteFault
front_in (Ok f) = Ok (record { counts = f.counts; left = cells_in f.left })
front_in (Err f) = Err f

-- a row with these counts, which does not pass the end of the map
abbrev pub front_by : Ready → List ℕ → Counts → Result FrontSeen RouteFault
front_by n rest c =
    cond (nat_le (c.address + c.interrupt) (length (drop (n.width + 1) rest)))
    (Ok (record { counts = c; left = drop (row_size n.width c) rest })) (Err (Row n.holder))

abbrev pub front : List Listed → Ready → List ℕ → Result FrontSeen RouteFault
front es n rest =
    cond (nat_lt n.width (length rest))
    (after (after (node_of es (slice_index rest n.width) n.holder) counts_of) (front_by n rest))
    (Err (cond (length rest == 0) (NoRow n.holder) (Row n.holder)))

abbrev pub take_front : Ready → ℕ → List ℕ → Counts → Entry → Result Took RouteFault
take_front n row rest c p = Ok (take_row row (record { shape = shape_of n.width rest c; parent = p }))

-- the row at the front, whose parent has these counts, where it is taken
abbrev pub front_taken : List Listed → Ready → ℕ → List ℕ → Counts → Result Took RouteFault
front_taken es n row rest c = after (node_of es (slice_index rest n.width) n.holder) (take_front n row rest c)
