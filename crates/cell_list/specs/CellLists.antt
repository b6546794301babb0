-- The cells of a value.
use Rattle.std.specs.Prelude.{ℕ, ◌+◌, ◌*◌, List, [], ◌∷◌, map}
use Rattle.std.specs.Int.{w32, from_be_bytes}
use Rattle.cell_list.specs.declared.CellList.{CellList}
use Rattle.cell_list.specs.declared.CellIter.{CellIter}

-- the numbers of the cells that the bytes are made of, most significant byte first
abbrev pub cells_of : List ℕ → List ℕ
cells_of [] = []
cells_of (a ∷ []) = []
cells_of (a ∷ (b ∷ [])) = []
cells_of (a ∷ (b ∷ (c ∷ []))) = []
cells_of (a ∷ (b ∷ (c ∷ (d ∷ rest)))) = (a * 16777216 + b * 65536 + c * 256 + d) ∷ cells_of rest

-- the numbers of the cells, each of which is given by its four bytes
abbrev pub cells_in : CellList → List ℕ
cells_in l = map (from_be_bytes w32) l.cells.now

-- the numbers of the cells that an iterator has left
abbrev pub cells_left : CellIter → List ℕ
cells_left c = cells_in c.left
