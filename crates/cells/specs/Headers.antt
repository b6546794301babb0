-- The header of a blob.
use Rattle.std.specs.Prelude.{ℕ, ◌+◌, ◌%◌, Bool, cond, ◌&&◌, List, length, Ok, Err, Result, ◌==◌, nat_le}
use Rattle.cells.specs.declared.header.Header.{Header}
use Rattle.faults.specs.declared.fault.HeaderFault.{HeaderFault}
use Rattle.faults.specs.declared.fault.HeaderFault.TheVariants.{Size, Magic, Version, Blocks}
use Rattle.cells.specs.Cells.{cell}

-- a block begins past the header and ends by the total size
abbrev pub block_within : ℕ → ℕ → ℕ → Bool
block_within at size total = nat_le 40 at && nat_le (at + size) total

-- the sizes are in order
abbrev pub sized : List ℕ → Bool
sized b = nat_le 40 (length b) && (nat_le 40 (cell b 4) && (nat_le (cell b 4) 65536 && nat_le (cell b 4) (length b)))

-- version 17 reads it
abbrev pub versioned : List ℕ → Bool
versioned b = nat_le 17 (cell b 20) && nat_le (cell b 24) 17

-- both blocks lie between the header and the total size, and the structure block is made of cells
abbrev pub blocked : List ℕ → Bool
blocked b =
    block_within (cell b 8) (cell b 36) (cell b 4)
    && (block_within (cell b 12) (cell b 32) (cell b 4) && (cell b 8 % 4 == 0 && cell b 36 % 4 == 0))

-- the cells that are used
abbrev pub header_cells : List ℕ → Header
header_cells b = record {
  total = cell b 4;
  structure = cell b 8;
  structure_size = cell b 36;
  strings = cell b 12;
  strings_size = cell b 32;
}

-- the header, or the first of its faults
abbrev pub header_of : List ℕ → Result Header HeaderFault
header_of b =
    cond (sized b)
    (cond (cell b 0 == 0xd00dfeed) (cond (versioned b) (cond (blocked b) (Ok (header_cells b)) (Err Blocks)) (Err Version)) (Err Magic))
    (Err Size)
