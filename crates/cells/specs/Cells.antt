-- Cells, parts and names in a byte string.
use Rattle.std.specs.Prelude.{ℕ, ◌+◌, ◌-◌, ◌*◌, Bool, cond, not, ◌&&◌, List, length, take, drop, Ok, Err, Result, ◌==◌, nat_le, nat_lt, slice_index, slice_range}
use Rattle.std.specs.Borrow.{Bor}
use Rattle.std.specs.List.{prefix_len}
use Rattle.cells.specs.declared.part.Part.{Part}
use Rattle.cells.specs.declared.name.Name.{Name}

-- the cell at byte offset i: 32 bits, most significant byte first
abbrev pub cell : List ℕ → ℕ → ℕ
cell b i = slice_index b i * 16777216 + slice_index b (i + 1) * 65536 + slice_index b (i + 2) * 256 + slice_index b (i + 3)

-- from a to e lies within the bytes
abbrev pub within : List ℕ → ℕ → ℕ → Bool
within b a e = nat_le a e && nat_le e (length b)

abbrev pub bytes_seen : {F : Type 0} → Result (Bor (List ℕ)) F → Result (List ℕ) F
bytes_seen (Ok b) = Ok b.now
bytes_seen (Err f) = Err f

-- the bytes from a up to e
abbrev pub rest_or : {F : Type 0} → List ℕ → ℕ → ℕ → F → Result (List ℕ) F
rest_or b a e past = cond (within b a e) (Ok (slice_range b a e)) (Err past)

-- the cell at i, which has to end by e
abbrev pub cell_or : {F : Type 0} → List ℕ → ℕ → ℕ → F → Result ℕ F
cell_or b i e past = cond (within b (i + 4) e) (Ok (cell b i)) (Err past)

-- some bytes and the place of the first
pub record Piece : Type 0 where
  pub place : ℕ
  pub bytes : List ℕ

abbrev pub piece : Part → Piece
piece p = record { place = p.place.0; bytes = p.bytes.now }

abbrev pub part_seen : {F : Type 0} → Result Part F → Result Piece F
part_seen (Ok p) = Ok (piece p)
part_seen (Err f) = Err f

-- the n bytes that stand at a
abbrev pub standing : List ℕ → ℕ → ℕ → Piece
standing b a n = record { place = a; bytes = take n (drop a b) }

-- the n bytes at a, which have to end by e
abbrev pub part_or : {F : Type 0} → List ℕ → ℕ → ℕ → ℕ → F → Result Piece F
part_or b a n e past = cond (within b (a + n) e) (Ok (standing b a n)) (Err past)

abbrev pub nonzero : ℕ → Bool
nonzero x = not (x == 0)

-- how many bytes stand before the first zero byte
abbrev pub leading_nonzero : List ℕ → ℕ
leading_nonzero b = prefix_len nonzero b

abbrev pub before_zero : List ℕ → List ℕ
before_zero b = take (leading_nonzero b) b

-- the bytes of a name, of which those from its place to the end of its block are given
abbrev pub name_bytes : Name → List ℕ
name_bytes n = before_zero n.rest.now

abbrev pub named : Name → Piece
named n = record { place = n.place.0; bytes = name_bytes n }

abbrev pub name_seen : {F : Type 0} → Result Name F → Result Piece F
name_seen (Ok n) = Ok (named n)
name_seen (Err f) = Err f

-- the length of the name at a in a block that ends at e
abbrev pub name_size : List ℕ → ℕ → ℕ → ℕ
name_size b a e = leading_nonzero (slice_range b a e)

-- the name at a, whose zero byte has to come before e
abbrev pub name_or : {F : Type 0} → List ℕ → ℕ → ℕ → F → Result Piece F
name_or b a e past =
    cond (nat_le e (length b) && nat_lt (name_size b a e) (e - a)) (Ok (standing b a (name_size b a e))) (Err past)
