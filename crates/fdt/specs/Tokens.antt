-- The tokens of a structure block.
use Rattle.std.specs.Prelude.{ℕ, ◌+◌, ◌*◌, ◌/◌, ◌%◌, cond, ◌&&◌, List, length, Ok, Err, Result, ◌==◌, nat_le}
use Rattle.cells.specs.declared.header.Header.{Header}
use Rattle.faults.specs.declared.place.Place.{Place}
use Rattle.fdt.specs.declared.token.Token.{Token}
use Rattle.fdt.specs.declared.token.Token.TheVariants.{Open, Property, Close, Nothing, End}
use Rattle.fdt.specs.declared.token.Step.{Step}
use Rattle.faults.specs.declared.fault.TokenFault.{TokenFault}
use Rattle.faults.specs.declared.fault.TokenFault.TheVariants.{Past}
use Rattle.cells.specs.Cells.{Piece, piece, named, cell_or, part_or, name_or}

-- a token, with its name and value as pieces of the blob
pub data Word : Type 0 where
  opens : Piece → Word
  property : Piece → Piece → Word
  closes : Word
  nothing : Word
  ends : Word

abbrev pub word : Token → Word
word (Open n) = opens (piece n)
word (Property n v) = property (named n) (piece v)
word Close = closes
word Nothing = nothing
word End = ends

-- the token that was read and the place of the next
abbrev pub step_seen : Result Step TokenFault → Result (Word × ℕ) TokenFault
step_seen (Ok s) = Ok (word s.token, s.next.0)
step_seen (Err f) = Err f

abbrev pub at : ℕ → Place
at i = record { 0 = i }

-- what follows a result; a fault is passed on
abbrev pub after : {X Y F : Type 0} → Result X F → (X → Result Y F) → Result Y F
after (Ok x) f = f x
after (Err e) f = Err e

-- the next multiple of 4
abbrev pub align : ℕ → ℕ
align i = (i + 3) / 4 * 4

-- where the structure block ends
abbrev pub ending : Header → ℕ
ending h = h.structure + h.structure_size

-- cell 1, then the node's name, ended by a zero byte and padded
abbrev pub open_at : List ℕ → Header → ℕ → Result (Word × ℕ) TokenFault
open_at b h i =
    after (name_or b (i + 4) (ending h) (Past (at i))) (λ name.
    Ok (opens name, align (i + 4 + length name.bytes + 1)))

-- cell 3, a cell with the value's length, one with the name's offset in the strings block, the value, padded
abbrev pub property_at : List ℕ → Header → ℕ → Result (Word × ℕ) TokenFault
property_at b h i =
    after (cell_or b (i + 4) (ending h) (Past (at i))) (λ size.
    after (cell_or b (i + 8) (ending h) (Past (at i))) (λ offset.
    after (part_or b (i + 12) size (ending h) (Past (at i))) (λ value.
    after (name_or b (h.strings + offset) (h.strings + h.strings_size) (Past (at i))) (λ name.
    Ok (property name value, align (i + 12 + size))))))

-- the token that begins with this cell
abbrev pub token_by : List ℕ → Header → ℕ → ℕ → Result (Word × ℕ) TokenFault
token_by b h i tag =
    cond (tag == 1) (open_at b h i)
    (cond (tag == 2) (Ok (closes, i + 4))
    (cond (tag == 3) (property_at b h i)
    (cond (tag == 4) (Ok (nothing, i + 4))
    (cond (tag == 9) (Ok (ends, i + 4))
    (Err (Past (at i)))))))

-- the token at the place i and the place of the next; a token begins at a multiple of 4 in the structure block
abbrev pub token_at : List ℕ → Header → ℕ → Result (Word × ℕ) TokenFault
token_at b h i =
    cond (nat_le h.structure i && i % 4 == 0)
    (after (cell_or b i (ending h) (Past (at i))) (token_by b h i))
    (Err (Past (at i)))
