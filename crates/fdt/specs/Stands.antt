-- Where the bytes that are handed out stand in the blob.
use Rattle.std.specs.Prelude.{◌≡◌, ℕ, ◌+◌, ◌<◌, ◌≤◌, List, length, Ok, Err, Result, ◌≢◌, slice_index, slice_index_or}
use Rattle.faults.specs.declared.fault.TokenFault.{TokenFault}
use Rattle.cells.specs.Cells.{Piece}
use Rattle.fdt.specs.Tokens.{Word, opens, property, closes, nothing, ends}

-- the bytes of p are those of the blob from p's place on
pub record Stands (b : List ℕ) (p : Piece) : Type 0 where
  pub inside : p.place + length p.bytes ≤ length b
  pub same : (k : ℕ) → k < length p.bytes → slice_index p.bytes k ≡ slice_index b (p.place + k)

-- p stands in the blob, has no zero byte, and a zero byte follows it
pub record Named (b : List ℕ) (p : Piece) : Type 0 where
  pub stands : Stands b p
  pub whole : (k : ℕ) → k < length p.bytes → slice_index p.bytes k ≢ 0
  pub inside : p.place + length p.bytes < length b
  pub ended : slice_index_or b (p.place + length p.bytes) 0 ≡ 0

abbrev pub WordStands : List ℕ → Word → Type 0
WordStands b (opens n) = Named b n
WordStands b (property n v) = Named b n × Stands b v
WordStands b closes = Unit {0}
WordStands b nothing = Unit {0}
WordStands b ends = Unit {0}

-- the name and the value of a token that was read stand where their places say
abbrev pub TokenStands : List ℕ → Result (Word × ℕ) TokenFault → Type 0
TokenStands b (Ok x) = WordStands b x.0
TokenStands b (Err f) = Unit {0}
