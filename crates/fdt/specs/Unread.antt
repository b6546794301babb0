-- Which bytes decide a token.
use Rattle.std.specs.Prelude.{◌≡◌, ℕ, ◌+◌, ◌<◌, ◌≤◌, List, [], ◌∷◌, length, Ok, Err, Result, slice_index}
use Rattle.cells.specs.declared.header.Header.{Header}
use Rattle.faults.specs.declared.fault.TokenFault.{TokenFault}
use Rattle.faults.specs.declared.fault.TokenFault.TheVariants.{Header as Held, Past, Rule, Depth}
use Rattle.fdt.specs.Items.{Item, item, bad}
use Rattle.fdt.specs.Tokens.{Word, opens, property, closes, nothing, ends, ending, token_at}

-- where a token at i ends, its padding left out: past the zero byte of a node's name, or past a property's value
abbrev pub token_end : ℕ → Word → ℕ
token_end i (opens name) = i + 4 + length name.bytes + 1
token_end i (property name value) = i + 12 + length value.bytes
token_end i closes = i + 4
token_end i nothing = i + 4
token_end i ends = i + 4

-- up to where the structure block is read for the token at i: its end, or the block's where none could be read
abbrev pub reads_to : Header → ℕ → Result (Word × ℕ) TokenFault → ℕ
reads_to h i (Ok x) = token_end i x.0
reads_to h i (Err f) = ending h

-- two byte strings of one length have the same bytes from a up to e
abbrev pub Same : List ℕ → List ℕ → ℕ → ℕ → Type 0
Same b c a e = (k : ℕ) → a ≤ k → k < e → slice_index b k ≡ slice_index c k

-- c has the bytes of b wherever the token at i and the names of properties stand
pub record SameToken (b c : List ℕ) (h : Header) (i : ℕ) (r : Result (Word × ℕ) TokenFault) : Type 0 where
  pub size : length b ≡ length c
  pub token : Same b c i (reads_to h i r)
  pub names : Same b c h.strings (h.strings + h.strings_size)

-- Bytes that do not stand there, padding among them, do not matter.
abbrev pub Decided : List ℕ → Header → ℕ → Result (Word × ℕ) TokenFault → Type 0
Decided b h i r = (c : List ℕ) → SameToken b c h i r → r ≡ token_at c h i

-- the place that a token's fault carries
abbrev pub fault_place : TokenFault → ℕ
fault_place (Held f) = 0
fault_place (Past p) = p.0
fault_place (Rule p) = p.0
fault_place (Depth p) = p.0

-- c has the bytes of b wherever these tokens stand
abbrev pub SameItems : List ℕ → List ℕ → Header → List Item → Type 0
SameItems b c h [] = Unit {0}
SameItems b c h (item i w next ∷ ts) = Same b c i (token_end i w) × SameItems b c h ts
SameItems b c h (bad f ∷ ts) = Same b c (fault_place f) (ending h) × SameItems b c h ts
