-- What is read of a blob.
use Rattle.std.specs.Prelude.{ℕ, List, Result}
use Rattle.fdt.specs.declared.blob.Blob.{Blob}
use Rattle.faults.specs.declared.fault.TokenFault.{TokenFault}
use Rattle.fdt.specs.Tokens.{Word, token_at}
use Rattle.fdt.specs.Items.{Item, items}

-- the token at a place of the blob, and the place of the next
abbrev pub token_of : Blob → ℕ → Result (Word × ℕ) TokenFault
token_of b i = token_at b.bytes.now b.header i

-- the tokens of the blob from a place on
abbrev pub tokens_of : Blob → ℕ → List Item
tokens_of b i = items b.bytes.now b.header i
