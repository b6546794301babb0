-- The tokens of a structure block, in order.
use Rattle.std.specs.Prelude.{ℕ, zero, suc, ◌-◌, List, [], ◌∷◌, Ok, Err, Result}
use Rattle.cells.specs.declared.header.Header.{Header}
use Rattle.faults.specs.declared.fault.TokenFault.{TokenFault}
use Rattle.fdt.specs.Tokens.{Word, opens, property, closes, nothing, ends, token_at, ending}

-- a token at its place, with the place of the next; or why none could be read
pub data Item : Type 0 where
  item : ℕ → Word → ℕ → Item
  bad : TokenFault → Item

-- the token at i and those after it, of which k has those from a later place on; nothing comes after the end token
abbrev pub onward : (ℕ → List Item) → ℕ → Word → ℕ → List Item
onward k i ends next = item i ends next ∷ []
onward k i (opens n) next = item i (opens n) next ∷ k next
onward k i (property n v) next = item i (property n v) next ∷ k next
onward k i closes next = item i closes next ∷ k next
onward k i nothing next = item i nothing next ∷ k next

abbrev pub more : (ℕ → List Item) → ℕ → Result (Word × ℕ) TokenFault → List Item
more k i (Err f) = bad f ∷ []
more k i (Ok x) = onward k i x.0 x.1

-- at most n tokens from the place i on
abbrev pub items_in : ℕ → List ℕ → Header → ℕ → List Item
items_in zero b h i = []
items_in (suc n) b h i = more (items_in n b h) i (token_at b h i)

-- the tokens from the place i on, up to the end token or the first that cannot be read
unfoldable pub items : List ℕ → Header → ℕ → List Item
items b h i = items_in (suc (ending h - i)) b h i

-- all tokens of the structure block
abbrev pub all_items : List ℕ → Header → List Item
all_items b h = items b h h.structure
