-- The properties of a node.
use Rattle.std.specs.Prelude.{ℕ, ◌+◌, ◌≤◌, cond, List, [], ◌∷◌, Some, None, Ok, Err, Option, Result}
use Rattle.std.specs.Str.{bytes_eq}
use Rattle.properties.specs.declared.Property.{Property}
use Rattle.cells.specs.declared.header.Header.{Header}
use Rattle.faults.specs.declared.fault.TokenFault.{TokenFault}
use Rattle.cells.specs.Cells.{Piece, piece, named}
use Rattle.fdt.specs.Tokens.{opens, property, closes, nothing, ends, ending}
use Rattle.fdt.specs.Items.{Item, item, bad}

-- a property: the place of its token, its name and its value, and the place of the next token
pub record Owned : Type 0 where
  pub place : ℕ
  pub name : Piece
  pub value : Piece
  pub next : ℕ

abbrev pub owned : Property → Owned
owned p = record { place = p.place.0; name = named p.name; value = piece p.value; next = p.next.0 }

abbrev pub option_seen : Option Property → Option Owned
option_seen None = None
option_seen (Some p) = Some (owned p)

abbrev pub property_seen : Result (Option Property) TokenFault → Result (Option Owned) TokenFault
property_seen (Ok o) = Ok (option_seen o)
property_seen (Err f) = Err f

-- a property that was read from the place i on lies in the structure block, and the next token past i
abbrev pub PropertyGoes : Header → ℕ → Result (Option Property) TokenFault → Type 0
PropertyGoes h i (Ok None) = Unit {0}
PropertyGoes h i (Ok (Some p)) = (i + 4 ≤ p.next.0) × (i + 4 ≤ ending h)
PropertyGoes h i (Err f) = Unit {0}

-- the first property of the tokens, which come up to the next node, the close or the end
abbrev pub first_property : List Item → Result (Option Owned) TokenFault
first_property [] = Ok None
first_property (bad f ∷ ts) = Err f
first_property (item i (opens n) next ∷ ts) = Ok None
first_property (item i (property n v) next ∷ ts) = Ok (Some (record { place = i; name = n; value = v; next = next }))
first_property (item i closes next ∷ ts) = Ok None
first_property (item i nothing next ∷ ts) = first_property ts
first_property (item i ends next ∷ ts) = Ok None

-- the first property of this name: of two of one name the first counts
abbrev pub sought : List ℕ → List Item → Result (Option Owned) TokenFault
sought name [] = Ok None
sought name (bad f ∷ ts) = Err f
sought name (item i (opens n) next ∷ ts) = Ok None
sought name (item i (property n v) next ∷ ts) =
    cond (bytes_eq n.bytes name) (Ok (Some (record { place = i; name = n; value = v; next = next }))) (sought name ts)
sought name (item i closes next ∷ ts) = Ok None
sought name (item i nothing next ∷ ts) = sought name ts
sought name (item i ends next ∷ ts) = Ok None

-- From the place i on, that of the first token which is neither a no-op nor a property of another name.
abbrev pub place_of : List ℕ → ℕ → List Item → ℕ
place_of name i [] = i
place_of name i (bad f ∷ ts) = i
place_of name i (item j (opens n) next ∷ ts) = i
place_of name i (item j (property n v) next ∷ ts) = cond (bytes_eq n.bytes name) i (place_of name next ts)
place_of name i (item j closes next ∷ ts) = i
place_of name i (item j nothing next ∷ ts) = place_of name next ts
place_of name i (item j ends next ∷ ts) = i
