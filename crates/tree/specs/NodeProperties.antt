-- The properties of a node, in blob order.
use Rattle.std.specs.Prelude.{List, [], ◌∷◌, Some, None, Ok, Err, Option, Result}
use Rattle.faults.specs.declared.fault.TokenFault.{TokenFault}
use Rattle.faults.specs.declared.place.Place.{Place}
use Rattle.fdt.specs.Items.{Item, item, bad}
use Rattle.fdt.specs.Tokens.{opens, property, closes, nothing, ends}
use Rattle.properties.specs.declared.Property.{Property}
use Rattle.properties.specs.Properties.{Owned, owned}
use Rattle.tree.specs.declared.node_properties.Properties.{Properties}
use Rattle.tree.specs.declared.tree.Tree.{Tree}
use Rattle.tree.specs.Reads.{tokens_in}

-- the properties of the tokens, which come up to the next node, the close or the end, or why the tokens could not be read further
abbrev pub properties : List Item → List (Result Owned TokenFault)
properties [] = []
properties (bad f ∷ ts) = Err f ∷ []
properties (item i (opens n) next ∷ ts) = []
properties (item i (property n v) next ∷ ts) = Ok (record { place = i; name = n; value = v; next = next }) ∷ properties ts
properties (item i closes next ∷ ts) = []
properties (item i nothing next ∷ ts) = properties ts
properties (item i ends next ∷ ts) = []

-- the properties from a place on; none past the last
abbrev pub properties_at : Tree → Option Place → List (Result Owned TokenFault)
properties_at t None = []
properties_at t (Some p) = properties (tokens_in t p.0)

-- the properties that are left
abbrev pub properties_left : Properties → List (Result Owned TokenFault)
properties_left s = properties_at s.tree s.at

-- a property as it stands in that list
abbrev pub property_of : Result Property TokenFault → Result Owned TokenFault
property_of (Ok p) = Ok (owned p)
property_of (Err f) = Err f
