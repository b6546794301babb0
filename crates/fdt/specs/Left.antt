-- What an iterator over tokens has left.
use Rattle.std.specs.Prelude.{List, [], Some, None, Ok, Err, Option, Result}
use Rattle.fdt.specs.declared.blob.Blob.{Blob}
use Rattle.fdt.specs.declared.token.Step.{Step}
use Rattle.fdt.specs.declared.tokens.Tokens.{Tokens}
use Rattle.faults.specs.declared.fault.TokenFault.{TokenFault}
use Rattle.faults.specs.declared.place.Place.{Place}
use Rattle.fdt.specs.Tokens.{word}
use Rattle.fdt.specs.Items.{Item, item, bad}
use Rattle.fdt.specs.Reads.{tokens_of}

-- a token with its place, or why none could be read
abbrev pub item_seen : Result (Place × Step) TokenFault → Item
item_seen (Ok x) = item x.0.0 (word x.1.token) x.1.next.0
item_seen (Err f) = bad f

abbrev pub tokens_from : Blob → Option Place → List Item
tokens_from b None = []
tokens_from b (Some p) = tokens_of b p.0

abbrev pub tokens_left : Tokens → List Item
tokens_left t = tokens_from t.blob t.place
