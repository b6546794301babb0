use Rattle.std.proofs.Common.{◌≡◌}
use Rattle.fdt.specs.Left.{tokens_left}
use Rattle.fdt.specs.Items.{items}
use Rattle.properties.specs.Properties.{first_property}
use Rattle.properties.proofs.property_from.Given as goal

-- the first property from here on is the first from the start
abbrev pub invariant-loop-read : goal.invariant-loop-read
invariant-loop-read l =
    first_property (tokens_left l.read-iterator) ≡ first_property (items l.blob.bytes.now l.blob.header l.fn.place.0)
