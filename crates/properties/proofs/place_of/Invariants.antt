use Rattle.std.proofs.Common.{◌≡◌, ◌-◌}
use Rattle.fdt.specs.Tokens.{ending}
use Rattle.fdt.specs.Items.{items}
use Rattle.properties.specs.Properties.{place_of, sought}
use Rattle.properties.proofs.place_of.Given as goal

-- from here on the search ends at the same place as from the start, and with the same property
abbrev pub invariant-loop-step : goal.invariant-loop-step
invariant-loop-step l =
    (place_of l.name l.at.0 (items l.blob.bytes.now l.blob.header l.at.0) ≡ place_of l.name l.fn.place.0 (items l.blob.bytes.now l.blob.header l.fn.place.0))
    × (sought l.name (items l.blob.bytes.now l.blob.header l.at.0) ≡ sought l.name (items l.blob.bytes.now l.blob.header l.fn.place.0))

abbrev pub decreases-loop-step : goal.decreases-loop-step
decreases-loop-step l = ending l.blob.header - l.at.0
