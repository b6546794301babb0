use Rattle.std.proofs.Common.{◌≡◌, ◌-◌}
use Rattle.fdt.specs.Tokens.{ending}
use Rattle.fdt.specs.Items.{items}
use Rattle.properties.specs.Properties.{sought}
use Rattle.properties.proofs.look_ahead.Given as goal

-- the property is sought from here on as from the start
abbrev pub invariant-loop-step : goal.invariant-loop-step
invariant-loop-step l =
    (l.guard.saved ≡ l.initial.guard.saved)
    × (sought l.name (items l.blob.bytes.now l.blob.header l.guard.cursor.now.place.0)
    ≡ sought l.name (items l.blob.bytes.now l.blob.header l.initial.guard.cursor.now.place.0))

abbrev pub decreases-loop-step : goal.decreases-loop-step
decreases-loop-step l = ending l.blob.header - l.guard.cursor.now.place.0
