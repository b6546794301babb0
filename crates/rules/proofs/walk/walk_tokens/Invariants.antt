use Rattle.std.proofs.Common.{◌≡◌, ◌-◌, Ok}
use Rattle.fdt.specs.Tokens.{ending}
use Rattle.fdt.specs.Items.{items}
use Rattle.rules.specs.Rules.{checked, walked}
use Rattle.rules.proofs.walk.walk_tokens.Given as goal

-- what is left from here on decides as the whole does
abbrev pub invariant-loop-step : goal.invariant-loop-step
invariant-loop-step l =
    checked (ending l.blob.header) (Ok l.at) (items l.blob.bytes.now l.blob.header l.at.cursor.place.0)
    ≡ walked l.blob.bytes.now l.blob.header

abbrev pub decreases-loop-step : goal.decreases-loop-step
decreases-loop-step l = ending l.blob.header - l.at.cursor.place.0
