-- Where a fault was met.
use Rattle.std.specs.Prelude.{ℕ}
use Rattle.faults.specs.declared.place.At.{At}

-- the node and the property at these places; a property that is missing has the place 0
abbrev pub places : ℕ → ℕ → At
places node property = record { node = record { 0 = node }; property = record { 0 = property } }
