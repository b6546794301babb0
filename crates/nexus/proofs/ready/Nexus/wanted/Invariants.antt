use Rattle.std.proofs.Common.{◌≡◌, length}
use Rattle.nexus.specs.Nexuses.{Wanted, ready}
use Rattle.nexus.proofs.ready.Nexus.wanted.Given as goal

-- as many cells as were passed
abbrev pub invariant-loop-i : goal.invariant-loop-i
invariant-loop-i l = (length l.wanted.items ≡ l.i) × Wanted (ready l.self) l.wanted.items
