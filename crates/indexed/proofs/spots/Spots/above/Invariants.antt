use Rattle.std.proofs.Common.{◌≡◌, None, drop}
use Rattle.indexed.specs.Spots.{above_from}
use Rattle.indexed.proofs.spots.Spots.above.Given as goal

-- what is found among the spots that are left is found among all
abbrev pub invariant-loop-spot : goal.invariant-loop-spot
invariant-loop-spot l = above_from l.place l.depth l.above (drop l.spot-index l.spot-items) ≡ above_from l.place l.depth None l.self.list.items
