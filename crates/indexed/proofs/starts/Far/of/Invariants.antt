use Rattle.indexed.specs.Starts.{Told}
use Rattle.indexed.proofs.starts.Far.of.Given as goal

-- what the rows say holds of the tree
abbrev pub invariant-loop-i : goal.invariant-loop-i
invariant-loop-i l = Told l.tree l.list.items
