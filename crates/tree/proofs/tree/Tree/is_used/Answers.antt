use Rattle.std.proofs.Common.{◌≡◌, ◌-◌, arith}
use Rattle.std.proofs.lemmas.Grind.{common_steps}
use Rattle.std.specs.Iterator.Adapters.{take_count}
use Rattle.tree.proofs.Taking.{take_first}
use Rattle.tree.proofs.tree.Tree.is_used.Goals as goal

pub loop-node-preserved : goal.loop-node-preserved
loop-node-preserved c =
    let left : take_count c.loop-node.node-iterator - 1 ≡ take_count c.next.new.self = omega (arith, c.in-Some.ensures.steps) in
    grind (arith, common_steps, take_first)
