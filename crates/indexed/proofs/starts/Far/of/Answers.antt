use Rattle.indexed.proofs.Telling.{told_more}
use Rattle.indexed.proofs.starts.Far.of.Goals as goal

-- a row more is kept
pub loop-i-preserved : goal.loop-i-preserved
loop-i-preserved c = rw c.push.ensures.items (told_more c.args.tree.now c.in-Some.starts c.loop-i.list.items c.in-Some.ensures c.loop-i.invariant)
