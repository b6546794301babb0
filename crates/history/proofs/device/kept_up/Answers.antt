use Rattle.std.proofs.Common.{arith}
use Rattle.std.proofs.lemmas.Grind.{common_steps}
use Rattle.history.proofs.Keeping.{kept_exactly}
use Rattle.history.proofs.device.kept_up.Goals as goal

pub returns-then-not-is_in_time-clause-exactly : goal.returns-then-not-is_in_time-clause-exactly
returns-then-not-is_in_time-clause-exactly c = kept_exactly c.args.sense c.args.device c.args.events.now _ (grind (arith, common_steps))

pub returns-clause-exactly : goal.returns-clause-exactly
returns-clause-exactly c = kept_exactly c.args.sense c.args.device c.args.events.now _ (grind (arith, common_steps))
