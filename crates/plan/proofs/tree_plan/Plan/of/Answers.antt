use Rattle.std.proofs.Common.{sym, rules}
use Rattle.tree.specs.Reads.{nodes_of}
use Rattle.plan.proofs.Ruling.{plan_rules}
use Rattle.plan.proofs.tree_plan.Plan.of.Goals as goal

pub returns-clause-is : goal.returns-clause-is
returns-clause-is c = search rules

pub returns-clause-rules : goal.returns-clause-rules
returns-clause-rules c = plan_rules (nodes_of c.args.tree.now) _ (sym (returns-clause-is c))
