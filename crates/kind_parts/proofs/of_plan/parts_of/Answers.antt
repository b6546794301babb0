use Rattle.plan.specs.Seen.{planned}
use Rattle.kind_parts.proofs.Opening.{fits, opened, takes}
use Rattle.kind_parts.proofs.of_plan.parts_of.Goals as goal

pub returns-clause-fits : goal.returns-clause-fits
returns-clause-fits c = fits (planned c.args.plan.now) _ c.placed_parts.ensures.lists

pub returns-clause-opened : goal.returns-clause-opened
returns-clause-opened c = opened (planned c.args.plan.now) _ c.placed_parts.ensures.lists

pub returns-clause-asked : goal.returns-clause-asked
returns-clause-asked c = takes (planned c.args.plan.now) _ c.placed_parts.ensures.lists c.placed_parts.ensures.few
