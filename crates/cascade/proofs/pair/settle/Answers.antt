use Rattle.std.proofs.Common.{is_some, ap, ◌∙◌}
use Rattle.cascade.specs.Pairing.{settled}
use Rattle.cascade.proofs.pair.settle.Goals as goal

pub returns-clause-settled : goal.returns-clause-settled
returns-clause-settled g c = λ f q l. settled _ _ _ c.args.k c.is_some-high.result c.drive.result (c.is_some-high.ensures ∙ ap is_some (c.offer.ensures q)) l (c.drive.ensures.steps f)
