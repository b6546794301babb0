use Rattle.std.proofs.Common.{◌∙◌, ap}
use Rattle.std.specs.Prelude.{◌==◌}
use Rattle.search.specs.First.{first}
use Rattle.plan.proofs.Maps.{made_found}
use Rattle.plan.proofs.draft.Draft.number_of.Goals as goal

pub returns : goal.returns
returns c =
    c.first_match.ensures.is ∙ ap (first (λ x. x.node.0 == c.args.node.0)) c.as_slice.ensures.value ∙ made_found c.args.node.0 c.args.self.now.controllers.items
