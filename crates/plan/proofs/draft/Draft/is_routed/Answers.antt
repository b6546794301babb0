use Rattle.std.proofs.Common.{◌∙◌, ap}
use Rattle.std.specs.Prelude.{◌&&◌, ◌==◌, is_some}
use Rattle.search.specs.First.{first}
use Rattle.plan.proofs.Maps.{routed_found}
use Rattle.plan.proofs.draft.Draft.is_routed.Goals as goal

pub returns : goal.returns
returns c =
    let s = c.args.spot in
    c.is_some.ensures
    ∙ ap is_some c.first_match.ensures.is
    ∙ ap (λ rs. is_some (first (λ r. r.spot.controller == s.controller && r.spot.input == s.input) rs)) c.as_slice.ensures.value
    ∙ routed_found s c.args.self.now.routes.items
