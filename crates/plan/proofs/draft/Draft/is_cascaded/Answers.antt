use Rattle.std.proofs.Common.{◌∙◌, rules, tests}
use Rattle.std.proofs.lemmas.Iterator.{YieldsList-from_slice}
use Rattle.std.proofs.lemmas.Iterator.Search.{any_from_yields_List}
use Rattle.plan.specs.declared.placed.Controller.{Controller}
use Rattle.plan.specs.Controllers.{ends_at, made}
use Rattle.plan.proofs.Maps.{any_map}
use Rattle.plan.proofs.draft.Draft.is_cascaded.Goals as goal

pub returns : goal.returns
returns c =
    let s = c.args.spot in
    any_from_yields_List (λ (x : Controller). ends_at s x.parent) c.any.new.self _ _ c.any.ensures.ran (YieldsList-from_slice c.args.self.now.controllers.items cc) (λ x b q h. search (rules, tests))
    ∙ any_map made (λ m. ends_at s m.parent) c.args.self.now.controllers.items
