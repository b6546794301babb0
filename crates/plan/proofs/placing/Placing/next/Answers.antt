use Rattle.std.proofs.Common.{◌∙◌, rules, tests}
use Rattle.std.proofs.lemmas.Iterator.{YieldsList-from_slice}
use Rattle.std.proofs.lemmas.Iterator.Search.{position_from_yields_List}
use Rattle.search.proofs.Positions.{first_map, position_first}
use Rattle.plan.specs.declared.placed.Controller.{Controller}
use Rattle.plan.specs.Controllers.{made}
use Rattle.plan.specs.Placings.{may_place}
use Rattle.plan.specs.Seen.{placing}
use Rattle.plan.proofs.placing.Placing.next.Goals as goal

pub returns : goal.returns
returns c =
    let xs = c.args.self.now.controllers.items in
    let p = placing c.args.self.now in
    let passes = λ (x : Controller). may_place p (made x) in
    position_from_yields_List passes c.position.new.self _ c.position.result c.position.ensures.ran (YieldsList-from_slice xs cc) (λ x b q h. search (rules, tests))
    ∙ position_first passes xs
    ∙ first_map made (may_place p) xs
