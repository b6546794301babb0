use Rattle.std.proofs.Common.{◌∙◌, ap, sym, rules, tests}
use Rattle.std.specs.List.{list_all}
use Rattle.std.proofs.lemmas.Iterator.{YieldsList-from_slice}
use Rattle.std.proofs.lemmas.Iterator.Search.{all_from_yields_List}
use Rattle.std.proofs.lemmas.List.Folds.{list_all-map}
use Rattle.plan.specs.Controllers.{made}
use Rattle.plan.specs.Seen.{planned}
use Rattle.plan.specs.declared.placed.Controller.{Controller}
use Rattle.boards.specs.Assembly.{in_order, parent_open}
use Rattle.boards.specs.Boards.{lists_in}
use Rattle.boards.proofs.parts.Parts.has_open_parents.Goals as goal

pub returns : goal.returns
returns g c = λ s.
    let p = planned c.args.plan.now in
    let ls = in_order (lists_in g.A.Controller g.B.Controller g.C.Controller g.D.Controller c.args.self.now) in
    let cs = c.controllers.result.now in
    all_from_yields_List (λ (x : Controller). parent_open p ls x.parent) c.all.new.self _ _ c.all.ensures.ran (YieldsList-from_slice cs cc) (λ x b q h. search (rules, tests))
    ∙ sym (list_all-map (λ m. parent_open p ls m.parent) made cs)
    ∙ ap (list_all (λ m. parent_open p ls m.parent)) c.controllers.ensures
