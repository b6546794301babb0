use Rattle.std.proofs.Common.{◌∙◌, ap, sym, rules, tests}
use Rattle.std.specs.List.{list_all}
use Rattle.std.proofs.lemmas.Iterator.{YieldsList-from_slice}
use Rattle.std.proofs.lemmas.Iterator.Search.{all_from_yields_List}
use Rattle.std.proofs.lemmas.List.Folds.{list_all-map}
use Rattle.plan.specs.Seen.{planned, routed}
use Rattle.plan.specs.declared.route.Route.{Route}
use Rattle.boards.specs.Assembly.{in_order, is_open, plan_line}
use Rattle.boards.specs.Boards.{lists_in}
use Rattle.boards.proofs.parts.Parts.has_open_routes.Goals as goal

pub returns : goal.returns
returns g c = λ s.
    let p = planned c.args.plan.now in
    let ls = in_order (lists_in g.A.Controller g.B.Controller g.C.Controller g.D.Controller c.args.self.now) in
    let rs = c.routes.result.now in
    all_from_yields_List (λ (r : Route). is_open ls (plan_line p r.spot)) c.all.new.self _ _ c.all.ensures.ran (YieldsList-from_slice rs cc) (λ x b q h. search (rules, tests))
    ∙ sym (list_all-map (λ r. is_open ls (plan_line p r.spot)) routed rs)
    ∙ ap (list_all (λ r. is_open ls (plan_line p r.spot))) c.routes.ensures.is
