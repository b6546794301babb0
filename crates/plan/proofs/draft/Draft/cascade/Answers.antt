use Rattle.std.proofs.Common.{◌≡◌, ◌<◌, length, Some, ◌∙◌, ap, sym, rules}
use Rattle.std.specs.Prelude.{map, slice_index_or}
use Rattle.std.proofs.lemmas.Option.{slice_get-get_or}
use Rattle.kinds.specs.Kinds.{kind}
use Rattle.plan.specs.Seen.{routed}
use Rattle.plan.proofs.Maps.{made_cascaded}
use Rattle.plan.proofs.draft.Draft.cascade.Goals as goal

pub returns-in-Some : goal.returns-in-Some
returns-in-Some c =
    let xs = c.args.self.now.controllers.items in
    let x = c.in-Some.controller.now in
    let within : c.args.k < length xs = search rules in
    let is : x ≡ slice_index_or xs c.args.k x = search rules in
    ap (λ cs. record { controllers = cs; routes = map routed c.args.self.now.routes.items; second = c.args.self.now.second })
    (made_cascaded c.args.k c.args.spot xs x _ (slice_get-get_or xs c.args.k x within ∙ ap Some (sym is))
    (ap (λ p. record { node = x.node.0; kind = kind x.kind; parent = p; first_line = x.first_line }) c.with-controller.ensures))
