use Rattle.std.proofs.Common.{◌≡◌, ◌<◌, length, Some, ◌∙◌, ap, sym, refl, rules}
use Rattle.std.specs.Prelude.{slice_index_or}
use Rattle.std.proofs.lemmas.Option.{slice_get-get_or}
use Rattle.plan.proofs.Maps.{made_lined}
use Rattle.plan.proofs.placing.Placing.place.Goals as goal

pub returns-clause-is : goal.returns-clause-is
returns-clause-is c =
    let xs = c.args.self.now.controllers.items in
    let x = c.in-Some.controller.now in
    let within : c.args.k < length xs = search rules in
    let is : x ≡ slice_index_or xs c.args.k x = search rules in
    let m = made_lined c.args.k c.args.self.now.lines xs x (record { node = x.node; kind = x.kind; parent = x.parent; first_line = Some c.args.self.now.lines })
    (slice_get-get_or xs c.args.k x within ∙ ap Some (sym is)) refl in
    let items = c.push.ensures.items in
    let wide = c.width.ensures.is in
    rw (m.0, m.1, items, wide) refl
