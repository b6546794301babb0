use Rattle.std.proofs.Common.{◌≡◌, ◌<◌, Err, rules}
use Rattle.std.proofs.lemmas.List.{length-map}
use Rattle.plan.specs.Controllers.{made}
use Rattle.plan.specs.Placings.{place_one}
use Rattle.plan.specs.Seen.{placing}
use Rattle.plan.proofs.Steps.{place_stop}
use Rattle.plan.proofs.placing.Placing.all.Goals as goal

pub returns-in_err-place_one : goal.returns-in_err-place_one
returns-in_err-place_one c =
    let p = placing c.loop-placed.placing in
    let f = c.in_err-place_one.field-0.0 in
    let stop : place_one p ≡ Err f = search rules in
    let turn : c.loop-placed._placed < c.len-count.result = search rules in
    let whole = place_stop c.len-count.result c.loop-placed._placed p f turn stop in
    let wide = length-map c.args.controllers.items made in
    search rules
