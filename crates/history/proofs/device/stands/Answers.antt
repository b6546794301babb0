use Rattle.std.proofs.Common.{rules, ◌≡◌, ap, subst, ◌∙◌}
use Rattle.std.proofs.lemmas.Fn.{fold_over, slice_gives, fronts}
use Rattle.line.specs.Lines.{row_of}
use Rattle.line.specs.Rows.{fresh}
use Rattle.line.specs.Steps.{after}
use Rattle.history.specs.Own.{step_of, at_most_one, stands}
use Rattle.history.proofs.Prefixes.{after_own}
use Rattle.history.proofs.device.stands.Goals as goal

pub returns-clause-is : goal.returns-clause-is
returns-clause-is c = subst (λ h. row_of c.fold.result ≡ stands c.args.sense c.args.device h) c.iter.ensures.rest
    (fold_over fronts (λ y. y.now) _ (λ h r. row_of r ≡ stands c.args.sense c.args.device h) _
    (λ h a x b f' j k. let more = after_own (fresh c.args.sense) c.args.device h x.now in
    let now = ap (λ r. after r (at_most_one (step_of c.args.device x.now))) j in search rules)
    _ _ _ _ (slice_gives c.iter.result) c.fresh.ensures c.fold.ensures.ran)

pub returns-clause-alike : goal.returns-clause-alike
returns-clause-alike c = λ j k e. returns-clause-is c ∙ ap (after (fresh c.args.sense)) e
