use Rattle.history.specs.declared.call.Answer.TheVariants.{Done}
use Rattle.history.specs.Law.{answered}
use Rattle.board_text.proofs.Lines.{one_line_more}
use Rattle.board_text.proofs.events.list_of.Goals as goal

pub loop-rest-preserved : goal.loop-rest-preserved
loop-rest-preserved c =
    let pushed = c.in_ok-push.ensures.items in
    let more = one_line_more c.loop-rest.events.items (answered c.in-Some.call Done) c.args.bytes.now c.loop-rest.rest.now c.in-Some.after.now c.loop-rest.invariant c.in-Some.ensures.only in
    cc
