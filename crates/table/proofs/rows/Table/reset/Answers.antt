use Rattle.std.proofs.Common.{ap, ◌∙◌, arith}
use Rattle.std.proofs.lemmas.List.{get_or_default}
use Rattle.line.specs.Steps.{reset}
use Rattle.line.proofs.Records.{reset_more}
use Rattle.table.proofs.rows.Table.reset.Goals as goal

pub loop-row-preserved : goal.loop-row-preserved
loop-row-preserved c =
    let ys = c.loop-row.row-items in
    let i = c.loop-row.row-index in
    let e = c.from-in-loop-row.ensures.0 ∙ c.reset.ensures ∙ ap reset c.from.ensures in
    reset_more _ ys i _ _ c.loop-row-test.true c.loop-row.invariant (get_or_default ys i _ _ (omega arith)) e
