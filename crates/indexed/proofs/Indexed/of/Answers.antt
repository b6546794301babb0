use Rattle.std.proofs.Common.{◌≡◌, refl, ap, ◌∙◌}
use Rattle.tree.specs.Reads.{nodes_of}
use Rattle.indexed.specs.Rows.{rows_of}
use Rattle.indexed.proofs.Joining.{tells_added, keeps_added}
use Rattle.indexed.proofs.Indexed.of.Goals.{in-Some+then-not-add, in_default}
use Rattle.indexed.proofs.Indexed.of.Goals as goal

-- the rows tell of one node more
pub loop-step-preserved : goal.loop-step-preserved
loop-step-preserved c =
    let t = c.args.tree.now in
    let old = c.loop-step.rows.list.items in
    let new = c.add.new.self.list.items in
    let qs = rows_of c.in-Some.step.row in
    let more = c.if-not-add.ensures.more refl in
    record {
      tells = tells_added t old qs new more (nodes_of t) c.loop-step.rest c.in-Some.step.rest c.loop-step.invariant.tells c.in-Some.ensures.tells;
      keeps = keeps_added t old qs new more c.loop-step.invariant.keeps c.in-Some.ensures.keeps;
    }

-- a row without room is left out, so the loop ends with the rows that it had
pub invariant_of-result : goal.invariant_of-result
invariant_of-result c =
    let same : c.match-step_from.rows.list.items ≡ c.loop-step.rows.list.items =
    elim c.match-step_from.branch [
      | in-Some+then-not-add w ↦ ap (λ z. z.list.items) w.rows-is ∙ w.if-not-add.ensures.full refl
      | in_default w ↦ ap (λ z. z.list.items) w.rows-is
    ] in
    record {
      tells = rw same c.loop-step.invariant.tells;
      keeps = rw same c.loop-step.invariant.keeps;
      told = c.of-far.ensures;
      spotted = c.of-spots.ensures;
    }
