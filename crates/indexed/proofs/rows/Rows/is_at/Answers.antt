use Rattle.std.proofs.Common.{◌≡◌, Some, get_or, rules, tests, ap, ◌∙◌}
use Rattle.indexed.specs.Orders.{IsAt, no_row}
use Rattle.indexed.specs.Rows.{counts_by}
use Rattle.indexed.proofs.Finding.{same_few, with_at}
use Rattle.indexed.proofs.rows.Rows.is_at.Goals as goal

-- the row there is the first with its phandle
pub returns-then-kept-few : goal.returns-then-kept-few
returns-then-kept-few c = λ t.
    let rs = c.args.self.now.list.items in
    let value = c.as_slice-rows.ensures.value in
    let there : IsAt c.as_slice-rows.result.now c.args.phandle c.args.at = record { within = search rules; has = search rules } in
    let kept : (get_or rs c.args.at no_row).counts ≡ Some c.in-Some.kept = rw (← value) c.in-Some.is in
    let same : c.in-Some.kept ≡ c.args.few = same_few c.in-Some.kept c.args.few c.if-kept-few.true (search (rules, tests)) in
    ap counts_by (with_at rs c.args.self.now.rising c.args.phandle c.args.at (rw (← value) there)) ∙ kept ∙ ap Some same
