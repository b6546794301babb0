use Rattle.std.proofs.Common.{◌≡◌, ◌-◌, ◌*◌, ◌≤◌, length}
use Rattle.plan.specs.Placings.{place_more}
use Rattle.plan.specs.Seen.{placing}
use Rattle.plan.proofs.placing.Placing.all.Given as goal

-- what is placed from here on is placed as from the start
abbrev pub invariant-loop-placed : goal.invariant-loop-placed
invariant-loop-placed l =
    record {
      count : length l.placing.order.items ≡ l._placed;
      few : l.placing.lines ≤ 64 * l._placed;
      decides : place_more (l.count - l._placed) (placing l.placing) ≡ place_more l.count (placing l.initial.placing);
    }
