use Rattle.std.proofs.Common.{◌≡◌, ap, ◌∙◌, Ok}
use Rattle.tree.specs.Reads.{nodes_of}
use Rattle.plan.specs.Plans.{Planned, plan_of}
use Rattle.plan.specs.Rules.{PlanRules}
use Rattle.plan.specs.Seen.{plan_seen}
use Rattle.boards.specs.Assembly.{asked, seats_of, wiring_of}
use Rattle.boards.specs.Boards.{lists_in}
use Rattle.boards.specs.Seats.{seats}
use Rattle.boards.proofs.Assembling.{lines, opened, rules_seen, set_lines}
use Rattle.boards.proofs.Joining.{asked_reset}
use Rattle.boards.proofs.board.Board.assemble.Goals as goal

pub new-requires-clause-opened : goal.new-requires-clause-opened
new-requires-clause-opened g c =
    let r = plan_of (nodes_of c.args.tree.now) in
    let ls = lists_in g.A.Controller g.B.Controller g.C.Controller g.D.Controller c.reset.new.self in
    let q : plan_seen c.plan.result ≡ asked r ls = c.plan.ensures.is c.reset.ensures.sound in
    let rules : (p : Planned) → asked r ls ≡ Ok p → PlanRules p = λ p e. rules_seen c.plan.result c.plan.ensures.rules p (q ∙ e) in
    opened r ls rules _ _ _ (c.drawn-devices.ensures.wiring ∙ ap wiring_of q) c.cascaded.ensures.lines (c.drawn-devices.ensures.devices ∙ ap seats_of q)

pub returns : goal.returns
returns g c =
    let r = plan_of (nodes_of c.args.tree.now) in
    let ls = lists_in g.A.Controller g.B.Controller g.C.Controller g.D.Controller c.reset.new.self in
    let q : plan_seen c.plan.result ≡ asked r ls = c.plan.ensures.is c.reset.ensures.sound in
    let rules : (p : Planned) → asked r ls ≡ Ok p → PlanRules p = λ p e. rules_seen c.plan.result c.plan.ensures.rules p (q ∙ e) in
    let d : seats c.new.result.devices ≡ seats_of (asked r ls) = ap seats c.new.ensures.devices ∙ c.drawn-devices.ensures.devices ∙ ap seats_of q in
    record {
      drawn = record {
        lists = ls;
        given = c.reset.ensures.resets;
        devices = d;
        asks = λ s. d ∙ ap seats_of (ap (asked r) (c.reset.ensures.resets s) ∙ asked_reset r (lists_in g.A.Controller g.B.Controller g.C.Controller g.D.Controller c.args.parts));
        lines = λ p e i lt. lines r ls rules (seats c.new.result.devices) d p e i lt;
      };
      lines = set_lines r ls rules _ _ _ _ _ (c.drawn-devices.ensures.wiring ∙ ap wiring_of q) c.cascaded.ensures.lines c.new.ensures.lines (ap seats c.new.ensures.devices);
      led = c.new.ensures.led;
    }
