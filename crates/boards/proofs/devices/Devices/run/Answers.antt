use Rattle.std.proofs.Common.{◌<◌, length, arith, sym, refl, ap, ◌∙◌, subst, append-nil}
use Rattle.boards.specs.Devices.{Led, none}
use Rattle.boards.specs.Seats.{seats}
use Rattle.boards.proofs.Running.{calls_set, one_more, ran_more}
use Rattle.boards.proofs.devices.Devices.run.Goals as goal

pub loop-event-preserved : goal.loop-event-preserved
loop-event-preserved g c =
    let i = c.loop-event.event-index in
    let es = c.loop-event.events in
    let lt : i < length es = omega arith in
    record {
      devices = c.call-event.ensures.devices ∙ c.loop-event.invariant.devices;
      calls = calls_set es i _ _ ∙ c.loop-event.invariant.calls;
      ran = λ h l.
          let b = c.loop-event.invariant.led h l in
          let same = ap seats c.loop-event.invariant.devices in
          ran_more (seats c.args.self.now.devices) _ _ _ es i _ lt (c.loop-event.invariant.ran h l)
          (rw (← same) (c.call-event.ensures.is _ b)) (rw (← same) (c.call-event.ensures.steps _ b));
      led = λ h l.
          subst (Led g.C.Controller c.call-event.new.self.controller (seats c.call-event.new.self.devices)) (one_more h es i _ lt)
          (c.call-event.ensures.led _ (c.loop-event.invariant.led h l));
    }

pub loop-event-init : goal.loop-event-init
loop-event-init g c = record {
  devices = refl;
  calls = refl;
  ran = λ h l. none _;
  led = λ h l. subst (Led g.C.Controller c.args.self.now.controller (seats c.args.self.now.devices)) (sym (append-nil h)) l;
}
