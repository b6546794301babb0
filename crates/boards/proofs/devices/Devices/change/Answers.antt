use Rattle.std.proofs.Common.{rules, ◌≡◌, sym, ◌∙◌, subst, Err, ◌++◌, ◌∷◌, []}
use Rattle.history.specs.Law.{answered}
use Rattle.boards.specs.Devices.{Led, done_or}
use Rattle.boards.specs.Seats.{seats}
use Rattle.boards.proofs.Turning.{device_seen}
use Rattle.boards.proofs.Calls.{changed_answer, changed_turns, led_changed, led_refused, refused_step}
use Rattle.boards.proofs.devices.Devices.change.Goals as goal

pub returns-in_err-device-clause-led : goal.returns-in_err-device-clause-led
returns-in_err-device-clause-led g c = λ k h e l.
    let s : c.from_residual.result ≡ Err c.in_err-device.field-0.0 = search rules in
    led_refused g.C.Controller c.args.self.now.controller (seats c.args.self.now.devices) c.args.i c.args.change k h c.in_err-device.field-0.0 c.from_residual.result c.in_err-device.ensures s e l

pub returns-clause-is : goal.returns-clause-is
returns-clause-is g c = λ k h e l.
    let s : c.map_err.result ≡ device_seen c.change.result = search rules in
    s ∙ changed_answer g.C.Controller c.args.self.now.controller (seats c.args.self.now.devices) c.change.new.self c.args.i c.args.change k h _ c.change.result c.in_ok-device.ensures e l c.change.ensures.steps

pub returns-clause-led : goal.returns-clause-led
returns-clause-led g c = λ k h e l.
    let s : c.map_err.result ≡ device_seen c.change.result = search rules in
    subst (λ r. Led g.C.Controller c.change.new.self (seats c.args.self.now.devices) (h ++ (answered k (done_or r) ∷ []))) (sym s)
    (led_changed g.C.Controller c.args.self.now.controller (seats c.args.self.now.devices) c.change.new.self c.args.i c.args.change k h _ c.change.result c.in_ok-device.ensures e l c.change.ensures.keeps c.change.ensures.steps)

pub returns-in_err-device-clause-steps : goal.returns-in_err-device-clause-steps
returns-in_err-device-clause-steps g c = λ k h e l.
    refused_step (g.C.Controller.meaning c.args.self.now.controller) (seats c.args.self.now.devices) c.args.i c.args.change k c.in_err-device.field-0.0 c.in_err-device.ensures e

pub returns-clause-steps : goal.returns-clause-steps
returns-clause-steps g c = λ k h e l.
    changed_turns g.C.Controller c.args.self.now.controller (seats c.args.self.now.devices) c.change.new.self c.args.i c.args.change k h _ c.change.result c.in_ok-device.ensures e l c.change.ensures.steps
