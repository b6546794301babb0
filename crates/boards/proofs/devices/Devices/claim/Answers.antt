use Rattle.std.proofs.Common.{ap, ◌∙◌, ◌≡◌, Some, rules}
use Rattle.std.specs.Prelude.{◌==◌}
use Rattle.search.specs.First.{first}
use Rattle.boards.specs.Devices.{offered}
use Rattle.boards.specs.Seats.{seats}
use Rattle.boards.proofs.Turning.{claim_answer}
use Rattle.boards.proofs.Calls.{claimed_step, led_claimed, line_found}
use Rattle.boards.proofs.devices.Devices.claim.Goals as goal

pub returns-in_err-line-clause-led : goal.returns-in_err-line-clause-led
returns-in_err-line-clause-led g c = λ h l.
    let s : c.from_residual.result ≡ offered (seats c.args.self.now.devices) c.claim.result = search rules in
    led_claimed g.C.Controller c.args.self.now.controller (seats c.args.self.now.devices) c.claim.new.self h c.claim.result c.from_residual.result g.met.C.Controller.lawful s l c.claim.ensures.keeps c.claim.ensures.names

-- the device of the claimed line
device : (g : _) (c : goal.After-first_match g) → c.first_match.result ≡ offered (seats c.args.self.now.devices) (Some c.in_ok-line.line)
device g c = c.first_match.ensures.is ∙ ap (first (λ d. d.line == c.in_ok-line.line)) c.as_slice.ensures.value ∙ line_found c.args.self.now.devices.items c.in_ok-line.line

pub returns-clause-names : goal.returns-clause-names
returns-clause-names g c = λ s.
    device g c ∙ claim_answer (seats c.args.self.now.devices) (g.C.Controller.meaning c.args.self.now.controller) (g.C.Controller.meaning c.claim.new.self) (Some c.in_ok-line.line) (c.in_ok-line.ensures.names s)

pub returns-clause-led : goal.returns-clause-led
returns-clause-led g c = λ h l.
    led_claimed g.C.Controller c.args.self.now.controller (seats c.args.self.now.devices) c.claim.new.self h (Some c.in_ok-line.line) c.first_match.result g.met.C.Controller.lawful (device g c) l c.claim.ensures.keeps c.in_ok-line.ensures.names

pub returns-in_err-line-clause-steps : goal.returns-in_err-line-clause-steps
returns-in_err-line-clause-steps g c = λ s.
    claimed_step (g.C.Controller.meaning c.args.self.now.controller) (g.C.Controller.meaning c.claim.new.self) (seats c.args.self.now.devices) c.claim.result (c.claim.ensures.names s)

pub returns-clause-steps : goal.returns-clause-steps
returns-clause-steps g c = λ s.
    claimed_step (g.C.Controller.meaning c.args.self.now.controller) (g.C.Controller.meaning c.claim.new.self) (seats c.args.self.now.devices) (Some c.in_ok-line.line) (c.in_ok-line.ensures.names s)
