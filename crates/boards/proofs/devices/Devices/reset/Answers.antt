use Rattle.boards.specs.Seats.{seats}
use Rattle.boards.proofs.Calls.{led_reset}
use Rattle.boards.proofs.devices.Devices.reset.Goals as goal

pub returns-clause-led : goal.returns-clause-led
returns-clause-led g c = λ h l.
    led_reset g.C.Controller c.args.self.now.controller (seats c.args.self.now.devices) c.reset.new.self h c.reset.ensures.sound c.reset.ensures.resets l
