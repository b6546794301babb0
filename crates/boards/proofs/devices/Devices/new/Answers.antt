use Rattle.std.proofs.Common.{◌≡◌, ◌<◌, get_or, length, arith, ap, ◌∙◌}
use Rattle.std.proofs.lemmas.List.{length-map}
use Rattle.boards.specs.Seats.{seat, seats}
use Rattle.boards.proofs.Setting.{device_changed, set_next, stood_all}
use Rattle.boards.proofs.devices.Devices.new.Goals as goal

pub loop-device-preserved : goal.loop-device-preserved
loop-device-preserved g c =
    let xs = c.args.devices.items in
    let n = c.loop-device.device-index in
    let v = ap length c.as_slice-device-items.ensures.value in
    let t = c.loop-device-test.true in
    let lt : n < length xs = omega arith in
    let lt' : n < length (seats c.args.devices) = let l = length-map xs seat in omega arith in
    let d : c.device-item.result ≡ get_or xs n c.device-item.result = c.device-item.is ∙ ap (λ ys. get_or ys n c.device-item.result) c.as_slice-device-items.ensures.value in
    record {
      sound = c.set_sense.ensures.keeps c.loop-device.invariant.sound;
      set = set_next (g.C.Controller.meaning c.args.controller).lines (seats c.args.devices) n (g.C.Controller.meaning c.loop-device.controller) (g.C.Controller.meaning c.set_sense.new.self) c.set_sense.result
          c.requires.rests c.requires.opened lt' c.loop-device.invariant.set
          (device_changed (g.C.Controller.meaning c.loop-device.controller) (g.C.Controller.meaning c.set_sense.new.self) c.set_sense.result xs n c.device-item.result lt d (c.set_sense.ensures.steps c.loop-device.invariant.sound));
    }

pub returns-clause-led : goal.returns-clause-led
returns-clause-led g c =
    let ds = seats c.args.devices in
    let n = c.loop-device.device-index in
    let l = length-map c.args.devices.items seat in
    let v = ap length c.as_slice-device-items.ensures.value in
    let e : n ≡ length ds = omega arith in
    record {
      sound = c.loop-device.invariant.sound;
      stood = stood_all (g.C.Controller.meaning c.loop-device.controller).lines (g.C.Controller.meaning c.args.controller).lines ds n e c.requires.rests c.requires.opened c.loop-device.invariant.set;
    }
