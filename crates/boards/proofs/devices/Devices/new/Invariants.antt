use Rattle.std.proofs.Common.{◌≡◌, take}
use Rattle.boards.specs.Seats.{seats}
use Rattle.boards.specs.Devices.{senses_set}
use Rattle.boards.proofs.devices.Devices.new.Given as goal

-- the senses of the devices so far are set
abbrev pub invariant-loop-device : goal.invariant-loop-device
invariant-loop-device g l =
    record {
      sound : g.C.Controller.sound l.controller;
      set : (g.C.Controller.meaning l.controller).lines ≡ senses_set (take l.device-index (seats l.fn.devices)) (g.C.Controller.meaning l.initial.controller).lines;
    }
