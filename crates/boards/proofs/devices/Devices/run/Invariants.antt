use Rattle.std.proofs.Common.{◌≡◌, ◌++◌, List, take}
use Rattle.history.specs.declared.call.Event.{Event}
use Rattle.boards.specs.Seats.{seats}
use Rattle.boards.specs.Devices.{Led, Ran, calls_in}
use Rattle.boards.proofs.devices.Devices.run.Given as goal

-- the devices are after the events so far
abbrev pub invariant-loop-event : goal.invariant-loop-event
invariant-loop-event g l =
    record {
      devices : l.self.devices ≡ l.initial.self.devices;
      calls : calls_in l.events ≡ calls_in l.initial.events;
      ran : (h : List Event) → Led g.C.Controller l.initial.self.controller (seats l.initial.self.devices) h
          → Ran (seats l.initial.self.devices) (g.C.Controller.meaning l.initial.self.controller) (take l.event-index l.events) (g.C.Controller.meaning l.self.controller);
      led : (h : List Event) → Led g.C.Controller l.initial.self.controller (seats l.initial.self.devices) h
          → Led g.C.Controller l.self.controller (seats l.self.devices) (h ++ take l.event-index l.events);
    }
