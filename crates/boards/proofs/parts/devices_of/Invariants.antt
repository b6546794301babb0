use Rattle.std.proofs.Common.{◌≡◌, length, map, take}
use Rattle.plan.specs.Seen.{planned, routed}
use Rattle.boards.specs.Assembly.{seat_of}
use Rattle.boards.specs.Seats.{seats}
use Rattle.boards.proofs.parts.devices_of.Given as goal

-- the devices of the routes so far
abbrev pub invariant-loop-route : goal.invariant-loop-route
invariant-loop-route l =
    record {
      count : length l.devices.items ≡ l.route-index;
      made : seats l.devices ≡ map (seat_of (planned l.plan)) (map routed (take l.route-index l.route-items));
    }
