use Rattle.std.proofs.Common.{◌≡◌, drop}
use Rattle.line.specs.Lines.{row_of}
use Rattle.history.specs.Kept.{keeps_from}
use Rattle.history.proofs.device.kept_up.Given as goal

-- the record says of the rest of the list what the first record says of the whole
abbrev pub invariant-loop-event : goal.invariant-loop-event
invariant-loop-event l = keeps_from l.device (row_of l.line) (drop l.event-index l.events) ≡ keeps_from l.device (row_of l.initial.line) l.events
