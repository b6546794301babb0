use Rattle.std.proofs.Common.{◌≡◌, map, take, drop, ◌++◌}
use Rattle.line.specs.Steps.{reset}
use Rattle.highest_first.proofs.chip.HighestFirstController.reset.Given as goal

abbrev pub invariant-loop-row : goal.invariant-loop-row
invariant-loop-row l =
    l.row-items ≡ map reset (take l.row-index l.initial.row-items) ++ drop l.row-index l.initial.row-items
