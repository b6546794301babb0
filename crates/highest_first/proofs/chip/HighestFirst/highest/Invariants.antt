use Rattle.std.proofs.Common.{◌≡◌}
use Rattle.highest_first.specs.Highest.{chip_lines, highest, highest_below}
use Rattle.highest_first.proofs.chip.HighestFirst.highest.Given as goal

-- from here down the search finds what it finds from the last line
abbrev pub invariant-loop-i : goal.invariant-loop-i
invariant-loop-i l = highest_below (chip_lines l.self) l.i ≡ highest (chip_lines l.self)
