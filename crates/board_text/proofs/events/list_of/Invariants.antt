use Rattle.std.proofs.Common.{◌≡◌, ◌++◌, length}
use Rattle.board_text.specs.Lists.{lines_of}
use Rattle.board_text.proofs.events.list_of.Given as goal

abbrev pub invariant-loop-rest : goal.invariant-loop-rest
invariant-loop-rest l = l.fn.bytes ≡ lines_of l.events.items ++ l.rest

abbrev pub decreases-loop-rest : goal.decreases-loop-rest
decreases-loop-rest l = length l.rest
