use Rattle.std.proofs.Common.{◌+◌, ◌*◌}
use Rattle.walk.proofs.steps.+arrive_look_up_row.Given as goal

abbrev pub decreases-arrive : goal.decreases-arrive
decreases-arrive l = 2 * l.arrival.now.rows_left + 1

abbrev pub decreases-look_up_row : goal.decreases-look_up_row
decreases-look_up_row l = 2 * l.arrival.now.rows_left
