use Rattle.std.proofs.Common.{rules}
use Rattle.board_text.proofs.Numbers.{one_blank_less}
use Rattle.board_text.proofs.events.+number_in.Goals as goal

pub returns-in-Some-clause-every : goal.returns-in-Some-clause-every
returns-in-Some-clause-every t c = λ n small j. c.number_in.ensures.every n small (one_blank_less n c.args.columns.now c.in-Some.rest.now (search rules) small j)
