use Rattle.board_text.proofs.Numbers.{is_text}
use Rattle.board_text.proofs.events.parsed.Goals as goal

pub returns-in-Err-clause-every : goal.returns-in-Err-clause-every
returns-in-Err-clause-every c = λ n small e. absurd (c.in-Err.ensures.cases.0 (is_text n c.args.digits.now small e))
