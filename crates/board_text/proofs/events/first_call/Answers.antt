use Rattle.std.proofs.Common.{rules, arith}
use Rattle.board_text.proofs.Lines.{first_line}
use Rattle.board_text.proofs.events.first_call.Goals as goal

pub returns-in_err-call_of-clause-every : goal.returns-in_err-call_of-clause-every
returns-in_err-call_of-clause-every c = λ c' after small e.
    let line = first_line c' after c.args.bytes.now small e in
    let found = c.call_of.ensures.every c' (omega arith) (search (rules, line)) in let lost = c.in_err-call_of.was in absurd cc
