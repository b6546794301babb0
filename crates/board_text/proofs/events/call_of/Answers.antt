use Rattle.std.proofs.Common.{◌≡◌}
use Rattle.board_text.specs.Lists.{route_of}
use Rattle.board_text.proofs.Lines.{columns_justified, letter_first}
use Rattle.board_text.proofs.events.call_of.Goals as goal

pub returns-in_err-number_in-clause-every : goal.returns-in_err-number_in-clause-every
returns-in_err-number_in-clause-every c = λ c' small e.
    let found = c.number_in.ensures.every (route_of c') small (columns_justified c' c.args.line.now e) in let lost = c.in_err-number_in.was in absurd cc

pub returns-clause-every : goal.returns-clause-every
returns-clause-every c = λ c' small e.
    let found = c.number_in.ensures.every (route_of c') small (columns_justified c' c.args.line.now e) in
    let read : c.in_ok-number_in.field-0 ≡ route_of c' = let was = c.in_ok-number_in.was in cc in
    c.call_by.ensures.every c' (letter_first c' c.args.line.now e) read
