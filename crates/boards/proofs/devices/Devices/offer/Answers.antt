use Rattle.std.proofs.Common.{ap, ◌∙◌}
use Rattle.std.specs.Prelude.{◌==◌}
use Rattle.search.specs.First.{first}
use Rattle.boards.specs.Devices.{offered}
use Rattle.boards.specs.Seats.{seats}
use Rattle.boards.proofs.Calls.{line_found}
use Rattle.boards.proofs.devices.Devices.offer.Goals as goal

pub returns : goal.returns
returns g c = λ s.
    let f = c.first_match.ensures.is ∙ ap (first (λ d. d.line == c.in_ok-line.line)) c.as_slice.ensures.value ∙ line_found c.args.self.now.devices.items c.in_ok-line.line in
    f ∙ ap (offered (seats c.args.self.now.devices)) (c.in_ok-line.ensures s)
