use Rattle.std.proofs.Common.{◌≡◌, false, eqb, length, get_or, sym, ap, ◌∙◌, arith}
use Rattle.std.proofs.lemmas.Bool.Decides.{nat_tests}
use Rattle.std.specs.Str.{bytes_eq}
use Rattle.cells.specs.Cells.{before_zero}
use Rattle.cells.proofs.Names.{cut_same, ends_elsewhere}
use Rattle.cells.proofs.name.Name.is.Goals as goal

pub returns-else-front-wanted-eq0 : goal.returns-else-front-wanted-eq0
returns-else-front-wanted-eq0 c =
    let front = c.in-Some.front.now in
    let w = c.args.wanted.now in
    let cut = c.in-Some.ensures.lookup.0 in
    let other : eqb (get_or front (length w) 0) 0 ≡ false = let n = c.if-front-wanted-eq0.false in grind (arith, nat_tests) in
    other
    ∙ sym (ends_elsewhere front w (let l = cut.3 in omega arith) other)
    ∙ ap (λ b. bytes_eq (before_zero b) w) cut.2
    ∙ cut_same c.args.self.now.rest.now w
