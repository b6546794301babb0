use Rattle.std.proofs.Common.{◌≡◌, ℕ, None, Option, subst, arith}
use Rattle.std.proofs.lemmas.Grind.{common_steps}
use Rattle.search.specs.First.{first, FirstFit}
use Rattle.search.proofs.Firsts.{first_fit}
use Rattle.search.proofs.keyed.first_match.Goals as goal

pub returns-clause-fits : goal.returns-clause-fits
returns-clause-fits g c =
    let fit = λ (x : _). g.R.Keyed.fit x c.args.key.now in
    let none : first fit c.args.records.now ≡ None = grind (arith, common_steps) in
    subst (λ (o : Option ℕ). FirstFit fit c.args.records.now o) none (first_fit fit c.args.records.now)
