-- The history of two ticks meets the premises of the law on claims.
use Rattle.std.proofs.Common.{◌≡◌, true, false, refl}
use Rattle.std.proofs.lemmas.Bool.{false≢true}
use Rattle.line.specs.declared.row.Sense.TheVariants.{Edge}
use Rattle.line.specs.Rows.{fresh, waits}
use Rattle.history.specs.Own.{is_claim}
use Rattle.history.specs.Example.{two_ticks, PremisesMet}
use Rattle.history.proofs.Keeping.{kept_by_test, befores}

-- not a claim
no : {X : Type 0} → false ≡ true → X
no e = absurd (false≢true e)

pub met : PremisesMet two_ticks
met = record {
  kept = kept_by_test Edge 0 two_ticks refl;
  wait = befores 0 (λ e. is_claim 0 e.call e.answer) waits (fresh Edge) two_ticks
      (no, (no, ((λ _. refl), (no, (no, (no, ((λ _. refl), (no, (no, tt)))))))));
  twice = refl;
}
