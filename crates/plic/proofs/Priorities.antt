-- The priority that a list gives to a line.
use Rattle.std.proofs.Common.{◌≡◌, ℕ, zero, suc, List, [], ◌∷◌, get_or, refl}
use Rattle.table.specs.declared.one_to.OneTo.{OneTo}
use Rattle.plic.specs.Offers.{given_level}

pub number_at : (ps : List (OneTo 7)) (i : ℕ) (one : OneTo 7) → one.number ≡ 1 → (get_or ps i one).number ≡ given_level ps i
number_at [] i one e = e
number_at (p ∷ ps) zero one e = refl
number_at (p ∷ ps) (suc i) one e = number_at ps i one e
