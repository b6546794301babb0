-- The first byte that passes a test, as memchr's words say it, is what `position` gives.
use Rattle.std.proofs.Common.{◌≡◌, ℕ, Bool, List, length, Option, Some, None, arith, le_refl}
use Rattle.std.proofs.lemmas.Bool.{false_from_ne_true}
use Rattle.std.proofs.lemmas.List.Sums.{position_or_len_is}
use Rattle.std.specs.Prelude.{position}
use Rattle.memchr.specs.Find.{IsFirstByte}

pub first_position : (p : ℕ → Bool) (b : List ℕ) (r : Option ℕ) → IsFirstByte p b r → r ≡ position p b
first_position p b None h =
    let at = position_or_len_is p b (length b) 0 (le_refl (length b)) (λ k l. false_from_ne_true _ (h k (omega arith) l)) (λ l. absurd (omega arith)) in
    grind arith
first_position p b (Some i) h =
    let inside = h.0.high in
    let at = position_or_len_is p b i 0 (omega arith) (λ k l. false_from_ne_true _ (h.0.before k (omega arith) l)) (λ _. h.1) in
    grind arith
