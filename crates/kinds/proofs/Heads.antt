-- The first item of an iterator that gives a known list.
use Rattle.std.proofs.Common.{◌≡◌, List, [], ◌∷◌, Some, None, Option, refl, ap}
use Rattle.std.specs.Prelude.{slice_get}
use Rattle.std.specs.Iterator.{AlwaysYields}
use Rattle.std.proofs.lemmas.Iterator.{YieldsList}

first_by : {S A : Type 0} (steps : S → Option A → S → Type 0) (s t : S) (r : Option A) (ys : List A) → AlwaysYields steps (λ y. y) s ys → steps s r t
    → r ≡ slice_get ys 0
first_by steps s t None [] h k = refl
first_by steps s t (Some x) [] h k = absurd (h x t k)
first_by steps s t None (y ∷ ys) h k = absurd (h.0 t k)
first_by steps s t (Some x) (y ∷ ys) h k = ap Some (h.1 x t k).0

pub first_given : {S A : Type 0} {steps : S → Option A → S → Type 0} {s : S} {ys : List A} (t : S) (r : Option A) → steps s r t → YieldsList steps (λ y. y) s ys
    → r ≡ slice_get ys 0
first_given {steps = steps} {s = s} {ys = ys} t r k h = first_by steps s t r ys h.runs k
