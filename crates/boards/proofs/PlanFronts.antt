-- How many lines the controllers have that are placed first.
use Rattle.std.proofs.Common.{◌≡◌, ℕ, zero, suc, ◌+◌, ◌<◌, ◌≤◌, List, [], ◌∷◌, ◌++◌, length, take, Some, refl, ap, ◌∙◌, arith}
use Rattle.std.specs.Prelude.{slice_get}
use Rattle.std.specs.List.{Contains}
use Rattle.std.proofs.lemmas.Option.{slice_get-get_or}
use Rattle.plan.specs.Plans.{Planned, made_at}
use Rattle.plan.specs.Rules.{widths, width_by}

-- the lines of the first n controllers of an order
abbrev pub front : Planned → List ℕ → ℕ → ℕ
front p ks n = widths p.controllers (take n ks)

-- one controller more
pub front_more : (p : Planned) (ks : List ℕ) (n : ℕ) → front p ks (suc n) ≡ front p ks n + width_by (made_at p (slice_get ks n))
front_more p [] zero = refl
front_more p [] (suc n) = refl
front_more p (k ∷ ks) zero = omega arith
front_more p (k ∷ ks) (suc n) = omega (arith, front_more p ks n)

pub front_all : (p : Planned) (ks : List ℕ) (n : ℕ) → front p ks n ≤ widths p.controllers ks
front_all p ks zero = omega arith
front_all p [] (suc n) = omega arith
front_all p (k ∷ ks) (suc n) = omega (arith, front_all p ks n)

-- a controller with those before it is in the front
pub front_holds : (p : Planned) (xs rest : List ℕ) (k n : ℕ) → length xs < n → widths p.controllers xs + width_by (slice_get p.controllers k) ≤ front p (xs ++ (k ∷ rest)) n
front_holds p xs rest k zero h = absurd (let f : ⊥ = omega arith in f)
front_holds p [] rest k (suc n) h = omega arith
front_holds p (x ∷ xs) rest k (suc n) h = omega (arith, front_holds p xs rest k n (omega arith))

-- the element at the seam
pub seam : (xs rest : List ℕ) (k : ℕ) → slice_get (xs ++ (k ∷ rest)) (length xs) ≡ Some k
seam [] rest k = refl
seam (x ∷ xs) rest k = seam xs rest k

get_left : (xs ys : List ℕ) (i k : ℕ) → slice_get xs i ≡ Some k → slice_get (xs ++ ys) i ≡ Some k
get_left [] ys i k e = absurd cc
get_left (x ∷ xs) ys zero k e = e
get_left (x ∷ xs) ys (suc i) k e = get_left xs ys i k e

-- an element of a front has a place in it
pub front_place : (xs ys : List ℕ) (k : ℕ) → Contains xs k → (i : ℕ) × (i < length xs) × (slice_get (xs ++ ys) i ≡ Some k)
front_place xs ys k c = (c.0, c.1, get_left xs ys c.0 k (slice_get-get_or xs c.0 k c.1 ∙ ap Some c.2))
