-- The first nodes of a list, and one node more.
use Rattle.std.proofs.Common.{◌≡◌, ℕ, zero, suc, ◌+◌, ◌-◌, ◌<◌, List, [], ◌∷◌, ◌++◌, take, drop, arith}

-- the first one of those that are taken
pub take_first : {X : Type 0} (n : ℕ) (y : X) (ys : List X) → 0 < n → take n (y ∷ ys) ≡ y ∷ take (n - 1) ys
take_first zero y ys h = absurd (omega arith)
take_first (suc m) y ys h = let s : suc m - 1 ≡ m = omega arith in rw s

-- one more, of those that are taken and of those that are left
pub list_more : {X : Type 0} (all : List X) (n : ℕ) (x : X) (xs : List X) → drop n all ≡ x ∷ xs
    → (take (n + 1) all ≡ take n all ++ (x ∷ [])) × (drop (n + 1) all ≡ xs)
list_more [] zero x xs e = cc
list_more [] (suc n) x xs e = cc
list_more (y ∷ all) zero x xs e = (cc, cc)
list_more (y ∷ all) (suc n) x xs e =
    let r = list_more all n x xs e in
    let s : suc n + 1 ≡ suc (n + 1) = omega arith in
    (cc, cc)
