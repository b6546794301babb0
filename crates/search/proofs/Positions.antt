-- The search for an element, by the library's words for a position and for a list whose elements are seen as others.
use Rattle.std.proofs.Common.{◌≡◌, ℕ, suc, ◌+◌, Bool, true, false, cond, not, ltb, List, [], ◌∷◌, length, map, Some, None, refl, sym, ap, ◌∙◌, add-zero, zero-add, arith}
use Rattle.std.specs.List.{position_or_len}
use Rattle.std.proofs.lemmas.Bool.Decides.{nat_tests}
use Rattle.search.specs.First.{first, first_from}

ltb-suc : (m n : ℕ) → ltb (1 + m) (suc n) ≡ ltb m n
ltb-suc m n = grind (arith, nat_tests)

ltb-zero : (n : ℕ) → ltb 0 (suc n) ≡ true
ltb-zero n = grind (arith, nat_tests)

placed : {X : Type 0} (p : X → Bool) (n : ℕ) (xs : List X)
    → cond (ltb (position_or_len p xs) (length xs)) (Some (n + position_or_len p xs)) None ≡ first_from p n xs
placed p n [] = refl
placed {X} p n (x ∷ xs) = go (p x) (position_or_len p xs) (placed p (n + 1) xs)
  where
    go : (b : Bool) (k : ℕ) → cond (ltb k (length xs)) (Some (n + 1 + k)) None ≡ first_from p (n + 1) xs
        → cond (ltb (cond (not b) (1 + k) 0) (suc (length xs))) (Some (n + cond (not b) (1 + k) 0)) None ≡ cond b (Some n) (first_from p (n + 1) xs)
    go true k e = let b = ltb-zero (length xs) in rw b (ap Some (add-zero n))
    go false k e = let s : n + (1 + k) ≡ n + 1 + k = omega arith in let b = ltb-suc k (length xs) in rw (b, s) e

-- a position, where there is one, is that of the first element that passes
pub position_first : {X : Type 0} (p : X → Bool) (xs : List X)
    → cond (ltb (position_or_len p xs) (length xs)) (Some (position_or_len p xs)) None ≡ first p xs
position_first p xs = ap (λ (n : ℕ). cond (ltb (position_or_len p xs) (length xs)) (Some n) None) (sym (zero-add (position_or_len p xs))) ∙ placed p 0 xs

mapped : {X Y : Type 0} (v : X → Y) (p : Y → Bool) (n : ℕ) (xs : List X) → first_from (λ x. p (v x)) n xs ≡ first_from p n (map v xs)
mapped v p n [] = refl
mapped v p n (x ∷ xs) = ap (cond (p (v x)) (Some n)) (mapped v p (n + 1) xs)

-- the first of the elements that are seen as ones that pass
pub first_map : {X Y : Type 0} (v : X → Y) (p : Y → Bool) (xs : List X) → first (λ x. p (v x)) xs ≡ first p (map v xs)
first_map v p xs = mapped v p 0 xs
