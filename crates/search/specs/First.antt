-- The first element of a list that passes a test.
use Rattle.std.specs.Prelude.{◌≡◌, ℕ, ◌+◌, ◌<◌, Bool, true, false, cond, List, [], ◌∷◌, length, drop, Some, None, Option, slice_index_or}
use Rattle.search.specs.Exactly.{Exactly}

-- the index of the first element that passes, where the list's first has the index n
abbrev pub first_from : {X : Type 0} → (X → Bool) → ℕ → List X → Option ℕ
first_from fit n [] = None
first_from fit n (x ∷ xs) = cond (fit x) (Some n) (first_from fit (n + 1) xs)

abbrev pub first : {X : Type 0} → (X → Bool) → List X → Option ℕ
first fit xs = first_from fit 0 xs

-- the search from the index i on, by whether the element there passes, None where there is none
abbrev pub first_by : {X : Type 0} → (X → Bool) → ℕ → List X → Option Bool → Option ℕ
first_by fit i xs None = None
first_by fit i xs (Some t) = cond t (Some i) (first_from fit (i + 1) (drop (i + 1) xs))

-- no element passes
abbrev pub Nowhere : {X : Type 0} → (X → Bool) → List X → Type 0
Nowhere {X} fit xs = (k : ℕ) (d : X) → k < length xs → fit (slice_index_or xs k d) ≡ false

-- the element at i passes, and none before it does
pub record FirstAt {X : Type 0} (fit : X → Bool) (xs : List X) (i : ℕ) : Type 0 where
  pub within : i < length xs
  pub passes : (d : X) → fit (slice_index_or xs i d) ≡ true
  pub before : (k : ℕ) (d : X) → k < i → fit (slice_index_or xs k d) ≡ false

-- r is the index of the first element that passes, and None exactly when none passes
pub record FirstFit {X : Type 0} (fit : X → Bool) (xs : List X) (r : Option ℕ) : Type 0 where
  pub found : (i : ℕ) → Exactly (r ≡ Some i) (FirstAt fit xs i)
  pub none : Exactly (r ≡ None) (Nowhere fit xs)
