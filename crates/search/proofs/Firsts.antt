-- A step of the search, its end, and what its answer says of the list.
use Rattle.std.proofs.Common.{◌≡◌, ℕ, zero, suc, ◌+◌, ◌-◌, ◌<◌, ◌≤◌, Bool, true, false, cond, ◌⊎◌, List, [], ◌∷◌, length, get_or, drop, Some, None, Option, sym, refl, ap, ◌∙◌, inl, inr, arith, MatchOption}
use Rattle.std.proofs.lemmas.List.{at_drop_more, at_drop_all}
use Rattle.std.proofs.lemmas.Bool.{cases_order, both_ways}
use Rattle.search.specs.First.{first, first_from, Nowhere, FirstAt, FirstFit}

module _ {X : Type 0} (fit : X → Bool) (xs : List X) (i : ℕ) where
  -- at an element x within the list, by what the test says of it
  pub first_step : (x : X) (t : Bool) → i < length xs → x ≡ get_or xs i x → fit x ≡ t
      → first_from fit i (drop i xs) ≡ cond t (Some i) (first_from fit (i + 1) (drop (i + 1) xs))
  first_step x t h is e =
      at_drop_more (first_from fit i) xs i x h
      ∙ ap (λ b. cond b (Some i) (first_from fit (i + 1) (drop (i + 1) xs))) (ap fit (sym is) ∙ e)

  pub first_end : length xs ≤ i → first_from fit i (drop i xs) ≡ None
  first_end h = at_drop_all (first_from fit i) xs i h

module _ {X : Type 0} (fit : X → Bool) where
  -- the answer of a search that counts from n
  abbrev At : ℕ → List X → ℕ → Type 0
  At n xs i = (n ≤ i) × (i < n + length xs) × ((d : X) → fit (get_or xs (i - n) d) ≡ true) × ((k : ℕ) (d : X) → n + k < i → fit (get_or xs k d) ≡ false)

  none_more : (x : X) (xs : List X) → fit x ≡ false → Nowhere fit xs → Nowhere fit (x ∷ xs)
  none_more x xs e p zero d h = e
  none_more x xs e p (suc k) d h = p k d (omega arith)

  before_more : (n i : ℕ) (x : X) (xs : List X) → fit x ≡ false → ((k : ℕ) (d : X) → n + 1 + k < i → fit (get_or xs k d) ≡ false)
      → (k : ℕ) (d : X) → n + k < i → fit (get_or (x ∷ xs) k d) ≡ false
  before_more n i x xs e p zero d h = e
  before_more n i x xs e p (suc k) d h = p k d (omega arith)

  shifted : (n : ℕ) (x : X) (xs : List X) → fit x ≡ false → (o : Option ℕ) → MatchOption o (Nowhere fit xs) (At (n + 1) xs) → MatchOption o (Nowhere fit (x ∷ xs)) (At n (x ∷ xs))
  shifted n x xs e None p = none_more x xs e p
  shifted n x xs e (Some i) p =
      let a = p.0 in
      let b = p.1 in
      let s : i - n ≡ suc (i - (n + 1)) = omega arith in
      (omega arith, omega arith, (λ d. rw s (p.2 d)), before_more n i x xs e p.3)

  finds_from : (n : ℕ) (xs : List X) → MatchOption (first_from fit n xs) (Nowhere fit xs) (At n xs)
  finds_from n [] = λ k d h. absurd (omega arith)
  finds_from n (x ∷ xs) = go (fit x) refl (finds_from (n + 1) xs)
    where
      go : (b : Bool) → fit x ≡ b → MatchOption (first_from fit (n + 1) xs) (Nowhere fit xs) (At (n + 1) xs)
          → MatchOption (cond b (Some n) (first_from fit (n + 1) xs)) (Nowhere fit (x ∷ xs)) (At n (x ∷ xs))
      go true e ih = let s : n - n ≡ 0 = omega arith in (omega arith, omega arith, (λ d. rw s e), λ k d h. absurd (omega arith))
      go false e ih = shifted n x xs e (first_from fit (n + 1) xs) ih

  from_zero : (xs : List X) (i : ℕ) → At 0 xs i → FirstAt fit xs i
  from_zero xs i p =
      let b = p.1 in
      let s : i ≡ i - 0 = omega arith in
      record { within = omega arith; passes = λ d. rw s (p.2 d); before = λ k d h. p.3 k d (omega arith) }

  two_tests : {A : Type 0} (x : X) → fit x ≡ true → fit x ≡ false → A
  two_tests x p q = absurd (both_ways (fit x) q p)

  -- there is one first element
  one_first : (xs : List X) (d : X) (i j : ℕ) → FirstAt fit xs i → FirstAt fit xs j → i ≡ j
  one_first xs d i j p q = go (cases_order i j)
    where
      go : (i ≡ j) ⊎ ((i < j) ⊎ (j < i)) → i ≡ j
      go (inl e) = e
      go (inr (inl h)) = two_tests (get_or xs i d) (p.passes d) (q.before i d h)
      go (inr (inr h)) = two_tests (get_or xs j d) (q.passes d) (p.before j d h)

  element : (xs : List X) (i : ℕ) → i < length xs → X
  element [] i h = absurd (omega arith)
  element (x ∷ xs) i h = x

  by_cases : (xs : List X) (o : Option ℕ) → MatchOption o (Nowhere fit xs) (At 0 xs) → FirstFit fit xs o
  by_cases xs None p = record {
    found = λ i. record {
      only = λ e. absurd (let y : ◌≡◌ {A = ℕ} 0 1 = cc in omega arith);
      every = λ f. let d = element xs i f.within in two_tests (get_or xs i d) (f.passes d) (p i d f.within);
    };
    none = record { only = λ e. p; every = λ f. refl };
  }
  by_cases xs (Some j) p =
      let here = from_zero xs j p in
      let d = element xs j here.within in
      record {
        found = λ i. record {
          only = λ e. let s : j ≡ i = cc in rw s at here;
          every = λ f. ap Some (one_first xs d j i here f);
        };
        none = record {
          only = λ e. absurd (let y : ◌≡◌ {A = ℕ} 0 1 = cc in omega arith);
          every = λ f. two_tests (get_or xs j d) (here.passes d) (f j d here.within);
        };
      }

  pub first_fit : (xs : List X) → FirstFit fit xs (first fit xs)
  first_fit xs = by_cases xs (first fit xs) (finds_from 0 xs)
