-- What the elements of a list are once it is longer, changed or mapped.
use Rattle.std.proofs.Common.{◌≡◌, ℕ, zero, suc, ◌⊎◌, List, [], ◌∷◌, ◌++◌, length, map, Some, refl, sym, ap, ◌∙◌, subst, inl, inr, option_map}
use Rattle.std.specs.Prelude.{slice_get, slice_set}
use Rattle.std.proofs.Math.Seq.{map-set_same}
use Rattle.std.proofs.lemmas.List.{map-set}
use Rattle.std.proofs.lemmas.Option.{get_or_from_slice_get, none-some, same_Some, slice_get-map}

-- every element of a list
abbrev pub Each : {X : Type 0} → (X → Type 0) → List X → Type 0
Each {X} P xs = (k : ℕ) (x : X) → slice_get xs k ≡ Some x → P x

module _ {X : Type 0} (P : X → Type 0) where
  pub each_none : Each P []
  each_none k x e = absurd (none-some x e)

  pub each_cons : (y : X) (xs : List X) → P y → Each P xs → Each P (y ∷ xs)
  each_cons y xs p h zero x e = subst P (same_Some y x e) p
  each_cons y xs p h (suc k) x e = h k x e

  pub each_push : (xs : List X) (y : X) → Each P xs → P y → Each P (xs ++ y ∷ [])
  each_push [] y h p = each_cons y [] p each_none
  each_push (z ∷ xs) y h p = each_cons z (xs ++ y ∷ []) (h 0 z refl) (each_push xs y (λ k x e. h (suc k) x e) p)

  pub each_set : (xs : List X) (k : ℕ) (y : X) → Each P xs → P y → Each P (slice_set xs k y)
  each_set [] k y h p = each_none
  each_set (z ∷ xs) zero y h p = each_cons y xs p (λ k x e. h (suc k) x e)
  each_set (z ∷ xs) (suc k) y h p = each_cons z (slice_set xs k y) (h 0 z refl) (each_set xs k y (λ k x e. h (suc k) x e) p)

-- an element of a list with one more
pub push_cases : {X : Type 0} (xs : List X) (y : X) (k : ℕ) (x : X) → slice_get (xs ++ y ∷ []) k ≡ Some x → (slice_get xs k ≡ Some x) ⊎ ((k ≡ length xs) × (x ≡ y))
push_cases [] y zero x e = inr (refl, sym (same_Some y x e))
push_cases [] y (suc k) x e = absurd (none-some x e)
push_cases (z ∷ xs) y zero x e = inl e
push_cases (z ∷ xs) y (suc k) x e = go (push_cases xs y k x e)
  where
    go : (slice_get xs k ≡ Some x) ⊎ ((k ≡ length xs) × (x ≡ y)) → (slice_get xs k ≡ Some x) ⊎ ((suc k ≡ suc (length xs)) × (x ≡ y))
    go (inl h) = inl h
    go (inr h) = inr (ap suc h.0, h.1)

-- an element of a list of which one element is replaced
pub set_cases : {X : Type 0} (xs : List X) (k j : ℕ) (y x : X) → slice_get (slice_set xs k y) j ≡ Some x → ((j ≡ k) × (x ≡ y)) ⊎ (slice_get xs j ≡ Some x)
set_cases [] k j y x e = inr e
set_cases (z ∷ xs) zero zero y x e = inl (refl, sym (same_Some y x e))
set_cases (z ∷ xs) zero (suc j) y x e = inr e
set_cases (z ∷ xs) (suc k) zero y x e = inr e
set_cases (z ∷ xs) (suc k) (suc j) y x e = go (set_cases xs k j y x e)
  where
    go : ((j ≡ k) × (x ≡ y)) ⊎ (slice_get xs j ≡ Some x) → ((suc j ≡ suc k) × (x ≡ y)) ⊎ (slice_get xs j ≡ Some x)
    go (inl h) = inl (ap suc h.0, h.1)
    go (inr h) = inr h

-- the element that is replaced
pub set_here : {X : Type 0} (xs : List X) (k : ℕ) (y x : X) → slice_get xs k ≡ Some x → slice_get (slice_set xs k y) k ≡ Some y
set_here [] k y x e = absurd (none-some x e)
set_here (z ∷ xs) zero y x e = refl
set_here (z ∷ xs) (suc k) y x e = set_here xs k y x e

-- an element after one is replaced: that one, or as it was
pub set_kept : {X : Type 0} (xs : List X) (k j : ℕ) (y x : X) → slice_get xs j ≡ Some x → (slice_get (slice_set xs k y) j ≡ Some y) ⊎ (slice_get (slice_set xs k y) j ≡ Some x)
set_kept [] k j y x e = inr e
set_kept (z ∷ xs) zero zero y x e = inl refl
set_kept (z ∷ xs) zero (suc j) y x e = inr e
set_kept (z ∷ xs) (suc k) zero y x e = inr e
set_kept (z ∷ xs) (suc k) (suc j) y x e = set_kept xs k j y x e

-- an element of a mapped list
pub mapped : {X Y : Type 0} (f : X → Y) (xs : List X) (k : ℕ) (x : X) → slice_get xs k ≡ Some x → slice_get (map f xs) k ≡ Some (f x)
mapped f xs k x e = slice_get-map f xs k ∙ ap (option_map f) e

-- what an element of a mapped list is mapped from
pub mapped_from : {X Y : Type 0} (f : X → Y) (xs : List X) (k : ℕ) (y : Y) → slice_get (map f xs) k ≡ Some y → (x : X) × (slice_get xs k ≡ Some x) × (f x ≡ y)
mapped_from f [] k y e = absurd (none-some y e)
mapped_from f (x ∷ xs) zero y e = (x, refl, same_Some (f x) y e)
mapped_from f (x ∷ xs) (suc k) y e = mapped_from f xs k y e

-- a mapped list of which one element is replaced
pub mapped_set : {X Y : Type 0} (f : X → Y) (xs : List X) (k : ℕ) (x : X) (y : Y) → f x ≡ y → map f (slice_set xs k x) ≡ slice_set (map f xs) k y
mapped_set f xs k x y e = map-set f xs k x ∙ ap (slice_set (map f xs) k) e

-- a mapped list of which one element is replaced by one that is mapped to the same
pub mapped_same : {X Y : Type 0} (f : X → Y) (xs : List X) (k : ℕ) (y x : X) → slice_get xs k ≡ Some x → f y ≡ f x → map f (slice_set xs k y) ≡ map f xs
mapped_same f xs k y x h e = map-set_same f xs k y x (e ∙ ap f (sym (get_or_from_slice_get xs k x x h)))
