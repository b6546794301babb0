-- The text of a path, by whether a name gave any of it.
use Rattle.std.proofs.Common.{◌≡◌, ℕ, ◌≢◌, List, [], ◌∷◌, ◌++◌, map, length, refl, ap, sym, ◌∙◌, arith}
use Rattle.std.proofs.lemmas.List.Folds.{flat_map-map}
use Rattle.std.specs.List.{flat_map}
use Rattle.listing.specs.Paths.{or_root, path_text}

or_empty : (t : List ℕ) → length t ≡ 0 → or_root t ≡ t ++ 47 ∷ []
or_empty [] e = refl
or_empty (b ∷ bs) e = absurd (omega arith)

or_full : (t : List ℕ) → length t ≢ 0 → or_root t ≡ t
or_full [] h = absurd (h refl)
or_full (b ∷ bs) h = refl

module _ {X : Type 0} (f : X → List ℕ) (xs : List X) (t : List ℕ) (is : t ≡ flat_map (λ x. 47 ∷ f x) xs) where
  text_is : or_root t ≡ path_text (map f xs)
  text_is = ap or_root (is ∙ sym (flat_map-map (λ n. 47 ∷ n) f xs))

  pub empty_text : length t ≡ 0 → t ++ 47 ∷ [] ≡ path_text (map f xs)
  empty_text e = sym (or_empty t e) ∙ text_is

  pub full_text : length t ≢ 0 → t ≡ path_text (map f xs)
  full_text h = sym (or_full t h) ∙ text_is

-- the text of a path with names, behind another
pub named_text : {X : Type 0} (f : X → List ℕ) (xs : List X) (s t : List ℕ) → length xs ≢ 0 → t ≡ s ++ flat_map (λ x. 47 ∷ f x) xs → t ≡ s ++ path_text (map f xs)
named_text f [] s t h e = absurd (h refl)
named_text f (x ∷ xs) s t h e = e ∙ ap (λ y. s ++ y) (sym (flat_map-map (λ n. 47 ∷ n) f (x ∷ xs)))
