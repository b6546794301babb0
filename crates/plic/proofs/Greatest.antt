-- The best of some numbers in turn, where each call of a function gives the key of a number.
use Rattle.std.proofs.Common.{◌≡◌, ℕ, Bool, true, false, cond, List, [], ◌∷◌, Some, None, Option, refl, sym, ap, ◌∙◌, subst, nat_lt, arith}
use Rattle.std.proofs.lemmas.Bool.Decides.{nat_tests}
use Rattle.std.specs.Fn.{CalledAt}
use Rattle.std.specs.Iterator.{Drains, KeyTurn, PicksMaxByKey}
use Rattle.std.specs.List.{filter, fold, reduce, FoldsTo}
use Rattle.std.specs.Option.{MatchOption}
use Rattle.std.specs.Ordering.{nat_cmp, max_by_ordering}
use Rattle.std.specs.declared.cmp.Ordering.{Ordering}
use Rattle.std.specs.declared.cmp.Ordering.TheVariants.{Less, Equal, Greater}
use denote.Param.Members.{Mut}
use denote.Ref.{Bor}
use Rattle.plic.specs.Offers.{preferred}

module _ (level : ℕ → ℕ) where
  -- the one of greater key, and the second where they are equal
  abbrev pub pick : ℕ → ℕ → ℕ
  pick j i = max_by_ordering (nat_cmp (level j) (level i)) j i

  key_of : (o : Ordering) (x z : ℕ) → max_by_ordering o (level x) (level z) ≡ level (max_by_ordering o x z)
  key_of Less x z = refl
  key_of Equal x z = refl
  key_of Greater x z = refl

  picked : (j i : ℕ) → cond (nat_lt (level i) (level j)) (Some j) (Some i) ≡ Some (pick j i)
  picked j i = grind (arith, nat_tests)

  module _ {F : Type 0} {g : Mut F (Bor ℕ × Unit {0}) ℕ} {f : F} (calls : (x k : ℕ) (q : F) → CalledAt g f x k q → (q ≡ f) × (k ≡ level x)) where
    turns : (xs : List ℕ) (h : F) (k x : ℕ) (q : F × ℕ) (y : ℕ) → h ≡ f → k ≡ level x
        → FoldsTo {P = (F × ℕ) × ℕ} (KeyTurn max_by_ordering max_by_ordering g nat_cmp) ((h, k), x) xs (q, y) → FoldsTo (λ p z c. c ≡ pick p z) x xs y
    turns [] h k x q y eh ek w = ap (λ (p : (F × ℕ) × ℕ). p.1) w
    turns (z ∷ zs) h k x q y eh ek w =
        let j = w.0 in
        let t = w.1 in
        let c = calls z t.0 j.0.0 (subst (λ (s : F). CalledAt g s z t.0 j.0.0) eh t.2) in (
          j.1,
          t.5 ∙ ap (λ (o : Ordering). max_by_ordering o x z) (sym t.3) ∙ ap (λ (n : ℕ). max_by_ordering (nat_cmp n t.0) x z) ek ∙ ap (λ (n : ℕ). max_by_ordering (nat_cmp (level x) n) x z) c.1,
          turns zs j.0.0 j.0.1 j.1 q y c.0 (t.4 ∙ ap (λ (n : ℕ). max_by_ordering t.1 n t.0) ek ∙ ap (λ (n : ℕ). max_by_ordering t.1 (level x) n) c.1 ∙ key_of t.1 x z ∙ ap level (sym t.5)) w.2,
        )

    -- the clause of `max_by_key`, by keys and not by calls
    pub picks : {S : Type 0} (steps : S → Option ℕ → S → Type 0) (s : S) (r : Option ℕ) → PicksMaxByKey steps g nat_cmp s f r
        → MatchOption r (Drains steps s []) (λ y. (x : ℕ) × (xs : List ℕ) × Drains steps s (x ∷ xs) × FoldsTo (λ p z c. c ≡ pick p z) x xs y)
    picks steps s None p = p
    picks steps s (Some y) p = let c = calls p.0 p.2 p.3 p.6 in (p.0, p.1, p.5, turns p.1 p.3 p.2 p.0 p.4 y c.0 c.1 p.7)

  module _ (test : ℕ → Bool) where
    -- the best of the numbers that pass, as a search through all of them
    passing : (j : ℕ) (xs : List ℕ) → fold (λ above i. preferred level i (test i) above) (Some j) xs ≡ Some (fold pick j (filter test xs))
    passing j [] = refl
    passing j (x ∷ xs) = go (test x) (passing j xs) (passing (pick j x) xs)
      where
        go : (b : Bool) → fold (λ above i. preferred level i (test i) above) (Some j) xs ≡ Some (fold pick j (filter test xs))
            → fold (λ above i. preferred level i (test i) above) (Some (pick j x)) xs ≡ Some (fold pick (pick j x) (filter test xs))
            → fold (λ above i. preferred level i (test i) above) (preferred level x b (Some j)) xs ≡ Some (fold pick j (cond b (x ∷ filter test xs) (filter test xs)))
        go false e f = e
        go true e f = ap (λ (a : Option ℕ). fold (λ above i. preferred level i (test i) above) a xs) (picked j x) ∙ f

    pub best_of : (xs : List ℕ) → reduce pick (filter test xs) ≡ fold (λ above i. preferred level i (test i) above) None xs
    best_of [] = refl
    best_of (x ∷ xs) = go (test x) (best_of xs)
      where
        go : (b : Bool) → reduce pick (filter test xs) ≡ fold (λ above i. preferred level i (test i) above) None xs
            → reduce pick (cond b (x ∷ filter test xs) (filter test xs)) ≡ fold (λ above i. preferred level i (test i) above) (preferred level x b None) xs
        go false e = e
        go true e = sym (passing x xs)
