-- Child cells are compared cell by cell.
use Rattle.std.proofs.Common.{◌≡◌, ℕ, zero, suc, ◌+◌, ◌<◌, ◌≤◌, Bool, true, false, ◌&&◌, eqb, List, [], ◌∷◌, length, get_or, take, drop, Option, sym, refl, ap, ◌∙◌, arith}
use Rattle.std.specs.List.{list_all, range_with_len}
use Rattle.std.specs.Str.{bytes_eq}
use Rattle.std.proofs.lemmas.List.{drop_more, drop_all, get_or-take, length-take-le}
use Rattle.std.proofs.lemmas.Bool.{false_from_ne_true}
use Rattle.std.proofs.lemmas.Slice.Eq.{bytes_eq-Decides}
use Rattle.nexus.specs.Nexuses.{Ready, Wanted, masked, masked_from, matches, under}

module _ (mask : Option (List ℕ)) where
  pub length_masked : (i : ℕ) (xs : List ℕ) → length (masked_from mask i xs) ≡ length xs
  length_masked i [] = refl
  length_masked i (x ∷ xs) = ap suc (length_masked (i + 1) xs)

  pub cell_masked : (i k j : ℕ) (xs : List ℕ) → j ≡ i + k → k < length xs → get_or (masked_from mask i xs) k 0 ≡ under mask j (get_or xs k 0)
  cell_masked i k j [] e h = absurd (omega arith)
  cell_masked i zero j (x ∷ xs) e h = let same : j ≡ i = omega arith in rw same refl
  cell_masked i (suc k) j (x ∷ xs) e h = cell_masked (i + 1) k j xs (omega arith) (omega arith)

  module _ (child cells : List ℕ) (i : ℕ) (k : length child ≡ length cells) where
    pub same_step : i < length child
        → bytes_eq (drop i child) (masked_from mask i (drop i cells))
        ≡ (eqb (get_or child i 0) (under mask i (get_or cells i 0)) && bytes_eq (drop (i + 1) child) (masked_from mask (i + 1) (drop (i + 1) cells)))
    same_step h = let hc : i < length cells = omega arith in rw (drop_more child i 0 h, drop_more cells i 0 hc)

    pub same_end : length child ≤ i → bytes_eq (drop i child) (masked_from mask i (drop i cells)) ≡ true
    same_end h = let hc : length cells ≤ i = omega arith in rw (drop_all i child h, drop_all i cells hc)

  -- the child cell at i is the cell to match there
  abbrev pub same_at : List ℕ → List ℕ → ℕ → Bool
  same_at child cells i = eqb (get_or child i 0) (under mask i (get_or cells i 0))

  module _ (child cells : List ℕ) (k : length child ≡ length cells) where
    from_here : (n i : ℕ) → i + n ≡ length child → list_all (same_at child cells) (range_with_len i n) ≡ bytes_eq (drop i child) (masked_from mask i (drop i cells))
    from_here zero i h = sym (same_end child cells i k (omega arith))
    from_here (suc n) i h =
        ap (λ z. same_at child cells i && z) (from_here n (i + 1) (omega arith)) ∙ sym (same_step child cells i k (omega arith))

    pub all_same : list_all (same_at child cells) (range_with_len 0 (length child)) ≡ bytes_eq child (masked_from mask 0 cells)
    all_same = from_here (length child) 0 (omega arith)

-- lists of two lengths are not the same
pub not_masked : (mask : Option (List ℕ)) (child cells : List ℕ) → (length child ≡ length cells → ⊥) → bytes_eq child (masked_from mask 0 cells) ≡ false
not_masked mask child cells h =
    false_from_ne_true (bytes_eq child (masked_from mask 0 cells))
    (λ e. h (ap length ((bytes_eq-Decides child (masked_from mask 0 cells)).0 e) ∙ length_masked mask 0 cells))

-- a row does not match that differs from a cell that it has to have
pub not_wanted : (n : Ready) (wanted rest : List ℕ) (i : ℕ) → Wanted n wanted → n.width < length rest → i < length wanted → (get_or rest i 0 ≡ get_or wanted i 0 → ⊥)
    → matches n (take n.width rest) ≡ false
not_wanted n wanted rest i w wide h differs =
    let child = take n.width rest in
    false_from_ne_true (matches n child)
    (λ e.
    let same : child ≡ masked n = (bytes_eq-Decides child (masked n)).0 e in
    let long : n.width ≡ length n.cells = sym (length-take-le n.width rest (omega arith)) ∙ ap length same ∙ length_masked n.mask 0 n.cells in
    differs
    (sym (get_or-take n.width rest i 0 (omega arith)) ∙ ap (λ l. get_or l i 0) same ∙ cell_masked n.mask 0 i i n.cells (omega arith) (omega arith)
    ∙ sym (w.1 i h)))
