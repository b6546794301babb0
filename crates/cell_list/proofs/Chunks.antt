-- The cells of some bytes are their chunks of four, and a part of a list of cells is the chunks of that part.
use Rattle.std.proofs.Common.{◌≡◌, ℕ, suc, ◌+◌, ◌-◌, ◌*◌, ◌/◌, min, List, [], ◌∷◌, length, take, drop, map, sym, refl, ap, ◌∙◌, arith}
use Rattle.std.specs.Int.{w32, from_be_bytes}
use Rattle.std.specs.Simd.{first_chunks}
use Rattle.std.proofs.lemmas.List.{drop_min, take_min, drop-map, take-map, take_rest}
use Rattle.cell_list.specs.CellLists.{cells_of}

pub chunks_are : (b : List ℕ) → cells_of b ≡ map (from_be_bytes w32) (first_chunks 4 (length b / 4) b)
chunks_are [] = refl
chunks_are (a ∷ []) = refl
chunks_are (a ∷ (b ∷ [])) = refl
chunks_are (a ∷ (b ∷ (c ∷ []))) = refl
chunks_are (a ∷ (b ∷ (c ∷ (d ∷ rest)))) =
    let one : length (a ∷ (b ∷ (c ∷ (d ∷ rest)))) / 4 ≡ suc (length rest / 4) = omega arith in
    rw one (ap (λ z. (a * 16777216 + b * 65536 + c * 256 + d) ∷ z) (chunks_are rest))

module _ {X Y : Type 0} (f : X → Y) where
  pub mapped_rest : (n : ℕ) (xs : List X) → drop n (map f xs) ≡ map f (take (length xs - min n (length xs)) (drop (min n (length xs)) xs))
  mapped_rest n xs = drop-map f n xs ∙ ap (map f) (sym (take_rest xs (min n (length xs)) ∙ drop_min n xs))

  pub mapped_front : (n : ℕ) (xs : List X) → take n (map f xs) ≡ map f (take (min n (length xs)) xs)
  mapped_front n xs = take-map f n xs ∙ ap (map f) (sym (take_min n xs))
