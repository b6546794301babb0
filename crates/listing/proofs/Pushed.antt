-- A name that is put after those above it.
use Rattle.std.proofs.Common.{◌≡◌, ℕ, List, [], ◌∷◌, ◌++◌, map, take, arith}
use Rattle.std.proofs.lemmas.Grind.{common_steps}
use Rattle.std.proofs.lemmas.List.{map-append, take-map}

pub pushed : {X Y : Type 0} (f : X → Y) (n : ℕ) (xs : List X) (x : X) → map f (take n xs ++ x ∷ []) ≡ take n (map f xs) ++ f x ∷ []
pushed f n xs x = grind (arith, common_steps, map-append, take-map)
