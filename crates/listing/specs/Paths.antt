-- The path of a node, as a list of names and as text.
use Rattle.std.specs.Prelude.{ℕ, ◌-◌, cond, List, [], ◌∷◌, ◌++◌, map, take, nat_lt}
use Rattle.std.specs.List.{flat_map}
use Rattle.listing.specs.declared.path.Path.{Path}

-- the names of a path
abbrev pub names_of : Path → List (List ℕ)
names_of p = map (λ n. n.now) p.names.items

-- the names above a node of this depth; the root, at 1, and its subnodes have none
abbrev pub above : ℕ → List (List ℕ) → List (List ℕ)
above depth names = take (depth - 2) names

-- the names down to a node of this depth and name, of which those above it were there
abbrev pub entered : ℕ → List ℕ → List (List ℕ) → List (List ℕ)
entered depth name names = cond (nat_lt 1 depth) (above depth names ++ name ∷ []) (above depth names)

-- the text, or `/` where it is empty
abbrev pub or_root : List ℕ → List ℕ
or_root [] = 47 ∷ []
or_root (b ∷ bs) = b ∷ bs

-- each name after a `/`; the root's path is `/` alone
abbrev pub path_text : List (List ℕ) → List ℕ
path_text names = or_root (flat_map (λ n. 47 ∷ n) names)
