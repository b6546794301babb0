-- The text of a route.
use Rattle.std.specs.Prelude.{ℕ, List, [], ◌∷◌, ◌++◌, codes, decimal}
use Rattle.std.specs.List.{flat_map}
use Rattle.walk.specs.declared.hops.Hop.{Hop}

-- ` N:R`
abbrev pub hop_text : Hop → List ℕ
hop_text h = codes " " ++ (decimal h.nexus.0 ++ (codes ":" ++ decimal h.row))

abbrev pub cell_text : ℕ → List ℕ
cell_text n = codes " " ++ decimal n

-- ` via` where there is a hop
abbrev pub via : List Hop → List ℕ
via [] = []
via (h ∷ hs) = codes " via"

abbrev pub via_text : List Hop → List ℕ
via_text hs = via hs ++ flat_map hop_text hs

abbrev pub route_text : List Hop → ℕ → List ℕ → List ℕ
route_text hs controller cells = via_text hs ++ (codes " ends " ++ (decimal controller ++ (codes " cells" ++ flat_map cell_text cells)))
