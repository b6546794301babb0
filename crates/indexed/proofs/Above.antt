-- The parent of a node among the spots of all nodes.
use Rattle.std.proofs.Common.{◌≡◌, ℕ, ◌+◌, Bool, true, false, cond, eqb, List, [], ◌∷◌, map, Some, None, Ok, Option, sym, refl, ap, ◌∙◌, arith}
use Rattle.nodes.specs.Finding.{parent_from, parent_of}
use Rattle.tree.specs.declared.tree.Tree.{Tree}
use Rattle.tree.specs.Nodes.{Entry}
use Rattle.tree.specs.Reads.{nodes_of}
use Rattle.indexed.specs.declared.spots.Spot.{Spot}
use Rattle.indexed.specs.Spots.{above_entry, above_from, entry_at, entry_by, listed_at, place_at, read_at, seen}

-- the spot found is that of the node found
found_above : (t : Tree) (place depth : ℕ) (a : Option Spot) (ss : List Spot)
    → parent_from place depth (above_entry t a) (map (listed_at t) ss) ≡ Ok (above_entry t (above_from place depth a ss))
found_above t place depth a [] = refl
found_above t place depth a (s ∷ ss) =
    let two : s.depth + 1 + 1 ≡ s.depth + 2 = omega arith in
    go (eqb (place_at s) place) (eqb (s.depth + 1 + 1) depth) (λ o. found_above t place depth o ss)
    ∙ ap (λ n. Ok (above_entry t (cond (eqb (place_at s) place) a (above_from place depth (cond (eqb n depth) (Some s) a) ss)))) two
  where
    go : (here deep : Bool)
        → ((o : Option Spot) → parent_from place depth (above_entry t o) (map (listed_at t) ss) ≡ Ok (above_entry t (above_from place depth o ss)))
        → cond here (Ok (above_entry t a)) (parent_from place depth (cond deep (Some (entry_at t s)) (above_entry t a)) (map (listed_at t) ss))
        ≡ Ok (above_entry t (cond here a (above_from place depth (cond deep (Some s) a) ss)))
    go true deep later = refl
    go false true later = later (Some s)
    go false false later = later a

-- so it is where the spots are all nodes
pub parent_spotted : (t : Tree) (place depth : ℕ) (ss : List Spot) → map (listed_at t) ss ≡ nodes_of t
    → Ok (above_entry t (above_from place depth None ss)) ≡ parent_of place depth (nodes_of t)
parent_spotted t place depth ss h = sym (found_above t place depth None ss) ∙ ap (parent_from place depth None) h

same : (s : Spot) (e : Entry) → place_at s ≡ e.place → s.depth + 1 ≡ e.depth → entry_by s e ≡ e
same s e p d = λ i. record { place = p i; name = e.name; body = e.body; depth = d i; rest = e.rest }

-- the node that is read at a spot, if it stands there
pub entry_found : (t : Tree) (s : Spot) (e : Entry) → Ok (Some e) ≡ read_at t s → place_at s ≡ e.place → s.depth + 1 ≡ e.depth → e ≡ entry_at t s
entry_found t s e h p d = sym (same s e p d) ∙ ap (λ r. entry_by s (seen r)) h
