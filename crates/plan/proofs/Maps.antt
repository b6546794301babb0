-- What is found in a table, by what its records are seen as.
use Rattle.std.proofs.Common.{◌≡◌, ℕ, Bool, List, [], ◌∷◌, map, Some, refl, ap}
use Rattle.std.specs.Prelude.{◌&&◌, ◌==◌, ◌||◌, is_some, slice_get, slice_set}
use Rattle.std.specs.List.{list_any}
use Rattle.search.specs.First.{first}
use Rattle.search.proofs.Positions.{first_map}
use Rattle.plan.specs.declared.placed.Controller.{Controller}
use Rattle.plan.specs.declared.placed.Spot.{Spot}
use Rattle.plan.specs.declared.route.Route.{Route}
use Rattle.plan.specs.Controllers.{made, same_spot}
use Rattle.plan.specs.Drafts.{cascaded, controller_at, routed_to, with_parent}
use Rattle.plan.specs.Placings.{lined}
use Rattle.plan.specs.Seen.{routed}
use Rattle.plan.proofs.Elements.{mapped, mapped_set}

pub made_found : (place : ℕ) (xs : List Controller) → first (λ c. c.node.0 == place) xs ≡ controller_at place (map made xs)
made_found place xs = first_map made (λ c. c.node == place) xs

pub routed_found : (s : Spot) (xs : List Route) → is_some (first (λ r. r.spot.controller == s.controller && r.spot.input == s.input) xs) ≡ routed_to s (map routed xs)
routed_found s xs = ap is_some (first_map routed (λ r. same_spot r.spot s) xs)

pub any_map : {X Y : Type 0} (v : X → Y) (p : Y → Bool) (xs : List X) → list_any (λ x. p (v x)) xs ≡ list_any p (map v xs)
any_map v p [] = refl
any_map v p (x ∷ xs) = ap (λ b. p (v x) || b) (any_map v p xs)

pub made_cascaded : (k : ℕ) (spot : Spot) (xs : List Controller) (c d : Controller) → slice_get xs k ≡ Some c → made d ≡ with_parent spot (made c)
    → map made (slice_set xs k d) ≡ cascaded k spot (map made xs)
made_cascaded k spot xs c d h e = rw (mapped made xs k c h) (mapped_set made xs k d (with_parent spot (made c)) e)

pub made_lined : (k line : ℕ) (xs : List Controller) (c d : Controller) → slice_get xs k ≡ Some c → made d ≡ lined line (made c)
    → (slice_get (map made xs) k ≡ Some (made c)) × (map made (slice_set xs k d) ≡ slice_set (map made xs) k (lined line (made c)))
made_lined k line xs c d h e = (mapped made xs k c h, mapped_set made xs k d (lined line (made c)) e)
