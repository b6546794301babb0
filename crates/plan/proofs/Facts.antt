-- What is kept while specifiers are read and while controllers are placed.
use Rattle.std.proofs.Common.{◌≡◌, ℕ, ◌<◌, ◌≤◌, true, false, List, [], ◌∷◌, ◌++◌, length, map, Some, None}
use Rattle.std.specs.Prelude.{slice_get}
use Rattle.std.specs.List.{Contains}
use Rattle.kinds.specs.Kinds.{Sort, width_of}
use Rattle.plan.specs.declared.placed.Parent.{Parent}
use Rattle.plan.specs.declared.placed.Parent.TheVariants.{Root, At}
use Rattle.plan.specs.declared.placed.Spot.{Spot}
use Rattle.plan.specs.Controllers.{Made, same_spot}
use Rattle.plan.specs.Drafts.{Drawn, Routed}
use Rattle.plan.specs.Placings.{Placed}
use Rattle.plan.specs.Rules.{widths}

-- the kinds of the controllers
abbrev pub kinds : List Made → List Sort
kinds cs = map (λ c. c.kind) cs

-- the input at a spot is one of its controller's
pub record Fits (ks : List Sort) (s : Spot) : Type 0 where
  pub kind : Sort
  pub there : slice_get ks s.controller ≡ Some kind
  pub input : s.input < width_of kind

-- at most four controllers, of at most 64 lines each
pub record Few (ks : List Sort) : Type 0 where
  pub count : length ks ≤ 4
  pub widths : (k : ℕ) (s : Sort) → slice_get ks k ≡ Some s → width_of s ≤ 64

-- no controller is placed
abbrev pub Unplaced : List Made → Type 0
Unplaced cs = (k : ℕ) (c : Made) → slice_get cs k ≡ Some c → c.first_line ≡ None

-- of these routes and these controllers' specifiers, no two end at one input
pub record Apart (rs : List Routed) (cs : List Made) : Type 0 where
  pub routes : (i j : ℕ) (r s : Routed) → slice_get rs i ≡ Some r → slice_get rs j ≡ Some s → same_spot r.spot s.spot ≡ true → i ≡ j
  pub free : (i k : ℕ) (r : Routed) (c : Made) (s : Spot) → slice_get rs i ≡ Some r → slice_get cs k ≡ Some c → c.parent ≡ At s → same_spot r.spot s ≡ false
  pub single : (j k : ℕ) (c d : Made) (s t : Spot) → slice_get cs j ≡ Some c → slice_get cs k ≡ Some d → c.parent ≡ At s → d.parent ≡ At t
      → same_spot s t ≡ true → j ≡ k

-- what holds of what is read so far, of controllers of these kinds
pub record Good (ks : List Sort) (d : Drawn) : Type 0 where
  pub kinds : kinds d.controllers ≡ ks
  pub unplaced : Unplaced d.controllers
  pub routes : (i : ℕ) (r : Routed) → slice_get d.routes i ≡ Some r → Fits ks r.spot
  pub parents : (k : ℕ) (c : Made) (s : Spot) → slice_get d.controllers k ≡ Some c → c.parent ≡ At s → Fits ks s
  pub apart : d.second ≡ None → Apart d.routes d.controllers

-- a controller's parent, at its place in the order
pub data Follows (before : List ℕ) : Parent → Type 0 where
  root : before ≡ [] → Follows before Root
  under : (s : Spot) → Contains before s.controller → Follows before (At s)

-- a placed controller's place in the order, with its first line
pub record Seat (cs : List Made) (placed : List ℕ) (k : ℕ) (c : Made) : Type 0 where
  pub before : List ℕ
  pub rest : List ℕ
  pub order : placed ≡ before ++ (k ∷ rest)
  pub line : c.first_line ≡ Some (widths cs before)
  pub follows : Follows before c.parent

-- the controller k is placed
pub record Ranked (cs : List Made) (k : ℕ) : Type 0 where
  pub controller : Made
  pub line : ℕ
  pub there : slice_get cs k ≡ Some controller
  pub placed : controller.first_line ≡ Some line

-- each number of an order is a placed controller's, and stands there once
pub record Ordered (cs : List Made) (ks : List ℕ) : Type 0 where
  pub ranked : (j k : ℕ) → slice_get ks j ≡ Some k → Ranked cs k
  pub once : (i j k : ℕ) → slice_get ks i ≡ Some k → slice_get ks j ≡ Some k → i ≡ j

-- all controllers are placed, each once, and no line of theirs has moved
pub record Seated (from : List Made) (p : Placed) : Type 0 where
  pub kinds : kinds p.controllers ≡ kinds from
  pub parents : map (λ c. c.parent) p.controllers ≡ map (λ c. c.parent) from
  pub seats : (k : ℕ) (c : Made) → slice_get p.controllers k ≡ Some c → Seat p.controllers p.order k c
  pub ordered : Ordered p.controllers p.order
  pub few : length p.order ≤ length from
