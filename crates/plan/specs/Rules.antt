-- What holds of every plan, in the words of the subject.
use Rattle.std.specs.Prelude.{◌≡◌, ℕ, ◌+◌, ◌<◌, ◌≤◌, List, [], ◌∷◌, ◌++◌, Some, None, Option, slice_get, ◌≢◌}
use Rattle.std.specs.List.{Contains}
use Rattle.kinds.specs.Kinds.{width_of}
use Rattle.plan.specs.declared.placed.Parent.TheVariants.{Root, At}
use Rattle.plan.specs.declared.placed.Spot.{Spot}
use Rattle.plan.specs.Controllers.{Made}
use Rattle.plan.specs.Drafts.{Routed}
use Rattle.plan.specs.Plans.{Planned, line_of}

abbrev pub width_by : Option Made → ℕ
width_by None = 0
width_by (Some c) = width_of c.kind

-- how many lines these controllers have together
abbrev pub widths : List Made → List ℕ → ℕ
widths cs [] = 0
widths cs (k ∷ ks) = width_by (slice_get cs k) + widths cs ks

-- The input at a spot is one of its controller's, and its line is the input plus the widths of the controllers placed before that, which is
-- below 256.
pub record Lies (p : Planned) (s : Spot) : Type 0 where
  pub controller : Made
  pub before : List ℕ
  pub rest : List ℕ
  pub there : slice_get p.controllers s.controller ≡ Some controller
  pub order : p.order ≡ before ++ (s.controller ∷ rest)
  pub input : s.input < width_of controller.kind
  pub line : line_of p.controllers s ≡ Some (widths p.controllers before + s.input)
  pub low : widths p.controllers before + s.input < 256

-- The controller k is the root, placed first; or it is cascaded at a line of a controller that is placed before it.
pub data Stands (p : Planned) (k : ℕ) (c : Made) : Type 0 where
  first : (rest : List ℕ) → c.parent ≡ Root → p.order ≡ k ∷ rest → Stands p k c
  cascaded : (s : Spot) (before rest : List ℕ) → c.parent ≡ At s → p.order ≡ before ++ (k ∷ rest) → Contains before s.controller → Lies p s → Stands p k c

-- Each route's line is its input plus the widths placed before its controller, distinct routes have distinct lines, and every controller but
-- the root is cascaded at a line of one placed before it. Each number in the order is a controller's, each controller is placed once, and
-- they have 256 lines together at most. No device ends where a controller is cascaded, and no two controllers are cascaded at one line.
pub record PlanRules (p : Planned) : Type 0 where
  pub lines : (i : ℕ) (r : Routed) → slice_get p.routes i ≡ Some r → Lies p r.spot
  pub distinct : (i j : ℕ) (r s : Routed) → slice_get p.routes i ≡ Some r → slice_get p.routes j ≡ Some s → i ≢ j
      → line_of p.controllers r.spot ≢ line_of p.controllers s.spot
  pub controllers : (k : ℕ) (c : Made) → slice_get p.controllers k ≡ Some c → Stands p k c
  pub placed : (j k : ℕ) → slice_get p.order j ≡ Some k → (c : Made) × (slice_get p.controllers k ≡ Some c)
  pub once : (i j k : ℕ) → slice_get p.order i ≡ Some k → slice_get p.order j ≡ Some k → i ≡ j
  pub wide : widths p.controllers p.order ≤ 256
  pub free : (i k : ℕ) (r : Routed) (c : Made) (s : Spot) → slice_get p.routes i ≡ Some r → slice_get p.controllers k ≡ Some c → c.parent ≡ At s
      → line_of p.controllers r.spot ≢ line_of p.controllers s
  pub single : (j k : ℕ) (c d : Made) (s t : Spot) → slice_get p.controllers j ≡ Some c → slice_get p.controllers k ≡ Some d → c.parent ≡ At s → d.parent ≡ At t
      → j ≢ k → line_of p.controllers s ≢ line_of p.controllers t
