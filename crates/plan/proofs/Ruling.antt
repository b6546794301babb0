-- Every plan keeps the rules.
use Rattle.std.proofs.Common.{◌≡◌, ◌≢◌, ℕ, List, length, Some, None, Ok, Err, Option, Result, refl, sym, ap, subst, ◌∙◌, arith}
use Rattle.std.specs.Prelude.{slice_get}
use Rattle.std.proofs.lemmas.List.{length-map}
use Rattle.faults.specs.declared.place.At.{At as Holder}
use Rattle.fdt.specs.Tokens.{after}
use Rattle.tree.specs.Nodes.{Listed}
use Rattle.kinds.specs.Kinds.{Sort}
use Rattle.board_faults.specs.declared.BoardFault.{BoardFault}
use Rattle.plan.specs.declared.placed.Parent.TheVariants.{At}
use Rattle.plan.specs.declared.placed.Spot.{Spot}
use Rattle.plan.specs.Controllers.{Made, controllers_of, same_spot}
use Rattle.plan.specs.Drafts.{Drawn, Routed, drawn_from}
use Rattle.plan.specs.Placings.{Placed, placed}
use Rattle.plan.specs.Plans.{Planned, blank, line_of, plan_of, planned_by}
use Rattle.plan.specs.Rules.{Lies, PlanRules}
use Rattle.plan.proofs.Elements.{mapped, mapped_from}
use Rattle.plan.proofs.Facts.{Apart, Few, Fits, Good, Seated, kinds}
use Rattle.plan.proofs.Keeping.{both_ends, found_few, found_fresh, good_blank, good_drawn}
use Rattle.plan.proofs.PlanLines.{Small, apart, lies, stands, widths_few}
use Rattle.plan.proofs.Seats.{parents, seated}

-- a controller as it was before placing: its parent is the same
parent_from : (xs ys : List Made) (k : ℕ) (c : Made) → parents xs ≡ parents ys → slice_get xs k ≡ Some c → (d : Made) × (slice_get ys k ≡ Some d) × (d.parent ≡ c.parent)
parent_from xs ys k c e h = mapped_from (λ (x : Made). x.parent) ys k c.parent (ap (λ ps. slice_get ps k) (sym e) ∙ mapped (λ (x : Made). x.parent) xs k c h)

module _ (ks : List Sort) (d : Drawn) (q : Placed) (few : Few ks) (g : Good ks d) (none : d.second ≡ None) (s : Seated d.controllers q) where
  abbrev plan : Planned
  plan = record { controllers = q.controllers; order = q.order; routes = d.routes }

  same_kinds : ks ≡ kinds q.controllers
  same_kinds = sym g.kinds ∙ sym s.kinds

  small : Small plan
  small =
      let n = few.count in
      let l = length-map d.controllers (λ c. c.kind) in
      let e = ap length g.kinds in
      let o = s.few in
      record { seats = s.seats; few = subst Few same_kinds few; order = omega arith }

  spot_lies : (x : Spot) → Fits ks x → Lies plan x
  spot_lies x f = lies plan small x (subst (λ (l : List Sort). Fits l x) same_kinds f)

  route_lies : (i : ℕ) (r : Routed) → slice_get d.routes i ≡ Some r → Lies plan r.spot
  route_lies i r e = spot_lies r.spot (g.routes i r e)

  -- a controller as it was before placing
  before : (k : ℕ) (c : Made) → slice_get q.controllers k ≡ Some c → (b : Made) × (slice_get d.controllers k ≡ Some b) × (b.parent ≡ c.parent)
  before k c e = parent_from q.controllers d.controllers k c s.parents e

  cascade_lies : (k : ℕ) (c : Made) (x : Spot) → slice_get q.controllers k ≡ Some c → c.parent ≡ At x → Lies plan x
  cascade_lies k c x e h = let b = before k c e in spot_lies x (g.parents k b.0 x b.1 (b.2 ∙ h))

  ends_apart : Apart d.routes d.controllers
  ends_apart = g.apart none

  free : (i k : ℕ) (r : Routed) (c : Made) (x : Spot) → slice_get d.routes i ≡ Some r → slice_get q.controllers k ≡ Some c → c.parent ≡ At x
      → line_of q.controllers r.spot ≢ line_of q.controllers x
  free i k r c x e f h l =
      let b = before k c f in
      both_ends (same_spot r.spot x) (apart plan r.spot x (route_lies i r e) (cascade_lies k c x f h) l) (ends_apart.free i k r b.0 x e b.1 (b.2 ∙ h))

  single : (j k : ℕ) (c b : Made) (x y : Spot) → slice_get q.controllers j ≡ Some c → slice_get q.controllers k ≡ Some b → c.parent ≡ At x → b.parent ≡ At y → j ≢ k
      → line_of q.controllers x ≢ line_of q.controllers y
  single j k c b x y e f h i n l =
      let u = before j c e in
      let v = before k b f in
      n (ends_apart.single j k u.0 v.0 x y u.1 v.1 (u.2 ∙ h) (v.2 ∙ i) (apart plan x y (cascade_lies j c x e h) (cascade_lies k b y f i) l))

  rules_of : PlanRules plan
  rules_of = record {
    lines = route_lies;
    distinct = λ i j r t e f n h. n (ends_apart.routes i j r t e f (apart plan r.spot t.spot (route_lies i r e) (route_lies j t f) h));
    controllers = λ k c e. stands plan k c (s.seats k c e) (λ x h. cascade_lies k c x e h);
    placed = λ j k e. let r = s.ordered.ranked j k e in (r.controller, r.there);
    once = s.ordered.once;
    wide = let w = widths_few q.controllers small.few q.order in let n = small.order in omega arith;
    free = free;
    single = single;
  }

by_second : (ks : List Sort) (d : Drawn) (q : Placed) (p : Planned) (o : Option Holder) → Few ks → Good ks d → d.second ≡ o → Seated d.controllers q → planned_by d o q ≡ Ok p → PlanRules p
by_second ks d q p None few g e s h = subst PlanRules (cc) (rules_of ks d q few g e s)
by_second ks d q p (Some f) few g e s h = absurd cc

by_placed : (ks : List Sort) (d : Drawn) (p : Planned) (r : Result Placed BoardFault) → Few ks → Good ks d → placed d.controllers ≡ r → after r (planned_by d d.second) ≡ Ok p → PlanRules p
by_placed ks d p (Ok q) few g e h = by_second ks d q p d.second few g refl (seated d.controllers q g.unplaced e) h
by_placed ks d p (Err f) few g e h = absurd cc

by_drawn : (es : List Listed) (ks : List Sort) (b : Drawn) (p : Planned) (r : Result Drawn BoardFault) → Few ks → Good ks b → drawn_from es b es ≡ r
    → after r (λ d. after (placed d.controllers) (planned_by d d.second)) ≡ Ok p → PlanRules p
by_drawn es ks b p (Ok d) few g e h = by_placed ks d p (placed d.controllers) few (good_drawn es ks b d es g e) refl h
by_drawn es ks b p (Err f) few g e h = absurd cc

by_found : (es : List Listed) (p : Planned) (r : Result (List Made) BoardFault) → controllers_of es ≡ r
    → after r (λ cs. after (drawn_from es (blank cs) es) (λ d. after (placed d.controllers) (planned_by d d.second))) ≡ Ok p → PlanRules p
by_found es p (Ok cs) e h =
    let f = found_fresh es cs e in
    by_drawn es (kinds cs) (blank cs) p (drawn_from es (blank cs) es) (found_few cs f) (good_blank cs f) refl h
by_found es p (Err f) e h = absurd cc

pub plan_rules : (es : List Listed) (p : Planned) → plan_of es ≡ Ok p → PlanRules p
plan_rules es p h = by_found es p (controllers_of es) refl h
