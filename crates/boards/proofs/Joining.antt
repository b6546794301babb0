-- A plan's cascades can all be made of controllers that are as it says, and the line of each route is open then.
use Rattle.std.proofs.Common.{◌≡◌, ℕ, zero, suc, ◌+◌, ◌^◌, ◌<◌, ◌≤◌, Bool, true, cond, List, [], ◌∷◌, ◌++◌, length, map, take, Some, None, Ok, Err, Option, Result, refl, sym, ap, ◌∙◌, ⊎_elim, arith}
use Rattle.std.specs.Prelude.{◌&&◌, ◌≢◌, is_some, nat_lt, slice_get}
use Rattle.std.specs.List.{Contains, list_all}
use Rattle.std.proofs.lemmas.Bool.{and_parts, cases_eq, cases_lt, cond-true, eqb-true, lt-ltb}
use Rattle.std.proofs.lemmas.List.{get_or-append-add, get_or_append_left, length-append, length-map, map-append}
use Rattle.std.proofs.lemmas.Option.{slice_get-get_or, slice_get_within}
use Rattle.line.specs.declared.row.Row.{Row}
use Rattle.line.specs.declared.row.Step.TheVariants.{Reset}
use Rattle.kinds.specs.Kinds.{width_of}
use Rattle.board_faults.specs.declared.BoardFault.{BoardFault}
use Rattle.board_faults.specs.declared.BoardFault.TheVariants as fault
use Rattle.plan.specs.declared.placed.Parent.{Parent}
use Rattle.plan.specs.declared.placed.Parent.TheVariants.{Root, At, Several}
use Rattle.plan.specs.declared.placed.Spot.{Spot}
use Rattle.plan.specs.Controllers.{Made}
use Rattle.plan.specs.Drafts.{Routed}
use Rattle.plan.specs.Plans.{Planned, held, line_of, made_at, placed_at}
use Rattle.plan.specs.Rules.{Lies, PlanRules, Stands, cascaded, first, width_by, widths}
use Rattle.controller.specs.Meaning.{all_reset, at, moved}
use Rattle.cascade.specs.Questions.{made_lines}
use Rattle.boards.specs.declared.parts.Wiring.{Wiring}
use Rattle.boards.specs.Assembly.{Lists, asked, cascade_line, cascade_line_of, cascaded_lines, ends_open, in_order, is_open, is_width, or_zero, parent_line, parent_open, plan_line, reset_lists, seat_of, seats_of, under, unwired, widths_fit, wiring_of}
use Rattle.boards.specs.Devices.{Opened}
use Rattle.boards.specs.Seats.{line_at}
use Rattle.boards.proofs.PartLines.{Kept, kept_alone, kept_first, kept_pair, made_at_line, open_within, pair_length, question_none, reset_at, reset_length, reset_under, under_reset}
use Rattle.boards.proofs.PlanFronts.{front, front_all, front_holds, front_more, front_place, seam}

-- a controller that was handed over is as wide as the plan's
width_from : (w : ℕ) (o : Option Made) (c : Made) → o ≡ Some c → is_width w o ≡ true → width_by o ≡ w
width_from w None c e f = absurd cc
width_from w (Some d) c e f = eqb-true (width_of d.kind) w f

-- what a test of all says of each
each : {X : Type 0} (f : X → Bool) (xs : List X) (i : ℕ) (x : X) → list_all f xs ≡ true → slice_get xs i ≡ Some x → f x ≡ true
each f [] i x e h = absurd cc
each f (y ∷ ys) zero x e h = let q : y ≡ x = cc in ap f (sym q) ∙ (and_parts (f y) (list_all f ys) e).0
each f (y ∷ ys) (suc i) x e h = each f ys i x (and_parts (f y) (list_all f ys) e).1 h

held_small : (o : Option ℕ) (n : ℕ) → o ≡ Some n → n < 256 → held o ≡ o
held_small o n e h = ap held e ∙ cond-true (nat_lt n (2 ^ 64)) (Some n) None (lt-ltb n (2 ^ 64) (omega arith)) ∙ sym e

-- the device at an index is that of the route there
seat_in : (p : Planned) (rs : List Routed) (i : ℕ) → i < length rs → (r : Routed) × (slice_get rs i ≡ Some r) × (line_at (map (seat_of p) rs) i ≡ (seat_of p r).line)
seat_in p [] i lt = absurd (let f : ⊥ = omega arith in f)
seat_in p (r ∷ rs) zero lt = (r, refl, refl)
seat_in p (r ∷ rs) (suc i) lt = seat_in p rs i (omega arith)

-- a line of what follows a list
later : (xs ys : List (Option Row)) (i j : ℕ) → j ≡ length xs + i → at (xs ++ ys) j ≡ at ys i
later xs ys i j e = ap (at (xs ++ ys)) e ∙ get_or-append-add xs ys i None

-- the controller at this place of the order is cascaded at line i, which is a line of one placed before it
record CascadedAt (p : Planned) (place i : ℕ) : Type 0 where
  number : ℕ
  made : Made
  spot : Spot
  slot : slice_get p.order place ≡ Some number
  there : slice_get p.controllers number ≡ Some made
  parent : made.parent ≡ At spot
  lies : Lies p spot
  behind : length lies.before < place
  line : line_of p.controllers spot ≡ Some i

-- no controller at the first n places is cascaded at line i
abbrev Away : Planned → ℕ → ℕ → Type 0
Away p n i = (m : ℕ) → m < n → cascade_line p m ≢ Some i

away_less : (p : Planned) (n i : ℕ) → Away p (suc n) i → Away p n i
away_less p n i a m lt = a m (omega arith)

-- the lines of what is made of the controllers at the first n places: where there is one more, as many as these have; and each of `whole` that is
-- open, and at which no controller is cascaded, is open
record Stage (p : Planned) (whole : List (Option Row)) (n : ℕ) (lines : List (Option Row)) : Type 0 where
  sized : n < length p.order → length lines ≡ front p p.order n
  kept : Kept (Away p n) whole lines (front p p.order n)

-- the controller at place n is added: its cascade can be made, and the lines are those of the first n + 1 places
record Joined (p : Planned) (whole : List (Option Row)) (n : ℕ) (lines part : List (Option Row)) (o : Option ℕ) : Type 0 where
  made : made_lines lines part o ≡ under lines part o
  next : Stage p whole (suc n) (under lines part o)

module _ (p : Planned) (rules : PlanRules p) where
  low : (s : Spot) (l : Lies p s) → widths p.controllers l.before + s.input < 256
  low s l = l.low

  once : (i j k : ℕ) → slice_get p.order i ≡ Some k → slice_get p.order j ≡ Some k → i ≡ j
  once = rules.once

  free : (i k : ℕ) (r : Routed) (c : Made) (s : Spot) → slice_get p.routes i ≡ Some r → slice_get p.controllers k ≡ Some c → c.parent ≡ At s → line_of p.controllers r.spot ≢ line_of p.controllers s
  free = rules.free

  single : (j k : ℕ) (c d : Made) (s t : Spot) → slice_get p.controllers j ≡ Some c → slice_get p.controllers k ≡ Some d → c.parent ≡ At s → d.parent ≡ At t → j ≢ k → line_of p.controllers s ≢ line_of p.controllers t
  single = rules.single

  placed : (j k : ℕ) → slice_get p.order j ≡ Some k → (c : Made) × (slice_get p.controllers k ≡ Some c)
  placed = rules.placed

  wide : widths p.controllers p.order ≤ 256
  wide = rules.wide

  -- a line of the plan is a number that a usize holds
  pub line_held : (s : Spot) → Lies p s → plan_line p s ≡ line_of p.controllers s
  line_held s l = held_small (line_of p.controllers s) (widths p.controllers l.before + s.input) l.line (low s l)

  -- the line of a route's device is the route's
  pub seat_line : (i : ℕ) (r : Routed) → slice_get p.routes i ≡ Some r → line_of p.controllers r.spot ≡ Some (seat_of p r).line
  seat_line i r e =
      let l = rules.lines i r e in
      l.line ∙ ap (λ (o : Option ℕ). Some (or_zero o)) (sym (line_held r.spot l ∙ l.line))

  -- the parent of a controller is placed before it
  behind : (place k : ℕ) (s : Spot) (before rest : List ℕ) → slice_get p.order place ≡ Some k → p.order ≡ before ++ (k ∷ rest) → Contains before s.controller
      → (l : Lies p s) → length l.before < place
  behind place k s before rest slot order in_front l =
      let here : slice_get p.order (length before) ≡ Some k = ap (λ (ks : List ℕ). slice_get ks (length before)) order ∙ seam before rest k in
      let e : length before ≡ place = once (length before) place k here slot in
      let q = front_place before (k ∷ rest) s.controller in_front in
      let at_front : slice_get p.order q.0 ≡ Some s.controller = ap (λ (ks : List ℕ). slice_get ks q.0) order ∙ q.2 in
      let at_own : slice_get p.order (length l.before) ≡ Some s.controller = ap (λ (ks : List ℕ). slice_get ks (length l.before)) l.order ∙ seam l.before l.rest s.controller in
      let f : length l.before ≡ q.0 = once (length l.before) q.0 s.controller at_own at_front in
      let g : q.0 < length before = q.1 in
      omega arith

  cascade_stood : (place i k : ℕ) (c : Made) → slice_get p.order place ≡ Some k → slice_get p.controllers k ≡ Some c → parent_line p c.parent ≡ Some i → Stands p k c → CascadedAt p place i
  cascade_stood place i k c slot there e (first rest root order) = absurd (let f : None ≡ Some i = ap (parent_line p) (sym root) ∙ e in cc)
  cascade_stood place i k c slot there e (cascaded s before rest parent order in_front l) = record {
    number = k;
    made = c;
    spot = s;
    slot = slot;
    there = there;
    parent = parent;
    lies = l;
    behind = behind place k s before rest slot order in_front l;
    line = sym (line_held s l) ∙ ap (parent_line p) (sym parent) ∙ e;
  }

  cascade_made : (place i k : ℕ) (o : Option Made) → slice_get p.order place ≡ Some k → slice_get p.controllers k ≡ o → cascade_line_of p o ≡ Some i → CascadedAt p place i
  cascade_made place i k None slot there e = absurd cc
  cascade_made place i k (Some c) slot there e = cascade_stood place i k c slot there e (rules.controllers k c there)

  cascade_by : (place i : ℕ) (o : Option ℕ) → slice_get p.order place ≡ o → cascade_line_of p (made_at p o) ≡ Some i → CascadedAt p place i
  cascade_by place i None slot e = absurd cc
  cascade_by place i (Some k) slot e = cascade_made place i k (slice_get p.controllers k) slot refl e

  cascade_at : (place i : ℕ) → cascade_line p place ≡ Some i → CascadedAt p place i
  cascade_at place i e = cascade_by place i (slice_get p.order place) refl e

  -- where a controller is placed but not first, it is cascaded
  alone_stood : (place k : ℕ) (c : Made) → 0 < place → slice_get p.order place ≡ Some k → parent_line p c.parent ≡ None → Stands p k c → ⊥
  alone_stood place k c later slot e (first rest root order) =
      let f : 0 ≡ place = once 0 place k (ap (λ (ks : List ℕ). slice_get ks 0) order) slot in
      omega arith
  alone_stood place k c later slot e (cascaded s before rest parent order in_front l) =
      let f : plan_line p s ≡ None = ap (parent_line p) (sym parent) ∙ e in
      let g = line_held s l in
      let h = l.line in
      cc

  alone_by : (place : ℕ) (o : Option ℕ) → 0 < place → slice_get p.order place ≡ o → cascade_line_of p (made_at p o) ≡ None → o ≡ None
  alone_by place None later slot e = refl
  alone_by place (Some k) later slot e =
      let t = placed place k slot in
      absurd (alone_stood place k t.0 later slot (ap (cascade_line_of p) (sym t.1) ∙ e) (rules.controllers k t.0 t.1))

  alone : (place : ℕ) → 0 < place → cascade_line p place ≡ None → slice_get p.order place ≡ None
  alone place later e = alone_by place (slice_get p.order place) later refl e

  -- a line of a controller at one of the first n places is one of their lines
  lies_below : (s : Spot) (l : Lies p s) (n : ℕ) → length l.before < n → widths p.controllers l.before + s.input < front p p.order n
  lies_below s l n h =
      let f = front_holds p l.before l.rest s.controller n h in
      let g : width_by (slice_get p.controllers s.controller) ≡ width_of l.controller.kind = ap width_by l.there in
      let e : front p p.order n ≡ front p (l.before ++ (s.controller ∷ l.rest)) n = ap (λ (ks : List ℕ). front p ks n) l.order in
      let i = l.input in
      omega arith

  cascade_below : (n k : ℕ) (h : CascadedAt p n k) → k < front p p.order n
  cascade_below n k h =
      let f = lies_below h.spot h.lies n h.behind in
      let e : widths p.controllers h.lies.before + h.spot.input ≡ k = let a = h.lies.line in let b = h.line in cc in
      omega arith

  -- no two controllers are cascaded at one line
  cascade_away : (n k : ℕ) → CascadedAt p n k → Away p n k
  cascade_away n k h m lt e =
      let g = cascade_at m k e in
      ⊎_elim
      (λ (q : g.number ≡ h.number).
      let f : m ≡ n = once m n h.number (g.slot ∙ ap Some q) h.slot in
      omega arith)
      (λ (q : g.number ≡ h.number → ⊥). single g.number h.number g.made h.made g.spot h.spot g.there h.there g.parent h.parent q (g.line ∙ sym h.line))
      (cases_eq g.number h.number)

  -- each place of the order has a controller
  made_there : (m : ℕ) → m < length p.order → (c : Made) × (placed_at p m ≡ Some c)
  made_there m lt =
      let e = slice_get-get_or p.order m 0 lt in
      let t = placed m _ e in
      (t.0, ap (made_at p) e ∙ t.1)

  front_part : (m : ℕ) (part : List (Option Row)) → m < length p.order → is_width (length part) (placed_at p m) ≡ true → front p p.order (suc m) ≡ front p p.order m + length part
  front_part m part lt fit =
      let t = made_there m lt in
      front_more p p.order m ∙ ap (λ (w : ℕ). front p p.order m + w) (width_from (length part) (placed_at p m) t.0 t.1 fit)

  -- past the order's end nothing is added
  front_same : (m : ℕ) → slice_get p.order m ≡ None → front p p.order (suc m) ≡ front p p.order m
  front_same m e =
      let f : width_by (placed_at p m) ≡ 0 = ap (λ (o : Option ℕ). width_by (made_at p o)) e in
      let g = front_more p p.order m in
      omega arith

  past : (m : ℕ) → slice_get p.order m ≡ None → suc m < length p.order → ⊥
  past m e lt = let f = slice_get-get_or p.order m 0 (omega arith) in cc

  -- one controller more, of those whose lines together are `whole`
  module _ (whole : List (Option Row)) (ends : (k : ℕ) (c : Made) → slice_get p.controllers k ≡ Some c → parent_open p whole c.parent ≡ true) where
    cascade_end : (n k : ℕ) → CascadedAt p n k → is_some (at whole k) ≡ true
    cascade_end n k h =
        ap (is_open whole) (sym (line_held h.spot h.lies ∙ h.line)) ∙ ap (parent_open p whole) (sym h.parent) ∙ ends h.number h.made h.there

    join_none : (n : ℕ) (lines part : List (Option Row)) → 0 < n → cascade_line p n ≡ None → Stage p whole n lines → Joined p whole n lines part None
    join_none n lines part later e s =
        let f = alone n later e in
        record {
          made = refl;
          next = record {
            sized = λ lt. absurd (past n f lt);
            kept = rw (front_same n f) (kept_alone (Away p n) (Away p (suc n)) whole lines (front p p.order n) (away_less p n) s.kept);
          };
        }

    join_some : (n k : ℕ) (lines part : List (Option Row)) → cascade_line p n ≡ Some k → is_width (length part) (placed_at p n) ≡ true
        → (n < length p.order → (i : ℕ) → i < length part → at whole (front p p.order n + i) ≡ at part i) → Stage p whole n lines → Joined p whole n lines part (Some k)
    join_some n k lines part e fit runs s =
        let h = cascade_at n k e in
        let lt : n < length p.order = slice_get_within p.order n h.number h.slot in
        let size : length lines ≡ front p p.order n = s.sized lt in
        let more : front p p.order (suc n) ≡ front p p.order n + length part = front_part n part lt fit in
        let most = front_all p p.order (suc n) in
        let opens : is_some (at lines k) ≡ true = s.kept.opened k (cascade_below n k h) (cascade_away n k h) (cascade_end n k h) in
        record {
          made = made_at_line lines part k (question_none lines part k opens (omega arith));
          next = record {
            sized = λ _. pair_length lines part k ∙ ap (λ (w : ℕ). w + length part) size ∙ sym more;
            kept = kept_pair (Away p n) (Away p (suc n)) whole lines part k (front p p.order n) (front p p.order (suc n)) size more (away_less p n)
                (λ i a q. a n (omega arith) (e ∙ ap Some (sym q))) (runs lt) s.kept;
          };
        }

    join_by : (n : ℕ) (lines part : List (Option Row)) (o : Option ℕ) → 0 < n → cascade_line p n ≡ o → is_width (length part) (placed_at p n) ≡ true
        → (n < length p.order → (i : ℕ) → i < length part → at whole (front p p.order n + i) ≡ at part i) → Stage p whole n lines → Joined p whole n lines part o
    join_by n lines part None later e fit runs s = join_none n lines part later e s
    join_by n lines part (Some k) later e fit runs s = join_some n k lines part e fit runs s

  -- four controllers that are as the plan says
  module _ (ls : Lists) (as_asked : (widths_fit p ls && ends_open p (in_order ls)) ≡ true) where
    fits : widths_fit p ls ≡ true
    fits = (and_parts (widths_fit p ls) (ends_open p (in_order ls)) as_asked).0

    ends_all : ends_open p (in_order ls) ≡ true
    ends_all = (and_parts (widths_fit p ls) (ends_open p (in_order ls)) as_asked).1

    fit_first : is_width (length ls.first) (placed_at p 0) ≡ true
    fit_first = (and_parts (is_width (length ls.first) (placed_at p 0)) _ fits).0

    fits_rest : (is_width (length ls.second) (placed_at p 1) && (is_width (length ls.third) (placed_at p 2) && is_width (length ls.fourth) (placed_at p 3))) ≡ true
    fits_rest = (and_parts (is_width (length ls.first) (placed_at p 0)) _ fits).1

    fit_second : is_width (length ls.second) (placed_at p 1) ≡ true
    fit_second = (and_parts (is_width (length ls.second) (placed_at p 1)) _ fits_rest).0

    fits_last : (is_width (length ls.third) (placed_at p 2) && is_width (length ls.fourth) (placed_at p 3)) ≡ true
    fits_last = (and_parts (is_width (length ls.second) (placed_at p 1)) _ fits_rest).1

    fit_third : is_width (length ls.third) (placed_at p 2) ≡ true
    fit_third = (and_parts (is_width (length ls.third) (placed_at p 2)) (is_width (length ls.fourth) (placed_at p 3)) fits_last).0

    fit_fourth : is_width (length ls.fourth) (placed_at p 3) ≡ true
    fit_fourth = (and_parts (is_width (length ls.third) (placed_at p 2)) (is_width (length ls.fourth) (placed_at p 3)) fits_last).1

    -- the lines of a route and of a cascade are open
    route_open : (i : ℕ) (r : Routed) → slice_get p.routes i ≡ Some r → is_open (in_order ls) (plan_line p r.spot) ≡ true
    route_open i r e = each (λ (x : Routed). is_open (in_order ls) (plan_line p x.spot)) p.routes i r (and_parts _ (list_all (λ (c : Made). parent_open p (in_order ls) c.parent) p.controllers) ends_all).0 e

    cascade_open : (k : ℕ) (c : Made) → slice_get p.controllers k ≡ Some c → parent_open p (in_order ls) c.parent ≡ true
    cascade_open k c e = each (λ (x : Made). parent_open p (in_order ls) x.parent) p.controllers k c (and_parts (list_all (λ (r : Routed). is_open (in_order ls) (plan_line p r.spot)) p.routes) _ ends_all).1 e

    -- where the lines of each stand
    front_one : 0 < length p.order → front p p.order 1 ≡ length ls.first
    front_one lt = let f = front_part 0 ls.first lt fit_first in omega arith

    front_two : 1 < length p.order → front p p.order 2 ≡ length ls.first + length ls.second
    front_two lt = front_part 1 ls.second lt fit_second ∙ ap (λ (w : ℕ). w + length ls.second) (front_one (omega arith))

    front_three : 2 < length p.order → front p p.order 3 ≡ length ls.first + length ls.second + length ls.third
    front_three lt = front_part 2 ls.third lt fit_third ∙ ap (λ (w : ℕ). w + length ls.third) (front_two (omega arith))

    front_four : 3 < length p.order → front p p.order 4 ≡ length ls.first + length ls.second + length ls.third + length ls.fourth
    front_four lt = front_part 3 ls.fourth lt fit_fourth ∙ ap (λ (w : ℕ). w + length ls.fourth) (front_three (omega arith))

    all_length : length (in_order ls) ≡ length ls.first + length ls.second + length ls.third + length ls.fourth
    all_length =
        let a = length-append ls.first (ls.second ++ (ls.third ++ ls.fourth)) in
        let b = length-append ls.second (ls.third ++ ls.fourth) in
        let c = length-append ls.third ls.fourth in
        omega arith

    second_there : 1 < length p.order → (i : ℕ) → i < length ls.second → at (in_order ls) (front p p.order 1 + i) ≡ at ls.second i
    second_there more i lt =
        later ls.first (ls.second ++ (ls.third ++ ls.fourth)) i (front p p.order 1 + i) (ap (λ (w : ℕ). w + i) (front_one (omega arith)))
        ∙ get_or_append_left ls.second (ls.third ++ ls.fourth) None i lt

    third_there : 2 < length p.order → (i : ℕ) → i < length ls.third → at (in_order ls) (front p p.order 2 + i) ≡ at ls.third i
    third_there more i lt =
        let w = front_two (omega arith) in
        later ls.first (ls.second ++ (ls.third ++ ls.fourth)) (length ls.second + i) (front p p.order 2 + i) (omega arith)
        ∙ later ls.second (ls.third ++ ls.fourth) i (length ls.second + i) refl
        ∙ get_or_append_left ls.third ls.fourth None i lt

    fourth_there : 3 < length p.order → (i : ℕ) → i < length ls.fourth → at (in_order ls) (front p p.order 3 + i) ≡ at ls.fourth i
    fourth_there more i lt =
        let w = front_three (omega arith) in
        later ls.first (ls.second ++ (ls.third ++ ls.fourth)) (length ls.second + (length ls.third + i)) (front p p.order 3 + i) (omega arith)
        ∙ later ls.second (ls.third ++ ls.fourth) (length ls.third + i) (length ls.second + (length ls.third + i)) refl
        ∙ later ls.third ls.fourth i (length ls.third + i) refl

    -- the first controller, and then the others one by one
    first_most : front p p.order 1 ≤ length ls.first
    first_most =
        ⊎_elim
        (λ (lt : 0 < length p.order). omega (arith, front_one lt))
        (λ (ge : length p.order ≤ 0). let f = ap (widths p.controllers) (take_none p.order ge) in omega arith)
        (cases_lt 0 (length p.order))
      where
        take_none : (ks : List ℕ) → length ks ≤ 0 → take 1 ks ≡ []
        take_none [] h = refl
        take_none (k ∷ ks) h = absurd (let f : ⊥ = omega arith in f)

    stage_first : Stage p (in_order ls) 1 ls.first
    stage_first = record {
      sized = λ lt. sym (front_one (omega arith));
      kept = kept_first (Away p 1) ls.first (ls.second ++ (ls.third ++ ls.fourth)) (front p p.order 1) first_most;
    }

    abbrev two : List (Option Row)
    two = under ls.first ls.second (cascade_line p 1)

    abbrev three : List (Option Row)
    three = under two ls.third (cascade_line p 2)

    join_second : Joined p (in_order ls) 1 ls.first ls.second (cascade_line p 1)
    join_second = join_by (in_order ls) cascade_open 1 ls.first ls.second (cascade_line p 1) (omega arith) refl fit_second second_there stage_first

    join_third : Joined p (in_order ls) 2 two ls.third (cascade_line p 2)
    join_third = join_by (in_order ls) cascade_open 2 two ls.third (cascade_line p 2) (omega arith) refl fit_third third_there join_second.next

    join_fourth : Joined p (in_order ls) 3 three ls.fourth (cascade_line p 3)
    join_fourth = join_by (in_order ls) cascade_open 3 three ls.fourth (cascade_line p 3) (omega arith) refl fit_fourth fourth_there join_third.next

    -- the cascades can all be made
    pub joined_lines : made_lines (made_lines (made_lines ls.first ls.second (cascade_line p 1)) ls.third (cascade_line p 2)) ls.fourth (cascade_line p 3)
        ≡ cascaded_lines ls (wiring_of (Ok p))
    joined_lines =
        ap (λ (xs : List (Option Row)). made_lines (made_lines xs ls.third (cascade_line p 2)) ls.fourth (cascade_line p 3)) join_second.made
        ∙ ap (λ (xs : List (Option Row)). made_lines xs ls.fourth (cascade_line p 3)) join_third.made
        ∙ join_fourth.made

    -- the line of a route is one of the first four controllers'
    route_below : (s : Spot) (k : ℕ) → Lies p s → line_of p.controllers s ≡ Some k → k < length (in_order ls) → k < front p p.order 4
    route_below s k l e lt =
        let same : widths p.controllers l.before + s.input ≡ k = let f = l.line in cc in
        let size = all_length in
        ⊎_elim
        (λ (h : 3 < length p.order). omega (arith, front_four h))
        (λ (h : length p.order ≤ 3).
        let f = ap length l.order in
        let g = length-append l.before (s.controller ∷ l.rest) in
        omega (arith, lies_below s l 4 (omega arith)))
        (cases_lt 3 (length p.order))

    -- and every route's line is open then
    pub routes_opened : (i : ℕ) (r : Routed) → slice_get p.routes i ≡ Some r → is_some (at (cascaded_lines ls (wiring_of (Ok p))) (seat_of p r).line) ≡ true
    routes_opened i r e =
        let k : ℕ = (seat_of p r).line in
        let l = rules.lines i r e in
        let q : line_of p.controllers r.spot ≡ Some k = seat_line i r e in
        let opens : is_some (at (in_order ls) k) ≡ true = ap (is_open (in_order ls)) (sym (line_held r.spot l ∙ q)) ∙ route_open i r e in
        join_fourth.next.kept.opened k (route_below r.spot k l q (open_within (in_order ls) k opens))
        (λ m lt f. let h = cascade_at m k f in free i h.number r h.made h.spot e h.there h.parent (q ∙ sym h.line)) opens

    -- the devices have lines of their own that are open
    pub seats_opened : Opened (cascaded_lines ls (wiring_of (Ok p))) (seats_of (Ok p))
    seats_opened = record {
      opened = λ i lt. let t = seat_there i lt in ap (λ (k : ℕ). is_some (at (cascaded_lines ls (wiring_of (Ok p))) k)) t.2 ∙ routes_opened i t.0 t.1;
      apart = λ i j li lj e.
          let s = seat_there i li in
          let t = seat_there j lj in
          ⊎_elim
          (λ (q : i ≡ j). q)
          (λ (n : i ≡ j → ⊥).
          absurd (rules.distinct i j s.0 t.0 s.1 t.1 n (seat_line i s.0 s.1 ∙ ap Some (sym s.2 ∙ e ∙ t.2) ∙ sym (seat_line j t.0 t.1))))
          (cases_eq i j);
    }
      where
        seat_there : (i : ℕ) → i < length (map (seat_of p) p.routes) → (r : Routed) × (slice_get p.routes i ≡ Some r) × (line_at (map (seat_of p) p.routes) i ≡ (seat_of p r).line)
        seat_there i lt = seat_in p p.routes i (omega (arith, length-map p.routes (seat_of p)))

-- no devices
pub none_opened : (ls : List (Option Row)) → Opened ls []
none_opened ls = record { opened = λ i lt. absurd (omega arith); apart = λ i j li lj e. absurd (omega arith) }

-- with no line each parent stays alone
pub alone_lines : (ls : Lists) → made_lines (made_lines (made_lines ls.first ls.second None) ls.third None) ls.fourth None ≡ cascaded_lines ls unwired
alone_lines ls = refl

-- a reset of the parts
all_same : {X : Type 0} (f g : X → Bool) (xs : List X) → ((x : X) → f x ≡ g x) → list_all f xs ≡ list_all g xs
all_same f g [] h = refl
all_same f g (x ∷ xs) h = ap (λ (b : Bool). b && list_all f xs) (h x) ∙ ap (λ (b : Bool). g x && b) (all_same f g xs h)

open_reset : (ls : List (Option Row)) (o : Option ℕ) → is_open (all_reset ls) o ≡ is_open ls o
open_reset ls None = refl
open_reset ls (Some k) = reset_at ls k

parent_reset : (p : Planned) (ls : List (Option Row)) (q : Parent) → parent_open p (all_reset ls) q ≡ parent_open p ls q
parent_reset p ls Root = refl
parent_reset p ls (At s) = open_reset ls (plan_line p s)
parent_reset p ls Several = refl

ends_reset : (p : Planned) (ls : List (Option Row)) → ends_open p (all_reset ls) ≡ ends_open p ls
ends_reset p ls =
    let e = all_same (λ (r : Routed). is_open (all_reset ls) (plan_line p r.spot)) (λ (r : Routed). is_open ls (plan_line p r.spot)) p.routes (λ r. open_reset ls (plan_line p r.spot)) in
    let f = all_same (λ (c : Made). parent_open p (all_reset ls) c.parent) (λ (c : Made). parent_open p ls c.parent) p.controllers (λ c. parent_reset p ls c.parent) in
    ap (λ (b : Bool). b && list_all (λ (c : Made). parent_open p (all_reset ls) c.parent) p.controllers) e
    ∙ ap (λ (b : Bool). list_all (λ (r : Routed). is_open ls (plan_line p r.spot)) p.routes && b) f

in_order_reset : (ls : Lists) → in_order (reset_lists ls) ≡ all_reset (in_order ls)
in_order_reset ls =
    let a = map-append (moved Reset) ls.first (ls.second ++ (ls.third ++ ls.fourth)) in
    let b = map-append (moved Reset) ls.second (ls.third ++ ls.fourth) in
    let c = map-append (moved Reset) ls.third ls.fourth in
    cc

widths_reset : (p : Planned) (ls : Lists) → widths_fit p (reset_lists ls) ≡ widths_fit p ls
widths_reset p ls =
    let a = reset_length ls.first in
    let b = reset_length ls.second in
    let c = reset_length ls.third in
    let d = reset_length ls.fourth in
    cc

-- it changes no answer
pub asked_reset : (r : Result Planned BoardFault) (ls : Lists) → asked r (reset_lists ls) ≡ asked r ls
asked_reset (Err f) ls = refl
asked_reset (Ok p) ls =
    let e : ends_open p (in_order (reset_lists ls)) ≡ ends_open p (in_order ls) = ap (ends_open p) (in_order_reset ls) ∙ ends_reset p (in_order ls) in
    ap (λ (b : Bool). cond (b && ends_open p (in_order (reset_lists ls))) (Ok p) (Err fault.Parts)) (widths_reset p ls)
    ∙ ap (λ (b : Bool). cond (widths_fit p ls && b) (Ok p) (Err fault.Parts)) e

-- and nothing of what is made of them
pub cascaded_reset : (ls : Lists) (w : Wiring) → cascaded_lines (reset_lists ls) w ≡ cascaded_lines ls w
cascaded_reset ls w =
    reset_under _ ls.fourth w.fourth
    ∙ ap (λ (xs : List (Option Row)). under xs ls.fourth w.fourth)
    (reset_under _ ls.third w.third
    ∙ ap (λ (xs : List (Option Row)). under xs ls.third w.third)
    (reset_under _ ls.second w.second ∙ under_reset ls.first ls.second w.second))
