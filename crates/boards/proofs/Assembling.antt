-- What is made of a plan and of four controllers that meet their conditions.
use Rattle.std.proofs.Common.{◌≡◌, ℕ, ◌<◌, Bool, true, false, cond, List, get_or, length, map, Some, Ok, Err, Option, Result, sym, refl, ap, ◌∙◌, subst, arith}
use Rattle.std.specs.Prelude.{◌&&◌, IfOk}
use Rattle.std.proofs.lemmas.List.{get_or-map, length-map}
use Rattle.std.proofs.lemmas.Option.{slice_get-get_or}
use Rattle.line.specs.declared.row.Row.{Row}
use Rattle.board_faults.specs.declared.BoardFault.{BoardFault}
use Rattle.plan.specs.Plans.{Planned, line_of}
use Rattle.plan.specs.Rules.{PlanRules}
use Rattle.plan.specs.Seen.{no_route, plan_seen, planned}
use Rattle.plan.specs.declared.tree_plan.Plan.{Plan}
use Rattle.boards.specs.declared.parts.Wiring.{Wiring}
use Rattle.boards.specs.Assembly.{Lists, asked, cascaded_lines, ends_open, in_order, seat_of, seats_of, widths_fit, wired_lines, wiring_of}
use Rattle.boards.specs.Devices.{Opened, senses_set}
use Rattle.boards.specs.Seats.{Seat, line_at, no_seat}
use Rattle.boards.proofs.Joining.{alone_lines, joined_lines, none_opened, seat_line, seats_opened}

-- the plan that was read keeps the rules
pub rules_seen : (x : Result Plan BoardFault) → IfOk x (λ p. PlanRules (planned p)) → (p : Planned) → plan_seen x ≡ Ok p → PlanRules p
rules_seen (Ok x) r p e = let q : planned x ≡ p = cc in subst PlanRules q r
rules_seen (Err f) r p e = absurd cc

-- the question has no refusal: the plan is the tree's, and the parts are as it says
fits_by : (b : Bool) (f : BoardFault) (p q : Planned) → cond b (Ok p) (Err f) ≡ Ok q → (p ≡ q) × (b ≡ true)
fits_by true f p q e = let s : p ≡ q = cc in (s, refl)
fits_by false f p q e = absurd cc

asked_ok : (r : Result Planned BoardFault) (ls : Lists) (p : Planned) → asked r ls ≡ Ok p → (r ≡ Ok p) × ((widths_fit p ls && ends_open p (in_order ls)) ≡ true)
asked_ok (Err f) ls p e = absurd cc
asked_ok (Ok q) ls p e =
    let b = fits_by (widths_fit q ls && ends_open q (in_order ls)) _ q p e in
    (ap Ok b.0, subst (λ (z : Planned). (widths_fit z ls && ends_open z (in_order ls)) ≡ true) b.0 b.1)

route_line : (q : Planned) → PlanRules q → (ds : List Seat) → ds ≡ map (seat_of q) q.routes → (i : ℕ) → i < length ds → line_of q.controllers (get_or ds i no_seat).route.spot ≡ Some (line_at ds i)
route_line q rules ds d i lt =
    let n : i < length q.routes = let l = length-map q.routes (seat_of q) in let z = ap length d in omega arith in
    let x = get_or q.routes i no_route in
    let s : get_or ds i no_seat ≡ seat_of q x = ap (λ (ys : List Seat). get_or ys i no_seat) d ∙ get_or-map (seat_of q) q.routes i no_route no_seat n in
    ap (λ (z : Seat). line_of q.controllers z.route.spot) s ∙ seat_line q rules i x (slice_get-get_or q.routes i no_route n) ∙ ap (λ (z : Seat). Some z.line) (sym s)

module _ (r : Result Planned BoardFault) (ls : Lists) (rules : (p : Planned) → asked r ls ≡ Ok p → PlanRules p) where
  joined_by : (q : Result Planned BoardFault) → asked r ls ≡ q → wired_lines ls (wiring_of q) ≡ cascaded_lines ls (wiring_of q)
  joined_by (Err f) e = alone_lines ls
  joined_by (Ok p) e = joined_lines p (rules p e) ls (asked_ok r ls p e).1

  opened_by : (q : Result Planned BoardFault) → asked r ls ≡ q → Opened (cascaded_lines ls (wiring_of q)) (seats_of q)
  opened_by (Err f) e = none_opened _
  opened_by (Ok p) e = seats_opened p (rules p e) ls (asked_ok r ls p e).1

  -- the cascades of the plan can all be made
  pub joined : (w : Wiring) (xs : List (Option Row)) → w ≡ wiring_of (asked r ls) → xs ≡ wired_lines ls w → xs ≡ cascaded_lines ls (wiring_of (asked r ls))
  joined w xs e f = f ∙ ap (wired_lines ls) e ∙ joined_by (asked r ls) refl

  -- and the devices have open lines of their own
  pub opened : (w : Wiring) (xs : List (Option Row)) (ds : List Seat) → w ≡ wiring_of (asked r ls) → xs ≡ wired_lines ls w → ds ≡ seats_of (asked r ls) → Opened xs ds
  opened w xs ds e f d =
      subst (λ (ys : List (Option Row)). Opened ys ds) (sym (joined w xs e f))
      (subst (Opened (cascaded_lines ls (wiring_of (asked r ls)))) (sym d) (opened_by (asked r ls) refl))

  -- once the senses are set
  pub set_lines : (w : Wiring) (xs zs : List (Option Row)) (ds ds' : List Seat) → w ≡ wiring_of (asked r ls) → xs ≡ wired_lines ls w → zs ≡ senses_set ds' xs → ds ≡ ds'
      → zs ≡ senses_set ds (cascaded_lines ls (wiring_of (asked r ls)))
  set_lines w xs zs ds ds' e f s d = s ∙ ap (senses_set ds') (joined w xs e f) ∙ ap (λ (y : List Seat). senses_set y (cascaded_lines ls (wiring_of (asked r ls)))) (sym d)

  lines_by : (q : Result Planned BoardFault) (ds : List Seat) → asked r ls ≡ q → ds ≡ seats_of q → (p : Planned) → r ≡ Ok p → (i : ℕ) → i < length ds
      → line_of p.controllers (get_or ds i no_seat).route.spot ≡ Some (line_at ds i)
  lines_by (Err f) ds e d p o i lt = absurd (let z = ap length d in omega arith)
  lines_by (Ok q) ds e d p o i lt =
      let same : Ok q ≡ Ok p = sym (asked_ok r ls q e).0 ∙ o in
      let q≡p : q ≡ p = cc in
      subst (λ (z : Planned). line_of z.controllers (get_or ds i no_seat).route.spot ≡ Some (line_at ds i)) q≡p (route_line q (rules q e) ds d i lt)

  -- the line of each device is its route's
  pub lines : (ds : List Seat) → ds ≡ seats_of (asked r ls) → (p : Planned) → r ≡ Ok p → (i : ℕ) → i < length ds → line_of p.controllers (get_or ds i no_seat).route.spot ≡ Some (line_at ds i)
  lines ds d = lines_by (asked r ls) ds refl d
