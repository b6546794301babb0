-- The controllers of a plan are as wide as it says, and all their lines are open; so every specifier of it ends at an open line.
use Rattle.std.proofs.Common.{◌≡◌, ℕ, suc, ◌+◌, ◌-◌, ◌^◌, ◌<◌, ◌≤◌, Bool, true, List, [], ◌∷◌, ◌++◌, length, Some, None, Ok, Err, Option, refl, sym, ap, ◌∙◌, ⊎_elim, subst, arith}
use Rattle.std.specs.Prelude.{◌&&◌, is_some, nat_lt, slice_get}
use Rattle.std.specs.List.{list_all}
use Rattle.std.proofs.Math.Seq.{get_or-append_right}
use Rattle.std.proofs.lemmas.Bool.{and_from, cases_lt, cond-true, eq-eqb, lt-ltb}
use Rattle.std.proofs.lemmas.List.{get_or-replicate, get_or_append_left, length-append, length-replicate}
use Rattle.line.specs.declared.row.Row.{Row}
use Rattle.line.specs.Rows.{fresh}
use Rattle.kinds.specs.Kinds.{Sort, width_of}
use Rattle.board_faults.specs.declared.BoardFault.TheVariants as fault
use Rattle.plan.specs.declared.placed.Spot.{Spot}
use Rattle.plan.specs.Controllers.{Made}
use Rattle.plan.specs.Plans.{Planned, held, made_at, placed_at}
use Rattle.plan.specs.Rules.{Lies, PlanRules, Stands, cascaded, first, width_by, widths}
use Rattle.boards.specs.Assembly.{Lists, asked, ends_open, in_order, is_open, is_width, parent_open, parents_open, plan_line, routes_open, widths_fit}
use Rattle.kind_parts.specs.Makes.{AllOpen, kind_at, kind_by, lists_for, new_lines, sense_of}

wide : (k : Sort) → length (new_lines k) ≡ width_of k
wide k = length-replicate (width_of k) (Some (fresh (sense_of k)))

width_fits : (o : Option Made) → is_width (length (new_lines (kind_by o))) o ≡ true
width_fits None = refl
width_fits (Some c) = eq-eqb (width_of c.kind) (length (new_lines c.kind)) (sym (wide c.kind))

fitting : (p : Planned) → widths_fit p (lists_for p) ≡ true
fitting p = and_from _ _ (width_fits (placed_at p 0)) (and_from _ _ (width_fits (placed_at p 1)) (and_from _ _ (width_fits (placed_at p 2)) (width_fits (placed_at p 3))))

new_open : (k : Sort) → AllOpen (new_lines k)
new_open k i h =
    let lt : i < width_of k = omega (arith, wide k) in
    ap is_some (get_or-replicate (width_of k) i (Some (fresh (sense_of k))) None lt)

joined_open : (xs ys : List (Option Row)) → AllOpen xs → AllOpen ys → AllOpen (xs ++ ys)
joined_open xs ys a b i h =
    ⊎_elim
    (λ (l : i < length xs). ap is_some (get_or_append_left xs ys None i l) ∙ a i l)
    (λ (g : length xs ≤ i). ap is_some (get_or-append_right xs ys i None g) ∙ b (i - length xs) (omega (arith, length-append xs ys)))
    (cases_lt i (length xs))

all_open : (p : Planned) → AllOpen (in_order (lists_for p))
all_open p =
    joined_open (new_lines (kind_at p 0)) _ (new_open (kind_at p 0))
    (joined_open (new_lines (kind_at p 1)) _ (new_open (kind_at p 1))
    (joined_open (new_lines (kind_at p 2)) (new_lines (kind_at p 3)) (new_open (kind_at p 2)) (new_open (kind_at p 3))))

-- how many lines the controller has that is made for this number of an order
abbrev room : Planned → Option ℕ → ℕ
room p o = width_of (kind_by (made_at p o))

in_room : (o : Option Made) → width_by o ≤ width_of (kind_by o)
in_room None = omega arith
in_room (Some c) = omega arith

-- an order of four at most has no more lines than what is made for it
order_wide : (p : Planned) (ks : List ℕ) → length ks ≤ 4
    → widths p.controllers ks ≤ room p (slice_get ks 0) + (room p (slice_get ks 1) + (room p (slice_get ks 2) + room p (slice_get ks 3)))
order_wide p [] h = omega arith
order_wide p (a ∷ []) h = omega (arith, in_room (slice_get p.controllers a))
order_wide p (a ∷ (b ∷ [])) h = omega (arith, in_room (slice_get p.controllers a), in_room (slice_get p.controllers b))
order_wide p (a ∷ (b ∷ (c ∷ []))) h =
    omega (arith, in_room (slice_get p.controllers a), in_room (slice_get p.controllers b), in_room (slice_get p.controllers c))
order_wide p (a ∷ (b ∷ (c ∷ (d ∷ [])))) h =
    omega (arith, in_room (slice_get p.controllers a), in_room (slice_get p.controllers b), in_room (slice_get p.controllers c), in_room (slice_get p.controllers d))
order_wide p (a ∷ (b ∷ (c ∷ (d ∷ (e ∷ ks))))) h = absurd (let f : ⊥ = omega arith in f)

all_wide : (p : Planned) → length (in_order (lists_for p)) ≡ width_of (kind_at p 0) + (width_of (kind_at p 1) + (width_of (kind_at p 2) + width_of (kind_at p 3)))
all_wide p =
    let a = new_lines (kind_at p 0) in
    let b = new_lines (kind_at p 1) in
    let c = new_lines (kind_at p 2) in
    let d = new_lines (kind_at p 3) in
    omega (arith, length-append a (b ++ (c ++ d)), length-append b (c ++ d), length-append c d, wide (kind_at p 0), wide (kind_at p 1), wide (kind_at p 2), wide (kind_at p 3))

widths_joined : (cs : List Made) (xs ys : List ℕ) → widths cs (xs ++ ys) ≡ widths cs xs + widths cs ys
widths_joined cs [] ys = omega arith
widths_joined cs (x ∷ xs) ys = omega (arith, widths_joined cs xs ys)

-- the line of a specifier is one of the order's
line_within : (p : Planned) (s : Spot) (l : Lies p s) → widths p.controllers l.before + s.input < widths p.controllers p.order
line_within p s l =
    let e : widths p.controllers p.order ≡ widths p.controllers l.before + widths p.controllers (s.controller ∷ l.rest) = ap (widths p.controllers) l.order ∙ widths_joined p.controllers l.before (s.controller ∷ l.rest) in
    let w : width_by (slice_get p.controllers s.controller) ≡ width_of l.controller.kind = ap width_by l.there in
    let i = l.input in
    omega arith

all_of : {X : Type 0} (f : X → Bool) (xs : List X) → ((i : ℕ) (x : X) → slice_get xs i ≡ Some x → f x ≡ true) → list_all f xs ≡ true
all_of f [] h = refl
all_of f (x ∷ xs) h = and_from (f x) (list_all f xs) (h 0 x refl) (all_of f xs (λ i y e. h (suc i) y e))

module _ (p : Planned) (few : length p.order ≤ 4) where
  -- a specifier ends at an open line
  end_open : (s : Spot) → Lies p s → is_open (in_order (lists_for p)) (plan_line p s) ≡ true
  end_open s l =
      let n : ℕ = widths p.controllers l.before + s.input in
      let low : n < 256 = l.low in
      let lt : n < length (in_order (lists_for p)) = omega (arith, line_within p s l, order_wide p p.order few, all_wide p) in
      ap (λ (o : Option ℕ). is_open (in_order (lists_for p)) (held o)) l.line
      ∙ ap (is_open (in_order (lists_for p))) (cond-true (nat_lt n (2 ^ 64)) (Some n) None (lt-ltb n (2 ^ 64) (omega arith)))
      ∙ all_open p n lt

  stood_open : (k : ℕ) (c : Made) → Stands p k c → parent_open p (in_order (lists_for p)) c.parent ≡ true
  stood_open k c (first rest root order) = ap (parent_open p (in_order (lists_for p))) root
  stood_open k c (cascaded s before rest parent order in_front l) = ap (parent_open p (in_order (lists_for p))) parent ∙ end_open s l

  taken : PlanRules p → asked (Ok p) (lists_for p) ≡ Ok p
  taken rules =
      let ls = in_order (lists_for p) in
      let r : routes_open p ls ≡ true = all_of (λ x. is_open ls (plan_line p x.spot)) p.routes (λ i x e. end_open x.spot (rules.lines i x e)) in
      let c : parents_open p ls ≡ true = all_of (λ x. parent_open p ls x.parent) p.controllers (λ k x e. stood_open k x (rules.controllers k x e)) in
      cond-true (widths_fit p (lists_for p) && ends_open p ls) (Ok p) (Err fault.Parts)
      (and_from (widths_fit p (lists_for p)) (ends_open p ls) (fitting p) (and_from (routes_open p ls) (parents_open p ls) r c))

-- the same of lists that are those of the plan
module _ (p : Planned) (ls : Lists) (e : ls ≡ lists_for p) where
  pub fits : widths_fit p ls ≡ true
  fits = ap (widths_fit p) e ∙ fitting p

  pub opened : AllOpen (in_order ls)
  opened = subst (λ (x : Lists). AllOpen (in_order x)) (sym e) (all_open p)

  pub takes : length p.order ≤ 4 → PlanRules p → asked (Ok p) ls ≡ Ok p
  takes few rules = ap (asked (Ok p)) e ∙ taken p few rules
