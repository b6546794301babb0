-- Controllers are placed one by one, and each has a seat once it is placed.
use Rattle.std.proofs.Common.{◌≡◌, ℕ, zero, suc, ◌+◌, ◌≤◌, Bool, true, false, cond, not, ◌⊎◌, List, [], ◌∷◌, ◌++◌, length, get_or, map, Some, None, Ok, Err, Option, Result, refl, sym, ap, subst, ◌∙◌, inl, inr, append_assoc, length-append, arith}
use Rattle.std.specs.Prelude.{◌&&◌, ◌==◌, is_some, slice_get, slice_set}
use Rattle.std.specs.List.{Contains, count_by}
use Rattle.std.proofs.lemmas.Bool.Decides.{nat_tests}
use Rattle.std.proofs.lemmas.List.Elements.{Contains-append_right}
use Rattle.std.proofs.lemmas.List.Sums.{count_by-le-length, count_by_more_yes, sum_by-set, sum_by-take-drop}
use Rattle.std.proofs.lemmas.Option.{get_or_from_slice_get, none-some, same_Some, slice_get_within}
use Rattle.search.proofs.Firsts.{first_fit}
use Rattle.fdt.specs.Tokens.{after}
use Rattle.board_faults.specs.declared.BoardFault.{BoardFault}
use Rattle.board_faults.specs.declared.BoardFault.TheVariants as fault
use Rattle.kinds.specs.Kinds.{width_of}
use Rattle.plan.specs.declared.placed.Parent.{Parent}
use Rattle.plan.specs.declared.placed.Parent.TheVariants.{Root, At, Several}
use Rattle.plan.specs.declared.placed.Spot.{Spot}
use Rattle.plan.specs.Controllers.{Made}
use Rattle.plan.specs.Placings.{Placed, is_placed, follows, lined, may_place, next_placed, place_by, place_more, place_next, place_one, placed, starting}
use Rattle.plan.specs.Rules.{widths, width_by}
use Rattle.plan.proofs.Elements.{mapped_same, push_cases, set_cases, set_here, set_kept}
use Rattle.plan.proofs.Facts.{kinds, Follows, Ordered, Ranked, Seat, Seated, Unplaced, root, under}
use Rattle.plan.proofs.PlanLines.{widths-append}

-- the parents of the controllers
abbrev pub parents : List Made → List Parent
parents cs = map (λ c. c.parent) cs

-- a controller that is not placed
abbrev pub is_waiting : Made → Bool
is_waiting c = not (is_some c.first_line)

-- how many controllers are not placed
abbrev pub waiting : List Made → ℕ
waiting cs = count_by is_waiting cs

-- what holds at each step of placing
pub record Laid (from : List Made) (p : Placed) : Type 0 where
  pub kinds : kinds p.controllers ≡ kinds from
  pub parents : parents p.controllers ≡ parents from
  pub lines : p.lines ≡ widths p.controllers p.order
  pub seats : (k : ℕ) (c : Made) (line : ℕ) → slice_get p.controllers k ≡ Some c → c.first_line ≡ Some line → Seat p.controllers p.order k c
  pub ordered : Ordered p.controllers p.order
  pub few : length p.order + waiting p.controllers ≤ length from

-- lists of controllers of the same kinds have the same widths
width_kinds : (cs ds : List Made) (k : ℕ) → kinds cs ≡ kinds ds → width_by (slice_get cs k) ≡ width_by (slice_get ds k)
width_kinds [] [] k e = refl
width_kinds [] (d ∷ ds) k e = absurd (let f : [] ≡ d.kind ∷ kinds ds = e in cc)
width_kinds (c ∷ cs) [] k e = absurd (let f : c.kind ∷ kinds cs ≡ [] = e in cc)
width_kinds (c ∷ cs) (d ∷ ds) zero e = let f : c.kind ≡ d.kind = cc in ap width_of f
width_kinds (c ∷ cs) (d ∷ ds) (suc k) e = let f : kinds cs ≡ kinds ds = cc in width_kinds cs ds k f

widths_kinds : (cs ds : List Made) (ks : List ℕ) → kinds cs ≡ kinds ds → widths cs ks ≡ widths ds ks
widths_kinds cs ds [] e = refl
widths_kinds cs ds (k ∷ ks) e = let f = width_kinds cs ds k e in let g = widths_kinds cs ds ks e in omega arith

-- where none is waiting, each is placed
no_count : (w : Made → Bool) (cs : List Made) (k : ℕ) (c : Made) → count_by w cs ≤ 0 → slice_get cs k ≡ Some c → w c ≡ false
no_count w cs k c h e = no_count_by (w c) refl
  where
    no_count_by : (b : Bool) → w c ≡ b → b ≡ false
    no_count_by false f = refl
    no_count_by true f =
        let g : w (get_or cs k c) ≡ true = ap w (get_or_from_slice_get cs k c c e) ∙ f in
        let one = count_by_more_yes w cs k c (slice_get_within cs k c e) g in
        let all = sum_by-take-drop (λ x. cond (w x) 1 0) cs (k + 1) in
        absurd (omega arith)

is_line : (o : Option ℕ) → not (is_some o) ≡ false → (line : ℕ) × (o ≡ Some line)
is_line None e = absurd (cc)
is_line (Some line) e = (line, refl)

no_zero : (n : ℕ) → (suc n == 0) ≡ true → ⊥
no_zero n e = grind (arith, nat_tests)

-- a controller as it is counted
abbrev counts : Made → ℕ
counts c = cond (is_waiting c) 1 0

counts_one : (c : Made) → is_waiting c ≡ true → counts c ≡ 1
counts_one c e = ap (λ b. cond {A = ℕ} b 1 0) e

-- the controllers after one more is placed
module _ (from : List Made) (p : Placed) (k : ℕ) (c : Made) (laid : Laid from p) (there : slice_get p.controllers k ≡ Some c) where
  abbrev next : Placed
  next = record { controllers = slice_set p.controllers k (lined p.lines c); order = p.order ++ k ∷ []; lines = p.lines + width_of c.kind }

  next_kinds : kinds next.controllers ≡ kinds p.controllers
  next_kinds = mapped_same (λ d. d.kind) p.controllers k (lined p.lines c) c there refl

  next_parents : parents next.controllers ≡ parents p.controllers
  next_parents = mapped_same (λ d. d.parent) p.controllers k (lined p.lines c) c there refl

  next_widths : (ks : List ℕ) → widths next.controllers ks ≡ widths p.controllers ks
  next_widths ks = widths_kinds next.controllers p.controllers ks next_kinds

  next_lines : next.lines ≡ widths next.controllers next.order
  next_lines =
      let w : width_by (slice_get p.controllers k) ≡ width_of c.kind = ap width_by there in
      let e = widths-append p.controllers p.order (k ∷ []) in
      let l = laid.lines in
      let g = next_widths (p.order ++ k ∷ []) in
      omega arith

  -- the parent of one that may be placed stands in the order
  parent_placed : (o : Option Made) (s : Spot) → slice_get p.controllers s.controller ≡ o → is_placed o ≡ true → Contains p.order s.controller
  parent_placed None s e h = absurd (cc)
  parent_placed (Some d) s e h = parent_line d.first_line refl h
    where
      parent_line : (l : Option ℕ) → d.first_line ≡ l → is_some l ≡ true → Contains p.order s.controller
      parent_line None f g = absurd (cc)
      parent_line (Some line) f g =
          let seat = laid.seats s.controller d line e f in
          rw seat.order (Contains-append_right seat.before (s.controller ∷ seat.rest) s.controller (0, omega arith, refl))

  no_order : (ks : List ℕ) → (length ks == 0) ≡ true → ks ≡ []
  no_order [] e = refl
  no_order (x ∷ xs) e = absurd (let f = no_zero (length xs) e in f)

  may_follow : (q : Parent) → follows p q ≡ true → Follows p.order q
  may_follow Root e = root (no_order p.order e)
  may_follow (At s) e = under s (parent_placed (slice_get p.controllers s.controller) s refl e)
  may_follow Several e = absurd (cc)

  old_seat : (j : ℕ) (d : Made) → Seat p.controllers p.order j d → Seat next.controllers next.order j d
  old_seat j d seat = record {
    before = seat.before;
    rest = seat.rest ++ k ∷ [];
    order = ap (λ ks. ks ++ k ∷ []) seat.order ∙ append_assoc seat.before (j ∷ seat.rest) (k ∷ []);
    line = seat.line ∙ ap Some (sym (next_widths seat.before));
    follows = seat.follows;
  }

  new_seat : follows p c.parent ≡ true → Seat next.controllers next.order k (lined p.lines c)
  new_seat f = record {
    before = p.order;
    rest = [];
    order = refl;
    line = ap Some (laid.lines ∙ sym (next_widths p.order));
    follows = may_follow c.parent f;
  }

  next_seat : follows p c.parent ≡ true → (j : ℕ) (d : Made) (line : ℕ) → d.first_line ≡ Some line
      → ((j ≡ k) × (d ≡ lined p.lines c)) ⊎ (slice_get p.controllers j ≡ Some d) → Seat next.controllers next.order j d
  next_seat f j d line h (inl e) = rw (e.0, e.1) (new_seat f)
  next_seat f j d line h (inr e) = old_seat j d (laid.seats j d line e h)

  next_waiting : is_waiting c ≡ true → waiting next.controllers + 1 ≡ waiting p.controllers
  next_waiting w =
      let e = sum_by-set counts p.controllers k (lined p.lines c) c (slice_get_within p.controllers k c there) in
      let f = counts_one (get_or p.controllers k c) (ap is_waiting (get_or_from_slice_get p.controllers k c c there) ∙ w) in
      omega arith

  -- those in the order and those that wait are no more than all
  next_few : is_waiting c ≡ true → length next.order + waiting next.controllers ≤ length from
  next_few w =
      let f = laid.few in
      let e = next_waiting w in
      let l = length-append p.order (k ∷ []) in
      omega arith

  -- one that is placed stays placed
  still_ranked : (j : ℕ) → Ranked p.controllers j → Ranked next.controllers j
  still_ranked j r = by (set_kept p.controllers k j (lined p.lines c) r.controller r.there)
    where
      by : (slice_get next.controllers j ≡ Some (lined p.lines c)) ⊎ (slice_get next.controllers j ≡ Some r.controller) → Ranked next.controllers j
      by (inl e) = record { controller = lined p.lines c; line = p.lines; there = e; placed = refl }
      by (inr e) = record { controller = r.controller; line = r.line; there = e; placed = r.placed }

  now_ranked : Ranked next.controllers k
  now_ranked = record { controller = lined p.lines c; line = p.lines; there = set_here p.controllers k (lined p.lines c) c there; placed = refl }

  next_ranked : (j i : ℕ) → (slice_get p.order j ≡ Some i) ⊎ ((j ≡ length p.order) × (i ≡ k)) → Ranked next.controllers i
  next_ranked j i (inl e) = still_ranked i (laid.ordered.ranked j i e)
  next_ranked j i (inr e) = subst (Ranked next.controllers) (sym e.1) now_ranked

  -- one that waits is not in the order
  not_yet : {P : Type 0} → is_waiting c ≡ true → Ranked p.controllers k → P
  not_yet w r =
      let e : c ≡ r.controller = same_Some c r.controller (sym there ∙ r.there) in
      let f : is_waiting c ≡ false = ap is_waiting e ∙ ap (λ o. not (is_some o)) r.placed in
      absurd (let o : true ≡ false = sym w ∙ f in cc)

  next_once : is_waiting c ≡ true → (i j m : ℕ) → (slice_get p.order i ≡ Some m) ⊎ ((i ≡ length p.order) × (m ≡ k))
      → (slice_get p.order j ≡ Some m) ⊎ ((j ≡ length p.order) × (m ≡ k)) → i ≡ j
  next_once w i j m (inl e) (inl f) = laid.ordered.once i j m e f
  next_once w i j m (inl e) (inr f) = not_yet w (subst (Ranked p.controllers) f.1 (laid.ordered.ranked i m e))
  next_once w i j m (inr e) (inl f) = not_yet w (subst (Ranked p.controllers) e.1 (laid.ordered.ranked j m f))
  next_once w i j m (inr e) (inr f) = e.0 ∙ sym f.0

  next_ordered : is_waiting c ≡ true → Ordered next.controllers next.order
  next_ordered w = record {
    ranked = λ j i e. next_ranked j i (push_cases p.order k j i e);
    once = λ i j m e f. next_once w i j m (push_cases p.order k i m e) (push_cases p.order k j m f);
  }

  next_laid : is_waiting c ≡ true → follows p c.parent ≡ true → Laid from next
  next_laid w f = record {
    kinds = next_kinds ∙ laid.kinds;
    parents = next_parents ∙ laid.parents;
    lines = next_lines;
    seats = λ j d line e h. next_seat f j d line h (set_cases p.controllers k j (lined p.lines c) d e);
    ordered = next_ordered w;
    few = next_few w;
  }

-- one step more
pub record Step (from : List Made) (p q : Placed) : Type 0 where
  pub laid : Laid from q
  pub fewer : waiting q.controllers + 1 ≡ waiting p.controllers

may_parts : (a b : Bool) → (a && b) ≡ true → (a ≡ true) × (b ≡ true)
may_parts true b e = (refl, e)
may_parts false b e = absurd (cc)

step_at : (from : List Made) (p q : Placed) (k : ℕ) (o : Option Made) → Laid from p → slice_get p.controllers k ≡ o
    → ((c : Made) → o ≡ Some c → may_place p c ≡ true) → place_by k p o ≡ Ok q → Step from p q
step_at from p q k None laid e may h = absurd (let f : Err fault.Root ≡ Ok q = h in cc)
step_at from p q k (Some c) laid e may h =
    let m = may_parts (is_waiting c) (follows p c.parent) (may c refl) in
    let s : Step from p (next from p k c laid e) = record { laid = next_laid from p k c laid e m.0 m.1; fewer = next_waiting from p k c laid e m.0 } in
    let f : next from p k c laid e ≡ q = cc in
    rw (← f) s

step_by : (from : List Made) (p q : Placed) (o : Option ℕ) → Laid from p → next_placed p ≡ o → place_next p o ≡ Ok q → Step from p q
step_by from p q None laid e h = absurd (let f : Err fault.Root ≡ Ok q = h in cc)
step_by from p q (Some k) laid e h = step_at from p q k (slice_get p.controllers k) laid refl (step_may k e) h
  where
    step_may : (k : ℕ) → next_placed p ≡ Some k → (c : Made) → slice_get p.controllers k ≡ Some c → may_place p c ≡ true
    step_may k e c there =
        let at = (first_fit (may_place p) p.controllers).found k in
        let first_at = at.only e in
        ap (may_place p) (sym (get_or_from_slice_get p.controllers k c c there)) ∙ first_at.passes c

-- the state after the first step
first_step : (n : ℕ) (q : Placed) (r : Result Placed BoardFault) → after r (place_more n) ≡ Ok q → (x : Placed) × (r ≡ Ok x) × (place_more n x ≡ Ok q)
first_step n q (Err f) h = absurd (let g : Err f ≡ Ok q = h in cc)
first_step n q (Ok x) h = (x, refl, h)

-- all steps
more : (from : List Made) (n : ℕ) (p q : Placed) → Laid from p → waiting p.controllers ≤ n → place_more n p ≡ Ok q → Laid from q × (waiting q.controllers ≤ 0)
more from zero p q laid w h = let e : p ≡ q = cc in rw (← e) (laid, w)
more from (suc n) p q laid w h =
    let t = first_step n q (place_one p) h in
    let s = step_by from p t.0 (next_placed p) laid refl t.1 in
    let e = s.fewer in
    more from n t.0 q s.laid (omega arith) t.2

starting_laid : (cs : List Made) → Unplaced cs → Laid cs (starting cs)
starting_laid cs u = record {
  kinds = refl;
  parents = refl;
  lines = refl;
  seats = λ k c line e h. absurd (let f = u k c e in cc);
  ordered = record { ranked = λ j k e. absurd (none-some k e); once = λ i j k e f. absurd (none-some k e) };
  few = let w = count_by-le-length is_waiting cs in omega arith;
}

-- once all are placed, each controller has its seat
pub seated : (cs : List Made) (p : Placed) → Unplaced cs → placed cs ≡ Ok p → Seated cs p
seated cs p u h =
    let m = more cs (length cs) (starting cs) p (starting_laid cs u) (count_by-le-length is_waiting cs) h in
    let laid = m.0 in
    record {
      kinds = laid.kinds;
      parents = laid.parents;
      seats = λ k c e.
          let l = is_line c.first_line (no_count is_waiting p.controllers k c m.1 e) in
          laid.seats k c l.0 e l.1;
      ordered = laid.ordered;
      few = let f = laid.few in omega arith;
    }
