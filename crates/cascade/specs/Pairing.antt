-- A pair of lawful controllers is lawful, and a change of a line of the pair is one of its part's.
use Rattle.std.specs.Prelude.{◌≡◌, ℕ, ◌+◌, ◌-◌, ◌<◌, ◌≤◌, Bool, true, false, not, ◌&&◌, List, length, is_some, Some, None, Ok, Err, Option, Result, ◌≢◌, nat_lt, slice_set, refl}
use Rattle.std.proofs.Common.{sym, ap, ◌∙◌, ⊎_elim, arith}
use Rattle.std.proofs.lemmas.Grind.{common_steps}
use Rattle.std.proofs.lemmas.Bool.Decides.{nat_tests}
use Rattle.std.proofs.lemmas.List.{length-set, get_or-set_same, get_or-set_other, set-set}
use Rattle.std.proofs.lemmas.Bool.{cases_eq, lt-ltb, and_from, not_from_false}
use Rattle.std.specs.Option.{option_map}
use Rattle.line.specs.declared.row.Row.{Row}
use Rattle.line.specs.declared.row.Step.{Step}
use Rattle.line.specs.Rows.{waits}
use Rattle.line.specs.Steps.{stepped, driven}
use Rattle.controller.specs.declared.call.CallFault.{CallFault}
use Rattle.controller.specs.declared.call.CallFault.TheVariants as fault
use Rattle.controller.specs.declared.call.Change.{Change}
use Rattle.controller.specs.declared.call.Change.TheVariants.{Drive}
use Rattle.controller.specs.Calls.{step_of}
use Rattle.controller.specs.Meaning.{Meaning, Lawful, Changed, Accepted, Refused, Waits, at, refusal, moved, step_at}
use Rattle.cascade.specs.Pairs.{pair_offer, pair_lines, cascaded, pair, Linked, Tied, Bound, Settled}
use Rattle.cascade.specs.declared.pair.Side.TheVariants.{Parent, Wired, Child}
use Rattle.cascade.specs.Sides.{side_of}
use Rattle.cascade.specs.SidesLemmas.{parent_side, wired_side, child_side}
use Rattle.cascade.specs.Places.{within, left, right, gap, split, pair_wide, refusal_left, refusal_right, step_left, step_right, busy_step, unused, zero_busy}

requested : (r : Row) → waits r ≡ true → r.request ≡ true
requested r e = grind arith

pub offer_here : (i k w : ℕ) (co : Option ℕ) → i ≡ k → pair_offer k w (Some i) co ≡ option_map (λ c. w + c) co
offer_here i k w co q = grind (arith, nat_tests)

pub offer_there : (i k w : ℕ) (co : Option ℕ) → (i ≢ k) → pair_offer k w (Some i) co ≡ Some i
offer_there i k w co n = grind (arith, nat_tests)

module _ (p c : Meaning) (k : ℕ) (lp : Lawful p) (lc : Lawful c) (t : Tied p c k) where
  k_in : k < length p.lines
  k_in = within p.lines k t.link.row t.link.slot

  -- k is requested exactly while the child has an offer
  k_request : t.link.row.request ≡ is_some c.offer
  k_request = (lp.legal k t.link.row t.link.slot).follows t.link.follows ∙ t.level

  -- where the parent offers k, the child has an offer
  pub child_offers : p.offer ≡ Some k → is_some c.offer ≡ true
  child_offers e =
      let w = lp.waiting k e in
      let s : at p.lines k ≡ Some t.link.row = t.link.slot in
      let s' : at p.lines k ≡ Some w.0 = w.1 in
      let q : w.0 ≡ t.link.row = cc in
      let r : w.0.request ≡ true = requested w.0 w.2 in
      let r' : t.link.row.request ≡ true = rw q at r in
      sym k_request ∙ r'

  from_child : (d i : ℕ) → c.offer ≡ Some d → length p.lines + d ≡ i → Waits (pair_lines k p.lines c.lines) i
  from_child d i e q =
      let w = lc.waiting d e in
      let n : i - length p.lines ≡ d = omega arith in
      (w.0, right p.lines c.lines k i (omega arith) ∙ ap (at c.lines) n ∙ w.1, w.2)

  from_parent : (i : ℕ) → p.offer ≡ Some i → (i ≢ k) → Waits (pair_lines k p.lines c.lines) i
  from_parent i e n =
      let w = lp.waiting i e in
      (w.0, left p.lines c.lines k i (within p.lines i w.0 w.1) n ∙ w.1, w.2)

  waiting_here : (co : Option ℕ) (i : ℕ) → c.offer ≡ co → option_map (λ d. length p.lines + d) co ≡ Some i → Waits (pair_lines k p.lines c.lines) i
  waiting_here None i ec e = absurd cc
  waiting_here (Some d) i ec e = let q : length p.lines + d ≡ i = cc in from_child d i ec q

  waiting_at : (po : Option ℕ) (i : ℕ) → p.offer ≡ po → pair_offer k (length p.lines) po c.offer ≡ Some i → Waits (pair_lines k p.lines c.lines) i
  waiting_at None i ep e = absurd cc
  waiting_at (Some j) i ep e =
      ⊎_elim
      (λ (q : j ≡ k). waiting_here c.offer i refl (sym (offer_here j k (length p.lines) c.offer q) ∙ e))
      (λ (n : j ≡ k → ⊥).
      let q : Some j ≡ Some i = sym (offer_there j k (length p.lines) c.offer n) ∙ e in
      let q' : j ≡ i = cc in
      from_parent i (ep ∙ q) (λ (z : i ≡ k). n (q' ∙ z)))
      (cases_eq j k)

  mapped_some : (w : ℕ) (co : Option ℕ) → is_some co ≡ true → is_some (option_map (λ d. w + d) co) ≡ true
  mapped_some w co e = grind arith

  offers : (po : Option ℕ) → p.offer ≡ po → is_some po ≡ true → is_some (pair_offer k (length p.lines) po c.offer) ≡ true
  offers None ep e = e
  offers (Some j) ep e =
      ⊎_elim
      (λ (q : j ≡ k). ap is_some (offer_here j k (length p.lines) c.offer q) ∙ mapped_some (length p.lines) c.offer (child_offers (ep ∙ ap Some q)))
      (λ (n : j ≡ k → ⊥). ap is_some (offer_there j k (length p.lines) c.offer n))
      (cases_eq j k)

  module _ (idle : (i : ℕ) (r : Row) → at (pair_lines k p.lines c.lines) i ≡ Some r → r.service ≡ false) where
    child_idle : (i : ℕ) (r : Row) → at c.lines i ≡ Some r → r.service ≡ false
    child_idle i r e =
        let n : (length p.lines + i) - length p.lines ≡ i = omega arith in
        idle (length p.lines + i) r (right p.lines c.lines k (length p.lines + i) (omega arith) ∙ ap (at c.lines) n ∙ e)

    k_idle : t.link.row.service ≡ false
    k_idle = unused t.link.row (sym t.link.service ∙ zero_busy c.lines child_idle)

    parent_idle : (i : ℕ) (r : Row) → at p.lines i ≡ Some r → r.service ≡ false
    parent_idle i r e =
        ⊎_elim
        (λ (q : i ≡ k).
        let s : at p.lines k ≡ Some t.link.row = t.link.slot in
        let q' : r ≡ t.link.row = cc in
        ap (λ (x : Row). x.service) q' ∙ k_idle)
        (λ (n : i ≡ k → ⊥). idle i r (left p.lines c.lines k i (within p.lines i r e) n ∙ e))
        (cases_eq i k)

    k_waits : is_some c.offer ≡ true → waits t.link.row ≡ true
    k_waits e =
        and_from t.link.row.request (not t.link.row.service && not t.link.row.mask) (k_request ∙ e)
        (and_from (not t.link.row.service) (not t.link.row.mask) (not_from_false t.link.row.service k_idle) (not_from_false t.link.row.mask t.link.unmasked))

    pair_eager : (i : ℕ) → Waits (pair_lines k p.lines c.lines) i → is_some p.offer ≡ true
    pair_eager i w =
        ⊎_elim
        (λ (h : (i < length p.lines) × (i ≢ k) × (at p.lines i ≡ Some w.0)). lp.eager parent_idle i (w.0, h.2, w.2))
        (λ (h : (length p.lines ≤ i) × (at c.lines (i - length p.lines) ≡ Some w.0)).
        lp.eager parent_idle k (t.link.row, t.link.slot, k_waits (lc.eager child_idle (i - length p.lines) (w.0, h.1, w.2))))
        (split p.lines c.lines k k_in i w.0 w.1)

  cascade_lawful : Lawful (cascaded p c k)
  cascade_lawful = record {
    legal = λ i r e.
        ⊎_elim
        (λ (h : (i < length p.lines) × (i ≢ k) × (at p.lines i ≡ Some r)). lp.legal i r h.2)
        (λ (h : (length p.lines ≤ i) × (at c.lines (i - length p.lines) ≡ Some r)). lc.legal (i - length p.lines) r h.1)
        (split p.lines c.lines k k_in i r e);
    waiting = λ i e. waiting_at p.offer i refl e;
    eager = λ idle i w. offers p.offer refl (pair_eager idle i w);
  }

pub pair_lawful : (p c : Meaning) (o : Option ℕ) → Lawful p → Lawful c → Bound p c o → Lawful (pair p c o)
pair_lawful p c None lp lc b = lp
pair_lawful p c (Some k) lp lc b = cascade_lawful p c k lp lc b

-- a change of another line of the parent
parent_changes : {X : Type 0} (p p' c : Meaning) (k : ℕ) (ch : Change) (i : ℕ) (r : Result X CallFault) → i < length p.lines → (i ≢ k) → Changed ch i p p' r → Changed ch i (cascaded p c k) (cascaded p' c k) r
parent_changes p p' c k ch i (Ok x) h n a = record {
  allowed = refusal_left p.lines c.lines k ch i h n ∙ a.allowed;
  lines = ap (λ (ls : List (Option Row)). pair_lines k ls c.lines) a.lines ∙ step_left p.lines c.lines k (step_of ch) i h n;
}
parent_changes p p' c k ch i (Err e) h n a = record {
  why = refusal_left p.lines c.lines k ch i h n ∙ a.why;
  same = ap (λ (m : Meaning). cascaded m c k) a.same;
}

pub parent_moved : (p p' c : Meaning) (k : ℕ) (s : Step) (i : ℕ) → (i ≢ k) → p'.lines ≡ step_at s p.lines i → Tied p c k → Tied p' c k
parent_moved p p' c k s i n e t = record {
  link = record {
    row = t.link.row;
    slot = ap (λ (ls : List (Option Row)). at ls k) e ∙ get_or-set_other p.lines i k (moved s (at p.lines i)) None (λ (q : k ≡ i). n (sym q)) ∙ t.link.slot;
    follows = t.link.follows;
    unmasked = t.link.unmasked;
    service = t.link.service;
    room = omega (arith, ap (length {A = Option Row}) e, length-set p.lines i (moved s (at p.lines i)), t.link.room);
  };
  level = t.level;
}

parent_tied : {X : Type 0} (p p' c : Meaning) (k : ℕ) (ch : Change) (i : ℕ) (r : Result X CallFault) → (i ≢ k) → Changed ch i p p' r → Tied p c k → Tied p' c k
parent_tied p p' c k ch i (Ok x) n a t = parent_moved p p' c k (step_of ch) i n a.lines t
parent_tied p p' c k ch i (Err e) n a t = rw a.same t

-- a step of a line of the child that leaves its service
pub child_link : (p c c' : Meaning) (k : ℕ) (s : Step) (i : ℕ) → ((r : Row) → (stepped s r).service ≡ r.service) → c'.lines ≡ step_at s c.lines i → Linked p c k → Linked p c' k
child_link p c c' k s i keeps e l = let b = busy_step s keeps c.lines i in grind (arith, common_steps)

-- an accepted change of a line of the child, after which the parent differs at k only
child_accepts : (p p' c c' : Meaning) (k : ℕ) (ch : Change) (i : ℕ) → length p.lines ≤ i → Accepted ch (i - length p.lines) c c' → slice_set p'.lines k None ≡ slice_set p.lines k None → Accepted ch i (cascaded p c k) (cascaded p' c' k)
child_accepts p p' c c' k ch i h a o =
    let r = refusal_right p.lines c.lines k ch i h in
    let s = step_right p.lines c.lines k (step_of ch) i h in
    record { allowed = cc; lines = cc }

child_refuses : (p c c' : Meaning) (k : ℕ) (ch : Change) (i : ℕ) (e : CallFault) → length p.lines ≤ i → Refused ch (i - length p.lines) e c c' → Refused ch i e (cascaded p c k) (cascaded p c' k)
child_refuses p c c' k ch i e h a = record {
  why = refusal_right p.lines c.lines k ch i h ∙ a.why;
  same = ap (λ (m : Meaning). cascaded p m k) a.same;
}

-- driving k to whether the child has an offer makes the tie
pub settled : {X : Type 0} (p p' c : Meaning) (k : ℕ) (h : Bool) (r : Result X CallFault) → h ≡ is_some c.offer → Linked p c k → Changed (Drive h) k p p' r → Settled p p' c k
settled p p' c k h (Err e) q l a =
    let n = within p.lines k l.row l.slot in
    let b : nat_lt k (length p.lines) ≡ true = lt-ltb k (length p.lines) n in
    let s : at p.lines k ≡ Some l.row = l.slot in
    let y : refusal (Drive h) p.lines k ≡ Some e = a.why in
    absurd cc
settled p p' c k h (Ok x) q l a =
    let n = within p.lines k l.row l.slot in
    let e : p'.lines ≡ slice_set p.lines k (Some (driven h l.row)) = a.lines ∙ ap (λ (y : Option Row). slice_set p.lines k (moved (step_of (Drive h)) y)) l.slot in
    record {
      tied = record {
        link = record {
          row = driven h l.row;
          slot = ap (λ (ls : List (Option Row)). at ls k) e ∙ get_or-set_same p.lines k (Some (driven h l.row)) None n;
          follows = l.follows;
          unmasked = l.unmasked;
          service = l.service;
          room = omega (arith, ap (length {A = Option Row}) e, length-set p.lines k (Some (driven h l.row)), l.room);
        };
        level = q;
      };
      sized = ap (length {A = Option Row}) e ∙ length-set p.lines k (Some (driven h l.row));
      others = ap (λ (ls : List (Option Row)). slice_set ls k None) e ∙ set-set p.lines k (Some (driven h l.row)) None;
    }

-- The same of a value that has its wired line as an option, by the side on which the line stands.
pub at_wired : (p c : Meaning) (o : Option ℕ) (i : ℕ) (ch : Change) → Wired ≡ side_of (length p.lines) o i → Bound p c o → Refused ch i fault.Wired (pair p c o) (pair p c o)
at_wired p c None i ch e b = absurd cc
at_wired p c (Some k) i ch e t =
    let q : i ≡ k = wired_side (length p.lines) k i e in
    let h = within p.lines k t.link.row t.link.slot in
    let a : nat_lt k (length (pair_lines k p.lines c.lines)) ≡ true = lt-ltb k (length (pair_lines k p.lines c.lines)) (omega (arith, pair_wide p.lines c.lines k)) in
    let n : at (pair_lines k p.lines c.lines) k ≡ None = gap p.lines c.lines k h in
    let v : refusal ch (pair_lines k p.lines c.lines) k ≡ Some fault.Wired = rw (a, n) in
    rw q (record { why = v; same = refl })

pub at_parent : {X : Type 0} (p p' c : Meaning) (o : Option ℕ) (ch : Change) (i : ℕ) (r : Result X CallFault) → Parent ≡ side_of (length p.lines) o i → Bound p c o → Changed ch i p p' r → Bound p' c o × Changed ch i (pair p c o) (pair p' c o) r
at_parent p p' c None ch i r e b a = (tt, a)
at_parent p p' c (Some k) ch i r e t a =
    let h = parent_side (length p.lines) k i e in
    (parent_tied p p' c k ch i r h.1 a t, parent_changes p p' c k ch i r h.0 h.1 a)

pub at_child : (p p' c c' : Meaning) (o : Option ℕ) (k j : ℕ) (ch : Change) (i : ℕ) → Child k j ≡ side_of (length p.lines) o i → Accepted ch j c c' → Settled p p' c' k → Bound p' c' o × Accepted ch i (pair p c o) (pair p' c' o)
at_child p p' c c' None k j ch i e a s = absurd cc
at_child p p' c c' (Some l) k j ch i e a s =
    let h = child_side (length p.lines) l k j i e in
    let a' : Accepted ch (i - length p.lines) c c' = rw h.1 at a in
    rw h.0 (s.tied, child_accepts p p' c c' k ch i h.2 a' s.others)

pub at_child_refused : (p c c' : Meaning) (o : Option ℕ) (k j : ℕ) (ch : Change) (i : ℕ) (f : CallFault) → Child k j ≡ side_of (length p.lines) o i → Bound p c o → Refused ch j f c c' → Bound p c' o × Refused ch i f (pair p c o) (pair p c' o)
at_child_refused p c c' None k j ch i f e b a = absurd cc
at_child_refused p c c' (Some l) k j ch i f e t a =
    let h = child_side (length p.lines) l k j i e in
    let a' : Refused ch (i - length p.lines) f c c' = rw h.1 at a in
    (rw a.same t, child_refuses p c c' l ch i f h.2 a')

-- the tie of a line of the child names the wired line
pub child_tied : (p c : Meaning) (o : Option ℕ) (k j i : ℕ) → Child k j ≡ side_of (length p.lines) o i → Bound p c o → Tied p c k
child_tied p c None k j i e b = absurd cc
child_tied p c (Some l) k j i e t = rw (← (child_side (length p.lines) l k j i e).0) t
