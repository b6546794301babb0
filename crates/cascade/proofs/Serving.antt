-- Claims, completions and questions of a pair.
use Rattle.std.proofs.Common.{◌≡◌, ℕ, ◌+◌, ◌-◌, ◌^◌, ◌<◌, ◌≤◌, min, Bool, true, false, cond, not, eqb, List, ◌++◌, length, set, Some, None, Option, Result, sym, refl, ap, ◌∙◌, arith}
use Rattle.std.proofs.lemmas.Grind.{common_steps}
use Rattle.std.proofs.lemmas.Bool.Decides.{nat_tests}
use Rattle.std.proofs.lemmas.List.{length-set, get_or-set_same, set-set}
use Rattle.std.specs.Option.{option_eq, option_map}
use Rattle.line.specs.declared.row.Row.{Row}
use Rattle.line.specs.declared.row.Step.TheVariants as step
use Rattle.line.specs.Rows.{waits}
use Rattle.line.specs.Steps.{claimed, completed}
use Rattle.controller.specs.declared.call.CallFault.{CallFault}
use Rattle.controller.specs.declared.call.Change.{Change}
use Rattle.controller.specs.declared.call.Change.TheVariants.{Drive, Mask, Sense, Complete}
use Rattle.controller.specs.Calls.{guard, step_of}
use Rattle.controller.specs.Meaning.{Meaning, Lawful, Changed, Accepted, Named, Serves, at, refusal, moved, step_at}
use Rattle.cascade.specs.Pairs.{pair_offer, pair_lines, cascaded, pair, used, busy, Linked, Tied, Bound, Settled, Released}
use Rattle.cascade.specs.Places.{within, step_left, step_right, busy_set}
use Rattle.cascade.specs.Pairing.{offer_here, offer_there, parent_moved, child_offers, child_link}

waiting_unused : (r : Row) → waits r ≡ true → used (Some r) ≡ 0
waiting_unused r e = grind arith

offered_within : (m : Meaning) → Lawful m → (i : ℕ) → m.offer ≡ Some i → i < length m.lines
offered_within m l i e = let w = l.waiting i e in grind (arith, within)

-- the test whether i is the wired line
pub is_wired : (o : Option ℕ) (i : ℕ) → false ≡ not (option_eq eqb o (Some i)) → o ≡ Some i
is_wired o i e = grind (arith, nat_tests)

pub not_wired : (o : Option ℕ) (i : ℕ) → true ≡ not (option_eq eqb o (Some i)) → o ≡ Some i → ⊥
not_wired o i e is = grind (arith, nat_tests)

-- the parent's claim names a line that is not wired
pub claims_other : (p p' c : Meaning) (o : Option ℕ) (i : ℕ) → (o ≡ Some i → ⊥) → Lawful p → Bound p c o → Named i p p' → Bound p' c o × Named i (pair p c o) (pair p' c o)
claims_other p p' c None i n lp b a = (tt, a)
claims_other p p' c (Some k) i n lp t a =
    let h : i < length p.lines = offered_within p lp i a.offered in
    let ne : i ≡ k → ⊥ = λ q. n (ap Some (sym q)) in
    let m : Named i (cascaded p c k) (cascaded p' c k) = record {
      offered = ap (λ (q : Option ℕ). pair_offer k (length p.lines) q c.offer) a.offered ∙ offer_there i k (length p.lines) c.offer ne;
      lines = ap (λ (ls : List (Option Row)). pair_lines k ls c.lines) a.lines ∙ step_left p.lines c.lines k step.Claim i h ne;
    } in
    (parent_moved p p' c k step.Claim i ne a.lines t, m)

-- where it names the wired line k, the child has an offer
pub claims_none : (p p' c : Meaning) (o : Option ℕ) (k : ℕ) → o ≡ Some k → Lawful p → Lawful c → Bound p c o → Named k p p' → c.offer ≡ None → ⊥
claims_none p p' c o k is lp lc b a e =
    let t : Tied p c k = rw is at b in
    let s = child_offers p c k lp lc t a.offered in
    grind arith

-- after both claims one line of the child is in service, and so is k
pub claims_link : (p p' c c' : Meaning) (o : Option ℕ) (k d : ℕ) → o ≡ Some k → Lawful p → Lawful c → Bound p c o → Named k p p' → Named d c c' → Linked p' c' k
claims_link p p' c c' o k d is lp lc b a n =
    let t : Tied p c k = rw is at b in
    let r = t.link.row in
    let s : at p.lines k ≡ Some r = t.link.slot in
    let h : k < length p.lines = within p.lines k r s in
    let e : p'.lines ≡ set p.lines k (Some (claimed r)) = a.lines ∙ ap (λ (y : Option Row). set p.lines k (moved step.Claim y)) s in
    let wk = lp.waiting k a.offered in
    let s' : at p.lines k ≡ Some wk.0 = wk.1 in
    let same : wk.0 ≡ r = cc in
    let kw : waits r ≡ true = rw same at wk.2 in
    let wd = lc.waiting d n.offered in
    let hd : d < length c.lines = within c.lines d wd.0 wd.1 in
    let u : used (at c.lines d) ≡ 0 = ap used wd.1 ∙ waiting_unused wd.0 wd.2 in
    let v : used (moved step.Claim (at c.lines d)) ≡ 1 = ap (λ (y : Option Row). used (moved step.Claim y)) wd.1 in
    record {
      row = claimed r;
      slot = ap (λ (ls : List (Option Row)). at ls k) e ∙ get_or-set_same p.lines k (Some (claimed r)) None h;
      follows = t.link.follows;
      unmasked = t.link.unmasked;
      service = ap busy n.lines ∙ omega (arith, busy_set c.lines d (moved step.Claim (at c.lines d)) hd, u, v, t.link.service, waiting_unused r kw);
      room = omega (arith, ap (length {A = Option Row}) e, length-set p.lines k (Some (claimed r)), ap (length {A = Option Row}) n.lines, length-set c.lines d (moved step.Claim (at c.lines d)), t.link.room);
    }

pub claims_child : (p p₁ p₂ c c' : Meaning) (o : Option ℕ) (k d w : ℕ) → o ≡ Some k → w ≡ length p₁.lines → Named k p p₁ → Named d c c' → Settled p₁ p₂ c' k → Bound p₂ c' o × Named (w + d) (pair p c o) (pair p₂ c' o)
claims_child p p₁ p₂ c c' o k d w is ew a n s =
    let ew' : w ≡ length p.lines = ew ∙ ap (length {A = Option Row}) a.lines ∙ length-set p.lines k (moved step.Claim (at p.lines k)) in
    let others : set p₂.lines k None ≡ set p.lines k None = s.others ∙ ap (λ (ls : List (Option Row)). set ls k None) a.lines ∙ set-set p.lines k (moved step.Claim (at p.lines k)) None in
    let back : (length p.lines + d) - length p.lines ≡ d = omega arith in
    let moves : pair_lines k p.lines (step_at step.Claim c.lines d) ≡ step_at step.Claim (pair_lines k p.lines c.lines) (length p.lines + d) =
    ap (λ (j : ℕ). pair_lines k p.lines (step_at step.Claim c.lines j)) (sym back) ∙ step_right p.lines c.lines k step.Claim (length p.lines + d) (omega arith) in
    let m : Named (length p.lines + d) (cascaded p c k) (cascaded p₂ c' k) = record {
      offered = ap (λ (x : Option ℕ). pair_offer k (length p.lines) x c.offer) a.offered ∙ offer_here k k (length p.lines) c.offer refl ∙ ap (option_map (λ x. length p.lines + x)) n.offered;
      lines = ap (λ (ls : List (Option Row)). ls ++ c'.lines) others ∙ ap (λ (ls : List (Option Row)). pair_lines k p.lines ls) n.lines ∙ moves;
    } in
    rw (is, ew') (s.tied, m)

-- a change at an open line whose record takes it is accepted
pub accepted_at : {X : Type 0} (ch : Change) (k : ℕ) (p p' : Meaning) (row : Row) (r : Result X CallFault) → at p.lines k ≡ Some row → guard ch row ≡ None → Changed ch k p p' r → p'.lines ≡ step_at (step_of ch) p.lines k
accepted_at ch k p p' row r s ok a = grind (arith, common_steps, nat_tests)

-- a completion that is accepted is of a line in service
served : (ls : List (Option Row)) (j : ℕ) → refusal Complete ls j ≡ None → Serves ls j
served ls j e = grind (arith, common_steps, nat_tests)

one_true : (b : Bool) → 1 ≤ cond {A = ℕ} b 1 0 → b ≡ true
one_true true h = refl
one_true false h = absurd (let f : ⊥ = omega arith in f)

most_one : (b : Bool) → cond {A = ℕ} b 1 0 ≤ 1
most_one true = omega arith
most_one false = omega arith

-- the parent after a change of the child's, k not driven yet
pub record Loose (p p₁ c' : Meaning) (k : ℕ) : Type 0 where
  pub link : Linked p₁ c' k
  pub sized : length p₁.lines ≡ length p.lines
  pub others : set p₁.lines k None ≡ set p.lines k None

-- the parent was left as it is
unmoved : (p p₁ c' : Meaning) (k : ℕ) → p₁ ≡ p → Linked p c' k → Loose p p₁ c' k
unmoved p p₁ c' k e l = grind arith

completes : (p p₁ c c' : Meaning) (k j : ℕ) → Tied p c k → Accepted Complete j c c' → Released Complete k p p₁ → Loose p p₁ c' k
completes p p₁ c c' k j t a x =
    let row = t.link.row in
    let s : at p.lines k ≡ Some row = t.link.slot in
    let h : k < length p.lines = within p.lines k row s in
    let y = served c.lines j a.allowed in
    let hj : j < length c.lines = within c.lines j y.0 y.1 in
    let u : used (at c.lines j) ≡ 1 = ap used y.1 ∙ ap (λ (b : Bool). cond {A = ℕ} b 1 0) y.2 in
    let v : used (moved step.Complete (at c.lines j)) ≡ 0 = ap (λ (q : Option Row). used (moved step.Complete q)) y.1 in
    let bs = busy_set c.lines j (moved step.Complete (at c.lines j)) hj in
    let on : row.service ≡ true = one_true row.service (omega (arith, bs, u, v, t.link.service)) in
    let z : busy (step_at step.Complete c.lines j) ≡ 0 = omega (arith, bs, u, v, t.link.service, most_one row.service) in
    let e : p₁.lines ≡ set p.lines k (Some (completed row)) = x row s on ∙ ap (λ (q : Option Row). set p.lines k (moved step.Complete q)) s in
    record {
      link = record {
        row = completed row;
        slot = ap (λ (ls : List (Option Row)). at ls k) e ∙ get_or-set_same p.lines k (Some (completed row)) None h;
        follows = t.link.follows;
        unmasked = t.link.unmasked;
        service = ap busy a.lines ∙ z;
        room = omega (arith, ap (length {A = Option Row}) e, length-set p.lines k (Some (completed row)), ap (length {A = Option Row}) a.lines, length-set c.lines j (moved step.Complete (at c.lines j)), t.link.room);
      };
      sized = ap (length {A = Option Row}) e ∙ length-set p.lines k (Some (completed row));
      others = ap (λ (ls : List (Option Row)). set ls k None) e ∙ set-set p.lines k (Some (completed row)) None;
    }

-- after an accepted change of the child's line the tie can be made again
pub loosened : (ch : Change) (p p₁ c c' : Meaning) (k j : ℕ) → Tied p c k → Accepted ch j c c' → Released ch k p p₁ → Loose p p₁ c' k
loosened (Drive h) p p₁ c c' k j t a x = unmoved p p₁ c' k x (child_link p c c' k (step.Drive h) j (λ r. refl) a.lines t.link)
loosened (Mask m) p p₁ c c' k j t a x = unmoved p p₁ c' k x (child_link p c c' k (step.Mask m) j (λ r. refl) a.lines t.link)
loosened (Sense s) p p₁ c c' k j t a x = unmoved p p₁ c' k x (child_link p c c' k (step.Sense s) j (λ r. refl) a.lines t.link)
loosened Complete p p₁ c c' k j t a x = completes p p₁ c c' k j t a x

pub settles_after : {p p₁ p₂ c : Meaning} {k : ℕ} → Loose p p₁ c k → Settled p₁ p₂ c k → Settled p p₂ c k
settles_after d s = grind arith

pub claims_room : (p₁ c c' : Meaning) (k d w : ℕ) → w ≡ length p₁.lines → Lawful c → Linked p₁ c' k → Named d c c' → w + d < 256
claims_room p₁ c c' k d w ew lc l n = let o = offered_within c lc d n.offered in grind (arith, common_steps)

pub claims_named : {m m' : Meaning} (w d r : ℕ) → r ≡ min (w + d) (2 ^ 64 - 1) → w + d ≤ 256 → Named (w + d) m m' → Named r m m'
claims_named w d r e h n = grind arith
