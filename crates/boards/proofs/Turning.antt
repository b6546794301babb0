-- What each call of the controller makes of the devices of a board.
use Rattle.std.proofs.Common.{◌≡◌, ℕ, zero, suc, ◌<◌, ◌≤◌, ◌≢◌, Bool, true, false, cond, ◌&&◌, eqb, ◌⊎◌, List, [], ◌∷◌, ◌++◌, length, Some, None, Ok, Err, Option, Result, sym, refl, ap, ◌∙◌, subst, inl, inr, ⊎_elim, arith}
use Rattle.std.proofs.lemmas.Grind.{common_steps}
use Rattle.std.proofs.lemmas.Bool.Decides.{nat_tests}
use Rattle.std.proofs.lemmas.Bool.{cases_eq}
use Rattle.std.proofs.lemmas.List.{get_or-map, get_or-set_same, get_or-set_other}
use Rattle.std.specs.Option.{is_some}
use Rattle.search.specs.First.{FirstFit}
use Rattle.search.proofs.Firsts.{first_fit}
use Rattle.line.specs.declared.row.Row.{Row}
use Rattle.line.specs.declared.row.Step.{Step}
use Rattle.line.specs.declared.row.Step.TheVariants as step
use Rattle.line.specs.Rows.{fresh, waits}
use Rattle.line.specs.Steps.{reset, stepped, after}
use Rattle.history.specs.declared.call.Answer.{Answer}
use Rattle.history.specs.declared.call.Answer.TheVariants as answer
use Rattle.history.specs.declared.call.Call.{Call}
use Rattle.history.specs.declared.call.Call.TheVariants as call
use Rattle.history.specs.declared.call.Event.{Event}
use Rattle.history.specs.Own.{step_by, where_so, at_most_one, own, stands, accepted, names}
use Rattle.history.specs.Law.{answered, NoneInService, ClaimedWell, Fair}
use Rattle.history.proofs.Boards.{extend, clean}
use Rattle.controller.specs.declared.call.CallFault.{CallFault}
use Rattle.controller.specs.declared.call.CallFault.TheVariants as fault
use Rattle.controller.specs.declared.call.Change.{Change}
use Rattle.controller.specs.declared.call.Change.TheVariants.{Drive, Mask, Sense as Sensed, Complete}
use Rattle.controller.specs.Calls.{guard, outcome}
use Rattle.controller.specs.Meaning.{Meaning, Lawful, Changed, Accepted, Refused, Claimed, Named, at, refusal, moved, step_at, all_reset, record_at}
use Rattle.cascade.specs.Places.{within}
use Rattle.boards.specs.declared.device.DeviceFault.{DeviceFault}
use Rattle.boards.specs.declared.device.DeviceFault.TheVariants.{NotInService}
use Rattle.boards.specs.Seats.{Seat, no_seat, line_at, sense_at}
use Rattle.boards.specs.Devices.{row_or, row_at, device_row, Placed, Stood, called, done_or, row_refusal, device_refusal, offered}

-- what the calls of a device make of the controller's answer: an open line refuses a completion only
abbrev pub device_seen : {X : Type 0} → Result X CallFault → Result (Unit {0}) DeviceFault
device_seen (Ok x) = Ok tt
device_seen (Err f) = Err NotInService

-- line k alone becomes a given record
record Put (ls ls' : List (Option Row)) (k : ℕ) (r : Row) : Type 0 where
  pub here : at ls' k ≡ Some r
  pub other : (j : ℕ) → j ≢ k → at ls' j ≡ at ls j

open_line : (x : Option Row) (r : Row) → x ≡ Some r → x ≡ Some (row_or x)
open_line x r e = e ∙ ap (λ (y : Option Row). Some (row_or y)) (sym e)

put_step : (s : Step) (ls ls' : List (Option Row)) (k : ℕ) → at ls k ≡ Some (row_at ls k) → ls' ≡ step_at s ls k → Put ls ls' k (stepped s (row_at ls k))
put_step s ls ls' k o e = record {
  here = ap (λ (xs : List (Option Row)). at xs k) e ∙ get_or-set_same ls k (moved s (at ls k)) None (within ls k (row_at ls k) o) ∙ ap (moved s) o;
  other = λ j n. ap (λ (xs : List (Option Row)). at xs j) e ∙ get_or-set_other ls k j (moved s (at ls k)) None n;
}

module _ (ls ls' : List (Option Row)) (k : ℕ) (r : Row) (p : Put ls ls' k r) where
  put_row : row_at ls' k ≡ r
  put_row = ap row_or p.here

  other_row : (j : ℕ) → j ≢ k → row_at ls' j ≡ row_at ls j
  other_row j n = ap row_or (p.other j n)

  stays_open : (j : ℕ) → at ls j ≡ Some (row_at ls j) → at ls' j ≡ Some (row_at ls' j)
  stays_open j o =
      ⊎_elim (λ (q : j ≡ k). open_line (at ls' j) r (ap (at ls') q ∙ p.here))
      (λ (n : j ≡ k → ⊥). open_line (at ls' j) (row_at ls j) (p.other j n ∙ o))
      (cases_eq j k)

-- equal or not, with the test
told : (j i : ℕ) → ((j ≡ i) × (eqb j i ≡ true)) ⊎ ((j ≢ i) × (eqb j i ≡ false))
told j i =
    ⊎_elim (λ (e : j ≡ i). inl (e, grind (arith, nat_tests)))
    (λ (n : j ≡ i → ⊥). inr (n, grind (arith, nat_tests)))
    (cases_eq j i)

same_number : (a b : ℕ) → eqb a b ≡ true → a ≡ b
same_number a b e = grind (arith, nat_tests)

other_number : (a b : ℕ) → eqb a b ≡ false → a ≢ b
other_number a b e q = grind (arith, nat_tests)

-- the device of a line that is found has that line
found_line : (ds : List Seat) (k i : ℕ) → offered ds (Some k) ≡ Some i → (i < length ds) × (line_at ds i ≡ k)
found_line ds k i e =
    let f : FirstFit (λ d. eqb d.line k) ds (offered ds (Some k)) = first_fit (λ d. eqb d.line k) ds in
    let a = (f.found i).only e in
    (a.within, same_number (line_at ds i) k (a.passes no_seat))

-- where no device of a line is found, none has it
no_line : (ds : List Seat) (k : ℕ) → offered ds (Some k) ≡ None → (i : ℕ) → i < length ds → line_at ds i ≢ k
no_line ds k e i lt =
    let f : FirstFit (λ d. eqb d.line k) ds (offered ds (Some k)) = first_fit (λ d. eqb d.line k) ds in
    other_number (line_at ds i) k (f.none.only e i no_seat lt)

-- some device has the line k, or none has
has_line : (ds : List Seat) (k : ℕ) → ((i : ℕ) × (i < length ds) × (line_at ds i ≡ k)) ⊎ ((i : ℕ) → i < length ds → line_at ds i ≢ k)
has_line ds k = by_search (offered ds (Some k)) refl
  where
    by_search : (o : Option ℕ) → offered ds (Some k) ≡ o → ((i : ℕ) × (i < length ds) × (line_at ds i ≡ k)) ⊎ ((i : ℕ) → i < length ds → line_at ds i ≢ k)
    by_search None e = inr (no_line ds k e)
    by_search (Some i) e = let f = found_line ds k i e in inl (i, f.0, f.1)

module _ (ls ls' : List (Option Row)) (ds : List Seat) (was : Placed ls ds) (i : ℕ) (lt : i < length ds) (r : Row) (p : Put ls ls' (line_at ds i) r) where
  placed_put : Placed ls' ds
  placed_put = record {
    opened = λ j lj. stays_open ls ls' (line_at ds i) r p (line_at ds j) (was.opened j lj);
    apart = was.apart;
    rest = λ k x o f.
        let n : k ≢ line_at ds i = λ q. f i lt (sym q) in
        was.rest k x (sym (p.other k n) ∙ o) f;
  }

rows_put : (ls ls' : List (Option Row)) (ds : List Seat) (i : ℕ) (s : Step) → Placed ls ds → i < length ds → Put ls ls' (line_at ds i) (stepped s (device_row ls ds i)) → (j : ℕ) → j < length ds
    → device_row ls' ds j ≡ after (device_row ls ds j) (at_most_one (where_so (eqb j i) s))
rows_put ls ls' ds i s was lt p j lj =
    let r : Row = stepped s (device_row ls ds i) in
    ⊎_elim
    (λ (t : (j ≡ i) × (eqb j i ≡ true)).
    ap (device_row ls' ds) t.0 ∙ put_row ls ls' (line_at ds i) r p ∙ ap (λ (n : ℕ). stepped s (device_row ls ds n)) (sym t.0)
    ∙ ap (λ (b : Bool). after (device_row ls ds j) (at_most_one (where_so b s))) (sym t.1))
    (λ (t : (j ≢ i) × (eqb j i ≡ false)).
    other_row ls ls' (line_at ds i) r p (line_at ds j) (λ e. t.0 (was.apart j i lj lt e))
    ∙ ap (λ (b : Bool). after (device_row ls ds j) (at_most_one (where_so b s))) (sym t.1))
    (told j i)

-- a call that is a step of device i
stood_put : (ls ls' : List (Option Row)) (ds : List Seat) (h : List Event) (i : ℕ) (s : Step) → Stood ls ds h → i < length ds → ls' ≡ step_at s ls (line_at ds i)
    → (c : Call) (a : Answer) → ((j : ℕ) → step_by j c a ≡ where_so (eqb j i) s) → Fair (length ds) (device_row ls ds) c a → Stood ls' ds (h ++ (answered c a ∷ []))
stood_put ls ls' ds h i s w lt e c a own good =
    let p : Put ls ls' (line_at ds i) (stepped s (device_row ls ds i)) = put_step s ls ls' (line_at ds i) (w.placed.opened i lt) e in
    record {
      placed = placed_put ls ls' ds w.placed i lt (stepped s (device_row ls ds i)) p;
      after = extend (length ds) (sense_at ds) (device_row ls ds) (device_row ls' ds) h c a w.after (record {
        steps = λ j lj. rows_put ls ls' ds i s w.placed lt p j lj ∙ ap (λ (o : Option Step). after (device_row ls ds j) (at_most_one o)) (sym (own j));
        fair = good;
      });
    }

-- a call that is no step of any device
stood_same : (ls : List (Option Row)) (ds : List Seat) (h : List Event) → Stood ls ds h
    → (c : Call) (a : Answer) → ((j : ℕ) → step_by j c a ≡ None) → Fair (length ds) (device_row ls ds) c a → Stood ls ds (h ++ (answered c a ∷ []))
stood_same ls ds h w c a own good = record {
  placed = w.placed;
  after = extend (length ds) (sense_at ds) (device_row ls ds) (device_row ls ds) h c a w.after (record {
    steps = λ j lj. ap (λ (o : Option Step). after (device_row ls ds j) (at_most_one o)) (sym (own j));
    fair = good;
  });
}

-- an open line refuses a change for its record only
open_refusal : (c : Change) (ls : List (Option Row)) (k : ℕ) (r : Row) → at ls k ≡ Some r → refusal c ls k ≡ guard c r
open_refusal c ls k r o = grind (arith, common_steps, nat_tests)

serving : (b : Bool) → cond {A = Option CallFault} b None (Some fault.NotInService) ≡ None → b ≡ true
serving b e = grind arith

not_serving : (b : Bool) (f : CallFault) → cond {A = Option CallFault} b None (Some fault.NotInService) ≡ Some f → b ≡ false
not_serving b f e = grind arith

-- what the record of the device says of a change that its line accepts, or refuses
module _ (ls : List (Option Row)) (ds : List Seat) (i : ℕ) (lt : i < length ds) (was : Placed ls ds) where
  by_record : (c : Change) → refusal c ls (line_at ds i) ≡ guard c (device_row ls ds i)
  by_record c = open_refusal c ls (line_at ds i) (device_row ls ds i) (was.opened i lt)

  complete_served : refusal Complete ls (line_at ds i) ≡ None → (device_row ls ds i).service ≡ true
  complete_served e = serving (device_row ls ds i).service (sym (by_record Complete) ∙ e)

  complete_idle : (f : CallFault) → refusal Complete ls (line_at ds i) ≡ Some f → (device_row ls ds i).service ≡ false
  complete_idle f e = not_serving (device_row ls ds i).service f (sym (by_record Complete) ∙ e)

  -- a device of the board is refused for its record only
  known : (c : Change) → device_refusal c ls ds i ≡ row_refusal c (device_row ls ds i)
  known c = grind (arith, nat_tests)

-- an accepted change of a device's line
change_done : (ds : List Seat) (i : ℕ) (c : Change) (k : Call) (m m' : Meaning) (h : List Event) → i < length ds → called c i ≡ Some k
    → Stood m.lines ds h → Accepted c (line_at ds i) m m' → Stood m'.lines ds (h ++ (answered k answer.Done ∷ []))
change_done ds i (Drive high) k m m' h lt is w a =
    let e : call.Drive i high ≡ k = cc in
    subst (λ (x : Call). Stood m'.lines ds (h ++ (answered x answer.Done ∷ []))) e
    (stood_put m.lines m'.lines ds h i (step.Drive high) w lt a.lines (call.Drive i high) answer.Done (λ j. refl) (λ _. refl, λ le. absurd (omega arith)))
change_done ds i (Mask on) k m m' h lt is w a =
    let e : call.Mask i on ≡ k = cc in
    subst (λ (x : Call). Stood m'.lines ds (h ++ (answered x answer.Done ∷ []))) e
    (stood_put m.lines m'.lines ds h i (step.Mask on) w lt a.lines (call.Mask i on) answer.Done (λ j. refl) (λ _. refl, λ le. absurd (omega arith)))
change_done ds i (Sensed s) k m m' h lt is w a = absurd cc
change_done ds i Complete k m m' h lt is w a =
    let e : call.Complete i ≡ k = cc in
    let on : (device_row m.lines ds i).service ≡ true = complete_served m.lines ds i lt w.placed a.allowed in
    subst (λ (x : Call). Stood m'.lines ds (h ++ (answered x answer.Done ∷ []))) e
    (stood_put m.lines m'.lines ds h i step.Complete w lt a.lines (call.Complete i) answer.Done (λ j. refl)
    (λ _ _. refl, λ _ off. absurd (let z : true ≡ false = sym on ∙ off in cc), λ le. absurd (omega arith)))

-- a refused change of a device's line
change_refused : (ds : List Seat) (i : ℕ) (c : Change) (k : Call) (m m' : Meaning) (f : CallFault) (h : List Event) → i < length ds → called c i ≡ Some k
    → Stood m.lines ds h → Refused c (line_at ds i) f m m' → Stood m'.lines ds (h ++ (answered k (answer.Refused 30) ∷ []))
change_refused ds i (Drive high) k m m' f h lt is w a = absurd (let z : None ≡ Some f = sym (by_record m.lines ds i lt w.placed (Drive high)) ∙ a.why in cc)
change_refused ds i (Mask on) k m m' f h lt is w a = absurd (let z : None ≡ Some f = sym (by_record m.lines ds i lt w.placed (Mask on)) ∙ a.why in cc)
change_refused ds i (Sensed s) k m m' f h lt is w a = absurd cc
change_refused ds i Complete k m m' f h lt is w a =
    let e : call.Complete i ≡ k = cc in
    let off : (device_row m.lines ds i).service ≡ false = complete_idle m.lines ds i lt w.placed f a.why in
    let same : m.lines ≡ m'.lines = ap (λ (x : Meaning). x.lines) (sym a.same) in
    subst (λ (x : Call). Stood m'.lines ds (h ++ (answered x (answer.Refused 30) ∷ []))) e
    (subst (λ (ls : List (Option Row)). Stood ls ds (h ++ (answered (call.Complete i) (answer.Refused 30) ∷ []))) same
    (stood_same m.lines ds h w (call.Complete i) (answer.Refused 30) (λ j. refl)
    (λ _ on. absurd (let z : true ≡ false = sym on ∙ off in cc), λ _ _. refl, λ le. absurd (omega arith))))

-- one change more, accepted or refused
pub turn_change : {X : Type 0} (ds : List Seat) (i : ℕ) (c : Change) (k : Call) (m m' : Meaning) (r : Result X CallFault) (h : List Event) → i < length ds → called c i ≡ Some k
    → Stood m.lines ds h → Changed c (line_at ds i) m m' r → Stood m'.lines ds (h ++ (answered k (done_or (device_seen r)) ∷ []))
turn_change ds i c k m m' (Ok x) h lt is w a = change_done ds i c k m m' h lt is w a
turn_change ds i c k m m' (Err f) h lt is w a = change_refused ds i c k m m' f h lt is w a

-- a device takes, by its record, what its line accepts
accepted_answer : (ds : List Seat) (i : ℕ) (c : Change) (m m' : Meaning) → i < length ds → Placed m.lines ds → Accepted c (line_at ds i) m m' → row_refusal c (device_row m.lines ds i) ≡ None
accepted_answer ds i (Drive high) m m' lt was a = refl
accepted_answer ds i (Mask on) m m' lt was a = refl
accepted_answer ds i (Sensed s) m m' lt was a = refl
accepted_answer ds i Complete m m' lt was a = ap (λ (b : Bool). cond {A = Option DeviceFault} b None (Some NotInService)) (complete_served m.lines ds i lt was a.allowed)

-- a device whose line refuses a call is not in service, and the call is a completion
refused_answer : (ds : List Seat) (i : ℕ) (c : Change) (k : Call) (m m' : Meaning) (f : CallFault) → i < length ds → called c i ≡ Some k
    → Placed m.lines ds → Refused c (line_at ds i) f m m' → row_refusal c (device_row m.lines ds i) ≡ Some NotInService
refused_answer ds i (Drive high) k m m' f lt is was a = absurd (let z : None ≡ Some f = sym (by_record m.lines ds i lt was (Drive high)) ∙ a.why in cc)
refused_answer ds i (Mask on) k m m' f lt is was a = absurd (let z : None ≡ Some f = sym (by_record m.lines ds i lt was (Mask on)) ∙ a.why in cc)
refused_answer ds i (Sensed s) k m m' f lt is was a = absurd cc
refused_answer ds i Complete k m m' f lt is was a = ap (λ (b : Bool). cond {A = Option DeviceFault} b None (Some NotInService)) (complete_idle m.lines ds i lt was f a.why)

-- the answer of a change that the controller was asked for
pub change_answer : {X : Type 0} (ds : List Seat) (i : ℕ) (c : Change) (k : Call) (m m' : Meaning) (r : Result X CallFault) (h : List Event) → i < length ds → called c i ≡ Some k
    → Stood m.lines ds h → Changed c (line_at ds i) m m' r → device_seen r ≡ outcome (device_refusal c m.lines ds i)
change_answer ds i c k m m' (Ok x) h lt is w a = sym (ap outcome (known m.lines ds i lt w.placed c ∙ accepted_answer ds i c m m' lt w.placed a))
change_answer ds i c k m m' (Err f) h lt is w a = sym (ap outcome (known m.lines ds i lt w.placed c ∙ refused_answer ds i c k m m' f lt is w.placed a))

-- a change of a number that is no device's
pub turn_refused : (ls : List (Option Row)) (ds : List Seat) (i : ℕ) (c : Change) (k : Call) (h : List Event) → length ds ≤ i → called c i ≡ Some k → Stood ls ds h
    → Stood ls ds (h ++ (answered k (answer.Refused 24) ∷ []))
turn_refused ls ds i (Drive high) k h le is w =
    let e : call.Drive i high ≡ k = cc in
    subst (λ (x : Call). Stood ls ds (h ++ (answered x (answer.Refused 24) ∷ []))) e
    (stood_same ls ds h w (call.Drive i high) (answer.Refused 24) (λ j. refl) (λ lt. absurd (omega arith), λ _. refl))
turn_refused ls ds i (Mask on) k h le is w =
    let e : call.Mask i on ≡ k = cc in
    subst (λ (x : Call). Stood ls ds (h ++ (answered x (answer.Refused 24) ∷ []))) e
    (stood_same ls ds h w (call.Mask i on) (answer.Refused 24) (λ j. refl) (λ lt. absurd (omega arith), λ _. refl))
turn_refused ls ds i (Sensed s) k h le is w = absurd cc
turn_refused ls ds i Complete k h le is w =
    let e : call.Complete i ≡ k = cc in
    subst (λ (x : Call). Stood ls ds (h ++ (answered x (answer.Refused 24) ∷ []))) e
    (stood_same ls ds h w (call.Complete i) (answer.Refused 24) (λ j. refl) (λ lt _. absurd (omega arith), λ lt _. absurd (omega arith), λ _. refl))

not_true : (b : Bool) → (b ≡ true → ⊥) → b ≡ false
not_true true n = absurd (n refl)
not_true false n = refl

masked_waits : (r : Row) → r.mask ≡ true → waits r ≡ false
masked_waits r e = grind arith

-- a claim
module _ (m : Meaning) (ds : List Seat) (was : Placed m.lines ds) (law : Lawful m) where
  -- with no device in service no open line is
  quiet : NoneInService (length ds) (device_row m.lines ds) → (k : ℕ) (r : Row) → at m.lines k ≡ Some r → r.service ≡ false
  quiet q k r o =
      ⊎_elim
      (λ (t : (i : ℕ) × (i < length ds) × (line_at ds i ≡ k)).
      let e : row_at m.lines k ≡ r = ap row_or o in
      ap (λ (x : Row). x.service) (sym e) ∙ ap (λ (j : ℕ). (row_at m.lines j).service) (sym t.2) ∙ q t.0 t.1)
      (λ (f : (i : ℕ) → i < length ds → line_at ds i ≢ k). let z = was.rest k r o f in z.1)
      (has_line ds k)

  claims_none : m.offer ≡ None → ClaimedWell (length ds) (device_row m.lines ds) (answer.Named None)
  claims_none e = record {
    names = inl refl;
    idle = λ q. record {
      only = λ _ i lt. not_true (waits (device_row m.lines ds i)) (λ w. no_offer (law.eager (quiet q) (line_at ds i) (device_row m.lines ds i, was.opened i lt, w)));
      every = λ _. refl;
    };
  }
    where
      no_offer : is_some m.offer ≡ true → ⊥
      no_offer t = let z : false ≡ true = ap is_some (sym e) ∙ t in absurd cc

  offer_waits : (k : ℕ) → m.offer ≡ Some k → waits (row_at m.lines k) ≡ true
  offer_waits k e = let w = law.waiting k e in ap (λ (x : Option Row). waits (row_or x)) w.1 ∙ w.2

  -- an offered line is a device's
  offer_routed : (k : ℕ) → m.offer ≡ Some k → ((i : ℕ) → i < length ds → line_at ds i ≢ k) → ⊥
  offer_routed k e f =
      let w = law.waiting k e in
      let z = was.rest k w.0 w.1 f in
      let t : true ≡ false = sym w.2 ∙ masked_waits w.0 z.0 in
      absurd cc

  claims_some : (i : ℕ) → i < length ds → m.offer ≡ Some (line_at ds i) → ClaimedWell (length ds) (device_row m.lines ds) (answer.Named (Some i))
  claims_some i lt e =
      let t : waits (device_row m.lines ds i) ≡ true = offer_waits (line_at ds i) e in
      record {
        names = inr (i, refl, lt, t);
        idle = λ q. record {
          only = λ x. absurd cc;
          every = λ f. absurd (let z : true ≡ false = sym t ∙ f i lt in cc);
        };
      }

-- a claim that names line k, by the device that is found for it
claim_found : (ds : List Seat) (m m' : Meaning) (k : ℕ) (h : List Event) (o : Option ℕ) → offered ds (Some k) ≡ o → Lawful m → Stood m.lines ds h → Named k m m'
    → Stood m'.lines ds (h ++ (answered call.Claim (answer.Named o) ∷ []))
claim_found ds m m' k h None is law w a = absurd (offer_routed m ds w.placed law k a.offered (no_line ds k is))
claim_found ds m m' k h (Some i) is law w a =
    let f = found_line ds k i is in
    let e : k ≡ line_at ds i = sym f.1 in
    stood_put m.lines m'.lines ds h i step.Claim w f.0 (a.lines ∙ ap (step_at step.Claim m.lines) e) call.Claim (answer.Named (Some i)) (λ j. refl)
    (claims_some m ds w.placed law i f.0 (a.offered ∙ ap Some e))

-- one claim more
pub turn_claim : (ds : List Seat) (m m' : Meaning) (r : Option ℕ) (h : List Event) → Lawful m → Stood m.lines ds h → Claimed m m' r
    → Stood m'.lines ds (h ++ (answered call.Claim (answer.Named (offered ds r)) ∷ []))
turn_claim ds m m' None h law w a =
    let same : m.lines ≡ m'.lines = ap (λ (x : Meaning). x.lines) (sym a.1) in
    subst (λ (ls : List (Option Row)). Stood ls ds (h ++ (answered call.Claim (answer.Named None) ∷ []))) same
    (stood_same m.lines ds h w call.Claim (answer.Named None) (λ j. refl) (claims_none m ds w.placed law a.0))
turn_claim ds m m' (Some k) h law w a = claim_found ds m m' k h (offered ds (Some k)) refl law w a

-- the answer of a claim is the device of the line that was offered
pub claim_answer : (ds : List Seat) (m m' : Meaning) (r : Option ℕ) → Claimed m m' r → offered ds r ≡ offered ds m.offer
claim_answer ds m m' None a = sym (ap (offered ds) a.0)
claim_answer ds m m' (Some k) a = sym (ap (offered ds) a.offered)

-- an open line after a reset
reset_open : (ls : List (Option Row)) (k : ℕ) (r : Row) → at ls k ≡ Some r → at (all_reset ls) k ≡ Some (reset r)
reset_open ls k r o = get_or-map (moved step.Reset) ls k None None (within ls k r o) ∙ ap (moved step.Reset) o

-- an open line that was reset is masked and not in service
reset_rests : (ls : List (Option Row)) (k : ℕ) (r : Row) → at (all_reset ls) k ≡ Some r → (r.mask ≡ true) × (r.service ≡ false)
reset_rests [] k r e = absurd cc
reset_rests (None ∷ xs) zero r e = absurd cc
reset_rests (Some s ∷ xs) zero r e = let q : reset s ≡ r = cc in (ap (λ (x : Row). x.mask) (sym q), ap (λ (x : Row). x.service) (sym q))
reset_rests (x ∷ xs) (suc k) r e = reset_rests xs k r e

-- a step that may be none keeps the sense, where the step does
one_sense : (b : Bool) (s : Step) (ss : List Step) (r : Row) → ((q : Row) → (stepped s q).sense ≡ q.sense) → ((q : Row) → (after q ss).sense ≡ q.sense)
    → (after r (at_most_one (where_so b s) ++ ss)).sense ≡ r.sense
one_sense true s ss r keeps f = f (stepped s r) ∙ keeps r
one_sense false s ss r keeps f = f r

call_sense : (i : ℕ) (c : Call) (a : Answer) (ss : List Step) (r : Row) → ((q : Row) → (after q ss).sense ≡ q.sense) → (after r (at_most_one (step_by i c a) ++ ss)).sense ≡ r.sense
call_sense i (call.Drive j high) a ss r f = one_sense (accepted a && eqb i j) (step.Drive high) ss r (λ q. refl) f
call_sense i (call.Mask j on) a ss r f = one_sense (accepted a && eqb i j) (step.Mask on) ss r (λ q. refl) f
call_sense i call.Claim a ss r f = one_sense (names i a) step.Claim ss r (λ q. refl) f
call_sense i (call.Complete j) a ss r f = one_sense (accepted a && eqb i j) step.Complete ss r (λ q. refl) f

-- the own steps of a device keep its sense
own_sense : (i : ℕ) (h : List Event) (r : Row) → (after r (own i h)).sense ≡ r.sense
own_sense i [] r = refl
own_sense i (e ∷ h) r = call_sense i e.call e.answer (own i h) r (λ q. own_sense i h q)

-- a reset begins the history anew
pub turn_reset : (ls ls' : List (Option Row)) (ds : List Seat) (h : List Event) → Stood ls ds h → ls' ≡ all_reset ls → Stood ls' ds []
turn_reset ls ls' ds h w e = record {
  placed = record {
    opened = λ i lt. open_line (at ls' (line_at ds i)) (reset (device_row ls ds i)) (made i lt);
    apart = w.placed.apart;
    rest = λ k r o f. reset_rests ls k r (ap (λ (xs : List (Option Row)). at xs k) (sym e) ∙ o);
  };
  after = clean (length ds) (sense_at ds) (device_row ls' ds)
      (λ i lt. ap row_or (made i lt) ∙ ap fresh (ap (λ (x : Row). x.sense) (w.after.stand i lt) ∙ own_sense i h (fresh (sense_at ds i))));
}
  where
    made : (i : ℕ) → i < length ds → at ls' (line_at ds i) ≡ Some (reset (device_row ls ds i))
    made i lt = ap (λ (xs : List (Option Row)). at xs (line_at ds i)) e ∙ reset_open ls (line_at ds i) (device_row ls ds i) (w.placed.opened i lt)

-- no device over lines that were reset
pub no_devices : (ls : List (Option Row)) → ls ≡ all_reset ls → Stood ls [] []
no_devices ls e = record {
  placed = record {
    opened = λ i lt. absurd (omega arith);
    apart = λ i j lt lj q. absurd (omega arith);
    rest = λ k r o f. reset_rests ls k r (ap (λ (xs : List (Option Row)). at xs k) (sym e) ∙ o);
  };
  after = clean 0 (sense_at []) (device_row ls []) (λ i lt. absurd (omega arith));
}

open_record : (ls : List (Option Row)) (k : ℕ) (r : Row) → at ls k ≡ Some r → record_at ls k ≡ Ok r
open_record ls k r o = grind (arith, common_steps, nat_tests)

-- the record of a device is what the controller answers for its line, and how the history says that it stands
pub record_answer : (ls : List (Option Row)) (ds : List Seat) (i : ℕ) (h : List Event) → i < length ds → Stood ls ds h → record_at ls (line_at ds i) ≡ Ok (device_row ls ds i)
record_answer ls ds i h lt w = open_record ls (line_at ds i) (device_row ls ds i) (w.placed.opened i lt)

pub record_stands : (ls : List (Option Row)) (ds : List Seat) (i : ℕ) (h : List Event) → i < length ds → Stood ls ds h → device_row ls ds i ≡ stands (sense_at ds i) i h
record_stands ls ds i h lt w = w.after.stand i lt
