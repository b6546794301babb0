-- What setting the senses of the devices makes of lines that were reset.
use Rattle.std.proofs.Common.{◌≡◌, ℕ, zero, suc, ◌+◌, ◌<◌, ◌≤◌, true, false, List, [], ◌∷◌, ◌++◌, length, get_or, map, take, Some, None, Option, Result, sym, refl, ap, ◌∙◌, subst, ⊎_elim, arith}
use Rattle.std.specs.Prelude.{is_some, ◌≢◌}
use Rattle.std.proofs.Math.Seq.{take-length}
use Rattle.std.proofs.lemmas.Bool.{cases_eq}
use Rattle.std.proofs.lemmas.List.{get_or-map, get_or-set_same, get_or-set_other, get_or-take, length-take-le, take_more}
use Rattle.line.specs.declared.row.Row.{Row}
use Rattle.line.specs.declared.row.Sense.{Sense as Sensing}
use Rattle.line.specs.declared.row.Step.TheVariants as step
use Rattle.line.specs.Rows.{fresh}
use Rattle.line.specs.Steps.{sensed}
use Rattle.history.proofs.Boards.{clean}
use Rattle.controller.specs.declared.call.CallFault.{CallFault}
use Rattle.controller.specs.declared.call.Change.TheVariants.{Sense}
use Rattle.controller.specs.Calls.{guard}
use Rattle.controller.specs.Meaning.{Meaning, Changed, at, moved, step_at, all_reset}
use Rattle.cascade.specs.Places.{within}
use Rattle.cascade.proofs.Serving.{accepted_at}
use Rattle.boards.specs.declared.device.Device.{Device}
use Rattle.boards.specs.Seats.{Seat, line_at, no_seat, seat, sense_at}
use Rattle.boards.specs.Devices.{row_or, device_row, Opened, Stood, senses_set}

-- each open line is as a reset leaves one of its sense
abbrev Rested : List (Option Row) → Type 0
Rested ls = (k : ℕ) (r : Row) → at ls k ≡ Some r → r ≡ fresh r.sense

-- no device has the line k
abbrev Nobody : List Seat → ℕ → Type 0
Nobody ds k = (i : ℕ) → i < length ds → line_at ds i ≢ k

some_of : (x : Option Row) → is_some x ≡ true → (r : Row) × (x ≡ Some r)
some_of None e = absurd cc
some_of (Some r) e = (r, refl)

-- lines that were reset are rested
fresh_of : (x : Option Row) (r : Row) → moved step.Reset x ≡ Some r → r ≡ fresh r.sense
fresh_of None r e = absurd cc
fresh_of (Some q) r e = let s : fresh q.sense ≡ r = cc in sym s ∙ ap (λ (t : Row). fresh t.sense) s

rested : (ls : List (Option Row)) → ls ≡ all_reset ls → Rested ls
rested ls e k r o =
    fresh_of (at ls k) r
    (sym (get_or-map (moved step.Reset) ls k None None (within ls k r o)) ∙ ap (λ (xs : List (Option Row)). at xs k) (sym e) ∙ o)

-- the sense of one line is set
module _ (s : Sensing) (ls : List (Option Row)) (k : ℕ) where
  set_here : (r : Row) → at ls k ≡ Some r → at (step_at (step.Sense s) ls k) k ≡ Some (sensed s r)
  set_here r e = get_or-set_same ls k (moved (step.Sense s) (at ls k)) None (within ls k r e) ∙ ap (moved (step.Sense s)) e

  set_there : (j : ℕ) → j ≢ k → at (step_at (step.Sense s) ls k) j ≡ at ls j
  set_there j n = get_or-set_other ls k j (moved (step.Sense s) (at ls k)) None n

  here_fresh : Rested ls → is_some (at ls k) ≡ true → at (step_at (step.Sense s) ls k) k ≡ Some (fresh s)
  here_fresh q o =
      let t = some_of (at ls k) o in
      set_here t.0 t.1 ∙ ap (λ (r : Row). Some (sensed s r)) (q k t.0 t.1)

  set_open : is_some (at ls k) ≡ true → (j : ℕ) → is_some (at (step_at (step.Sense s) ls k) j) ≡ is_some (at ls j)
  set_open o j =
      let t = some_of (at ls k) o in
      ⊎_elim
      (λ (e : j ≡ k).
      ap (λ (i : ℕ). is_some (at (step_at (step.Sense s) ls k) i)) e ∙ ap is_some (set_here t.0 t.1)
      ∙ sym (ap (λ (i : ℕ). is_some (at ls i)) e ∙ ap is_some t.1))
      (λ (n : j ≡ k → ⊥). ap is_some (set_there j n))
      (cases_eq j k)

  set_rested : Rested ls → is_some (at ls k) ≡ true → Rested (step_at (step.Sense s) ls k)
  set_rested q o j r e =
      ⊎_elim
      (λ (i : j ≡ k). let h = here_fresh q o in let u : fresh s ≡ r = cc in sym u ∙ ap (λ (t : Row). fresh t.sense) u)
      (λ (n : j ≡ k → ⊥). q j r (sym (set_there j n) ∙ e))
      (cases_eq j k)

-- the devices after the first
rest_opened : (ls : List (Option Row)) (d : Seat) (ds : List Seat) → Opened ls (d ∷ ds) → Opened (step_at (step.Sense d.route.sense) ls d.line) ds
rest_opened ls d ds p = record {
  opened = λ i lt. set_open d.route.sense ls d.line (p.opened 0 (omega arith)) (line_at ds i) ∙ p.opened (suc i) (omega arith);
  apart = λ i j li lj e. let f : suc i ≡ suc j = p.apart (suc i) (suc j) (omega arith) (omega arith) e in omega arith;
}

first_apart : (ls : List (Option Row)) (d : Seat) (ds : List Seat) → Opened ls (d ∷ ds) → Nobody ds d.line
first_apart ls d ds p i lt e = let f : suc i ≡ 0 = p.apart (suc i) 0 (omega arith) (omega arith) e in omega arith

-- a line of no device is unchanged
unchanged : (ls : List (Option Row)) (ds : List Seat) (k : ℕ) → Nobody ds k → at (senses_set ds ls) k ≡ at ls k
unchanged ls [] k n = refl
unchanged ls (d ∷ ds) k n =
    unchanged (step_at (step.Sense d.route.sense) ls d.line) ds k (λ i lt. n (suc i) (omega arith))
    ∙ set_there d.route.sense ls d.line k (λ e. n 0 (omega arith) (sym e))

-- no line is opened or wired
all_open : (ls : List (Option Row)) (ds : List Seat) → Opened ls ds → (k : ℕ) → is_some (at (senses_set ds ls) k) ≡ is_some (at ls k)
all_open ls [] p k = refl
all_open ls (d ∷ ds) p k =
    all_open (step_at (step.Sense d.route.sense) ls d.line) ds (rest_opened ls d ds p) k
    ∙ set_open d.route.sense ls d.line (p.opened 0 (omega arith)) k

all_rested : (ls : List (Option Row)) (ds : List Seat) → Rested ls → Opened ls ds → Rested (senses_set ds ls)
all_rested ls [] q p = q
all_rested ls (d ∷ ds) q p =
    all_rested (step_at (step.Sense d.route.sense) ls d.line) ds (set_rested d.route.sense ls d.line q (p.opened 0 (omega arith))) (rest_opened ls d ds p)

-- the line of a device has its sense
device_set : (ls : List (Option Row)) (ds : List Seat) → Rested ls → Opened ls ds → (i : ℕ) → i < length ds → at (senses_set ds ls) (line_at ds i) ≡ Some (fresh (sense_at ds i))
device_set ls [] q p i lt = absurd (let f : ⊥ = omega arith in f)
device_set ls (d ∷ ds) q p zero lt =
    unchanged (step_at (step.Sense d.route.sense) ls d.line) ds d.line (first_apart ls d ds p)
    ∙ here_fresh d.route.sense ls d.line q (p.opened 0 lt)
device_set ls (d ∷ ds) q p (suc i) lt =
    device_set (step_at (step.Sense d.route.sense) ls d.line) ds (set_rested d.route.sense ls d.line q (p.opened 0 (omega arith))) (rest_opened ls d ds p) i (omega arith)

-- once all senses are set the devices are after the empty history
pub stood_set : (ls : List (Option Row)) (ds : List Seat) → ls ≡ all_reset ls → Opened ls ds → Stood (senses_set ds ls) ds []
stood_set ls ds e p =
    let q = rested ls e in
    let here : (i : ℕ) → i < length ds → at (senses_set ds ls) (line_at ds i) ≡ Some (fresh (sense_at ds i)) = device_set ls ds q p in
    record {
      placed = record {
        opened = λ i lt. here i lt ∙ ap (λ (x : Option Row). Some (row_or x)) (sym (here i lt));
        apart = p.apart;
        rest = λ k r o n. let f = all_rested ls ds q p k r o in (ap (λ (t : Row). t.mask) f, ap (λ (t : Row). t.service) f);
      };
      after = clean (length ds) (sense_at ds) (device_row (senses_set ds ls) ds) (λ i lt. ap row_or (here i lt));
    }

-- the last device's sense is set last
one_more : (ls : List (Option Row)) (ds : List Seat) (d : Seat) → senses_set (ds ++ (d ∷ [])) ls ≡ step_at (step.Sense d.route.sense) (senses_set ds ls) d.line
one_more ls [] d = refl
one_more ls (c ∷ ds) d = one_more (step_at (step.Sense c.route.sense) ls c.line) ds d

-- fewer devices
module _ (ls : List (Option Row)) (ds : List Seat) (n : ℕ) (h : n ≤ length ds) where
  below : (i : ℕ) → i < length (take n ds) → i < n
  below i lt = omega (arith, length-take-le n ds h)

  line_fewer : (i : ℕ) → i < length (take n ds) → line_at (take n ds) i ≡ line_at ds i
  line_fewer i lt = ap (λ (d : Seat). d.line) (get_or-take n ds i no_seat (below i lt))

  fewer : Opened ls ds → Opened ls (take n ds)
  fewer p = record {
    opened = λ i lt.
        let b : i < n = below i lt in
        ap (λ (k : ℕ). is_some (at ls k)) (line_fewer i lt) ∙ p.opened i (omega arith);
    apart = λ i j li lj e.
        let b : i < n = below i li in
        let c : j < n = below j lj in
        p.apart i j (omega arith) (omega arith) (sym (line_fewer i li) ∙ e ∙ line_fewer j lj);
  }

-- a rested line takes a sense
rested_service : (r : Row) → r ≡ fresh r.sense → r.service ≡ false
rested_service r e = ap (λ (t : Row). t.service) e

no_guard : (s : Sensing) (r : Row) → r.service ≡ false → guard (Sense s) r ≡ None
no_guard s r e = rw e refl

-- setting one more: the controller takes it, and its lines are those of one device more
pub set_next : {X : Type 0} (ls : List (Option Row)) (ds : List Seat) (n : ℕ) (m m' : Meaning) (r : Result X CallFault) → ls ≡ all_reset ls → Opened ls ds → n < length ds
    → m.lines ≡ senses_set (take n ds) ls → Changed (Sense (sense_at ds n)) (line_at ds n) m m' r → m'.lines ≡ senses_set (take (n + 1) ds) ls
set_next ls ds n m m' r e p lt is a =
    let f = fewer ls ds n (omega arith) p in
    let k : ℕ = line_at ds n in
    let s : Sensing = sense_at ds n in
    let o : is_some (at m.lines k) ≡ true = ap (λ (xs : List (Option Row)). is_some (at xs k)) is ∙ all_open ls (take n ds) f k ∙ p.opened n lt in
    let t = some_of (at m.lines k) o in
    let q : t.0 ≡ fresh t.0.sense = all_rested ls (take n ds) (rested ls e) f k t.0 (ap (λ (xs : List (Option Row)). at xs k) (sym is) ∙ t.1) in
    accepted_at (Sense s) k m m' t.0 r t.1 (no_guard s t.0 (rested_service t.0 q)) a
    ∙ ap (λ (xs : List (Option Row)). step_at (step.Sense s) xs k) is
    ∙ sym (one_more ls (take n ds) (get_or ds n no_seat))
    ∙ ap (λ (xs : List Seat). senses_set xs ls) (sym (take_more ds n no_seat lt))

-- the senses of all devices
pub all_set : (ls : List (Option Row)) (ds : List Seat) → senses_set (take (length ds) ds) ls ≡ senses_set ds ls
all_set ls ds = ap (λ (xs : List Seat). senses_set xs ls) (take-length ds)

-- a change of the line of device n of a table
pub device_changed : {Y : Type 0} (m m' : Meaning) (r : Result Y CallFault) (xs : List Device) (n : ℕ) (d : Device) → n < length xs → d ≡ get_or xs n d → Changed (Sense d.route.sense) d.line m m' r
    → Changed (Sense (sense_at (map seat xs) n)) (line_at (map seat xs) n) m m' r
device_changed m m' r xs n d lt e ch =
    let s : get_or (map seat xs) n no_seat ≡ seat d = get_or-map seat xs n d no_seat lt ∙ ap seat (sym e) in
    subst (λ (z : Seat). Changed (Sense z.route.sense) z.line m m' r) (sym s) ch

-- once the last is set, all are
pub stood_all : (xs ls : List (Option Row)) (ds : List Seat) (n : ℕ) → n ≡ length ds → ls ≡ all_reset ls → Opened ls ds → xs ≡ senses_set (take n ds) ls → Stood xs ds []
stood_all xs ls ds n e rests o f =
    subst (λ (ys : List (Option Row)). Stood ys ds []) (sym (f ∙ ap (λ k. senses_set (take k ds) ls) e ∙ all_set ls ds)) (stood_set ls ds rests o)
