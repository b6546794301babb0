-- One call more of the devices over a controller of any make.
use Rattle.std.proofs.Common.{◌≡◌, ℕ, ◌<◌, ◌≤◌, cond, List, [], ◌∷◌, ◌++◌, get_or, length, map, Some, None, Ok, Err, Option, Result, sym, refl, ap, ◌∙◌, subst, arith}
use Rattle.std.specs.Prelude.{◌==◌, nat_lt}
use Rattle.std.proofs.lemmas.Bool.Decides.{nat_tests}
use Rattle.search.specs.First.{first}
use Rattle.search.proofs.Positions.{first_map}
use Rattle.history.specs.declared.call.Answer.{Answer}
use Rattle.history.specs.declared.call.Answer.TheVariants as answer
use Rattle.history.specs.declared.call.Call.{Call}
use Rattle.history.specs.declared.call.Call.TheVariants as call
use Rattle.history.specs.declared.call.Event.{Event}
use Rattle.history.specs.Law.{answered}
use Rattle.controller.specs.declared.call.CallFault.{CallFault}
use Rattle.controller.specs.declared.call.Change.{Change}
use Rattle.controller.specs.declared.call.Change.TheVariants as change
use Rattle.controller.specs.declared.interface.Controller.{Ghosts}
use Rattle.controller.specs.Calls.{outcome, step_of}
use Rattle.controller.specs.Meaning.{Changed, Claimed, Lawful, Meaning, all_reset}
use Rattle.boards.specs.declared.device.Device.{Device}
use Rattle.boards.specs.declared.device.DeviceFault.{DeviceFault}
use Rattle.boards.specs.declared.device.DeviceFault.TheVariants.{NoRoute}
use Rattle.boards.specs.Seats.{Seat, line_at, no_seat, seat}
use Rattle.boards.specs.Devices.{Led, Stepped, Stood, Turns, called, change_step, claim_step, device_refusal, done_or, offered, step_in, step_unless}
use Rattle.boards.proofs.Turning.{change_answer, device_seen, turn_change, turn_claim, turn_refused, turn_reset}

-- which device was found
abbrev pub Found : List Seat → ℕ → Result Seat DeviceFault → Type 0
Found ds i r = r ≡ cond (nat_lt i (length ds)) (Ok (get_or ds i no_seat)) (Err NoRoute)

pub found_below : (ds : List Seat) (i : ℕ) (s : Seat) → Found ds i (Ok s) → i < length ds
found_below ds i s e = grind (arith, nat_tests)

pub found_line : (ds : List Seat) (i : ℕ) (s : Seat) → Found ds i (Ok s) → s.line ≡ line_at ds i
found_line ds i s e = grind (arith, nat_tests)

pub not_found : (ds : List Seat) (i : ℕ) (f : DeviceFault) → Found ds i (Err f) → length ds ≤ i
not_found ds i f e = grind (arith, nat_tests)

pub no_route : (ds : List Seat) (i : ℕ) (f : DeviceFault) → Found ds i (Err f) → f ≡ NoRoute
no_route ds i f e = grind (arith, nat_tests)

-- a change as a call steps the same line
called_step : (c : Change) (m : Meaning) (ds : List Seat) (i : ℕ) (k : Call) → called c i ≡ Some k → change_step c m.lines ds i ≡ step_in m ds k
called_step (change.Drive high) m ds i k e = let q : call.Drive i high ≡ k = cc in ap (step_in m ds) q
called_step (change.Mask on) m ds i k e = let q : call.Mask i on ≡ k = cc in ap (step_in m ds) q
called_step (change.Sense s) m ds i k e = absurd cc
called_step change.Complete m ds i k e = let q : call.Complete i ≡ k = cc in ap (step_in m ds) q

-- a controller's change, by the refusal of the device's
changed_step : {Y : Type 0} (o : Option DeviceFault) (c : Change) (j : ℕ) (m n : Meaning) (r : Result Y CallFault) → device_seen r ≡ outcome o → Changed c j m n r → Stepped m n (step_unless o j (step_of c))
changed_step None c j m n (Ok y) e ch = ch.lines
changed_step None c j m n (Err f) e ch = absurd cc
changed_step (Some d) c j m n (Ok y) e ch = absurd cc
changed_step (Some d) c j m n (Err f) e ch = ch.same

-- a controller's claim steps the offered line
pub claimed_step : (m n : Meaning) (ds : List Seat) (r : Option ℕ) → Claimed m n r → Turns ds call.Claim m n
claimed_step m n ds None (o, e) = subst (λ (x : Option ℕ). Stepped m n (claim_step x)) (sym o) e
claimed_step m n ds (Some k) ch = subst (λ (x : Option ℕ). Stepped m n (claim_step x)) (sym ch.offered) ch.lines

-- a call of no device steps none
pub refused_step : (m : Meaning) (ds : List Seat) (i : ℕ) (c : Change) (k : Call) (f : DeviceFault) → Found ds i (Err f) → called c i ≡ Some k → Turns ds k m m
refused_step m ds i c k f n e =
    let past = not_found ds i f n in
    let d : device_refusal c m.lines ds i ≡ Some NoRoute = grind (arith, nat_tests) in
    rw (← called_step c m ds i k e) (rw d refl)

module _ {C : Type 0} (g : Ghosts C) (x : C) (ds : List Seat) where
  -- there is no such device
  pub led_refused : (i : ℕ) (c : Change) (k : Call) (h : List Event) (f : DeviceFault) (r : Result (Unit {0}) DeviceFault) → Found ds i (Err f) → r ≡ Err f → called c i ≡ Some k → Led g x ds h
      → Led g x ds (h ++ (answered k (done_or r) ∷ []))
  led_refused i c k h f r n q e l =
      let t = turn_refused (g.meaning x).lines ds i c k h (not_found ds i f n) e l.stood in
      let a : answer.Refused 24 ≡ done_or r = ap (λ (z : DeviceFault). done_or {X = Unit {0}} (Err z)) (sym (no_route ds i f n)) ∙ ap done_or (sym q) in
      record { sound = l.sound; stood = subst (λ (z : Answer). Stood (g.meaning x).lines ds (h ++ (answered k z ∷ []))) a t }

  -- the controller's answer is the call's
  pub led_changed : {Y : Type 0} (y : C) (i : ℕ) (c : Change) (k : Call) (h : List Event) (s : Seat) (r : Result Y CallFault) → Found ds i (Ok s) → called c i ≡ Some k → Led g x ds h
      → (g.sound x → g.sound y) → (g.sound x → Changed c s.line (g.meaning x) (g.meaning y) r) → Led g y ds (h ++ (answered k (done_or (device_seen r)) ∷ []))
  led_changed {Y} y i c k h s r n e l keeps steps =
      let ch : Changed c (line_at ds i) (g.meaning x) (g.meaning y) r = subst (λ (j : ℕ). Changed c j (g.meaning x) (g.meaning y) r) (found_line ds i s n) (steps l.sound) in
      record { sound = keeps l.sound; stood = turn_change ds i c k (g.meaning x) (g.meaning y) r h (found_below ds i s n) e l.stood ch }

  pub changed_answer : {Y : Type 0} (y : C) (i : ℕ) (c : Change) (k : Call) (h : List Event) (s : Seat) (r : Result Y CallFault) → Found ds i (Ok s) → called c i ≡ Some k → Led g x ds h
      → (g.sound x → Changed c s.line (g.meaning x) (g.meaning y) r) → device_seen r ≡ outcome (device_refusal c (g.meaning x).lines ds i)
  changed_answer {Y} y i c k h s r n e l steps =
      let ch : Changed c (line_at ds i) (g.meaning x) (g.meaning y) r = subst (λ (j : ℕ). Changed c j (g.meaning x) (g.meaning y) r) (found_line ds i s n) (steps l.sound) in
      change_answer ds i c k (g.meaning x) (g.meaning y) r h (found_below ds i s n) e l.stood ch

  pub changed_turns : {Y : Type 0} (y : C) (i : ℕ) (c : Change) (k : Call) (h : List Event) (s : Seat) (r : Result Y CallFault) → Found ds i (Ok s) → called c i ≡ Some k → Led g x ds h
      → (g.sound x → Changed c s.line (g.meaning x) (g.meaning y) r) → Turns ds k (g.meaning x) (g.meaning y)
  changed_turns {Y} y i c k h s r n e l steps =
      let ch : Changed c (line_at ds i) (g.meaning x) (g.meaning y) r = subst (λ (j : ℕ). Changed c j (g.meaning x) (g.meaning y) r) (found_line ds i s n) (steps l.sound) in
      rw (← called_step c (g.meaning x) ds i k e)
      (changed_step (device_refusal c (g.meaning x).lines ds i) c (line_at ds i) (g.meaning x) (g.meaning y) r (changed_answer y i c k h s r n e l steps) ch)

  pub led_claimed : (y : C) (h : List Event) (r o : Option ℕ) → ((x : C) → g.sound x → Lawful (g.meaning x)) → o ≡ offered ds r → Led g x ds h
      → (g.sound x → g.sound y) → (g.sound x → Claimed (g.meaning x) (g.meaning y) r) → Led g y ds (h ++ (answered call.Claim (answer.Named o) ∷ []))
  led_claimed y h r o law e l keeps names =
      let t = turn_claim ds (g.meaning x) (g.meaning y) r h (law x l.sound) l.stood (names l.sound) in
      record { sound = keeps l.sound; stood = subst (λ (z : Option ℕ). Stood (g.meaning y).lines ds (h ++ (answered call.Claim (answer.Named z) ∷ []))) (sym e) t }

  pub led_reset : (y : C) (h : List Event) → g.sound y → (g.sound x → (g.meaning y).lines ≡ all_reset (g.meaning x).lines) → Led g x ds h → Led g y ds []
  led_reset y h s resets l = record { sound = s; stood = turn_reset (g.meaning x).lines (g.meaning y).lines ds h l.stood (resets l.sound) }

-- the search for a line among the devices of a table
pub line_found : (ds : List Device) (k : ℕ) → first (λ d. d.line == k) ds ≡ offered (map seat ds) (Some k)
line_found ds k = first_map seat (λ s. s.line == k) ds
