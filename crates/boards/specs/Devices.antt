-- How the devices of a board stand over the lines of its controller, and what a call is answered.
use Rattle.std.specs.Prelude.{◌≡◌, ℕ, ◌<◌, true, false, cond, List, [], ◌∷◌, is_some, length, map, Some, None, Ok, Err, Option, Result, ◌==◌, ◌≢◌, nat_lt}
use Rattle.search.specs.First.{first}
use Rattle.line.specs.declared.row.Row.{Row}
use Rattle.line.specs.declared.row.Sense.TheVariants.{Edge}
use Rattle.line.specs.Rows.{fresh}
use Rattle.line.specs.declared.row.Step.{Step}
use Rattle.line.specs.declared.row.Step.TheVariants as step
use Rattle.history.specs.declared.call.Answer.{Answer}
use Rattle.history.specs.declared.call.Answer.TheVariants.{Done, Named, Refused}
use Rattle.history.specs.declared.call.Call.{Call}
use Rattle.history.specs.declared.call.Call.TheVariants as call
use Rattle.history.specs.declared.call.Event.{Event}
use Rattle.history.specs.Law.{After}
use Rattle.controller.specs.declared.call.Change.{Change}
use Rattle.controller.specs.declared.call.Change.TheVariants.{Drive, Mask, Sense, Complete}
use Rattle.controller.specs.declared.interface.Controller.{Ghosts}
use Rattle.controller.specs.Calls.{outcome, step_of}
use Rattle.controller.specs.Meaning.{Meaning, at, step_at}
use Rattle.boards.specs.declared.device.DeviceFault.{DeviceFault}
use Rattle.boards.specs.declared.device.DeviceFault.TheVariants.{NoRoute, NotInService}
use Rattle.line.specs.declared.record.Line.{Line}
use Rattle.line.specs.Lines.{row_of}
use Rattle.boards.specs.declared.device.Device.{Device}
use Rattle.boards.specs.Seats.{Seat, line_at, number_of, seat, sense_at}

abbrev pub row_or : Option Row → Row
row_or None = fresh Edge
row_or (Some r) = r

-- the record of a line, where it is open
abbrev pub row_at : List (Option Row) → ℕ → Row
row_at ls k = row_or (at ls k)

-- the record of device i: what the lines hold for its line
abbrev pub device_row : List (Option Row) → List Seat → ℕ → Row
device_row ls ds i = row_at ls (line_at ds i)

-- each device has an open line of its own, and every other open line is masked and not in service
pub record Placed (ls : List (Option Row)) (ds : List Seat) : Type 0 where
  pub opened : (i : ℕ) → i < length ds → at ls (line_at ds i) ≡ Some (device_row ls ds i)
  pub apart : (i j : ℕ) → i < length ds → j < length ds → line_at ds i ≡ line_at ds j → i ≡ j
  pub rest : (k : ℕ) (r : Row) → at ls k ≡ Some r → ((i : ℕ) → i < length ds → line_at ds i ≢ k) → (r.mask ≡ true) × (r.service ≡ false)

-- each device has an open line of its own
pub record Opened (ls : List (Option Row)) (ds : List Seat) : Type 0 where
  pub opened : (i : ℕ) → i < length ds → is_some (at ls (line_at ds i)) ≡ true
  pub apart : (i j : ℕ) → i < length ds → j < length ds → line_at ds i ≡ line_at ds j → i ≡ j

-- the devices over these lines are after the history h
pub record Stood (ls : List (Option Row)) (ds : List Seat) (h : List Event) : Type 0 where
  pub placed : Placed ls ds
  pub after : After (length ds) (sense_at ds) (device_row ls ds) h

-- the devices over a controller of any make are after the history h
pub record Led {C : Type 0} (g : Ghosts C) (x : C) (ds : List Seat) (h : List Event) : Type 0 where
  pub sound : g.sound x
  pub stood : Stood (g.meaning x).lines ds h

-- a change of device i as a call; a board takes no sense change
abbrev pub called : Change → ℕ → Option Call
called (Drive high) i = Some (call.Drive i high)
called (Mask on) i = Some (call.Mask i on)
called (Sense s) i = None
called Complete i = Some (call.Complete i)

-- the answer of a call that is done or refused
abbrev pub done_or : {X : Type 0} → Result X DeviceFault → Answer
done_or (Ok _) = Done
done_or (Err f) = Refused (number_of f)

-- why a device of this record does not take a change, or None: a completion needs it in service
abbrev pub row_refusal : Change → Row → Option DeviceFault
row_refusal (Drive high) r = None
row_refusal (Mask on) r = None
row_refusal (Sense s) r = None
row_refusal Complete r = cond r.service None (Some NotInService)

-- why a change of device i is refused: 24, then 30
abbrev pub device_refusal : Change → List (Option Row) → List Seat → ℕ → Option DeviceFault
device_refusal c ls ds i = cond (nat_lt i (length ds)) (row_refusal c (device_row ls ds i)) (Some NoRoute)

-- the device of the offered line
abbrev pub offered : List Seat → Option ℕ → Option ℕ
offered ds None = None
offered ds (Some k) = first (λ d. d.line == k) ds

-- what a call is answered
abbrev pub answer_of : Meaning → List Seat → Call → Answer
answer_of m ds (call.Drive i high) = done_or (outcome (device_refusal (Drive high) m.lines ds i))
answer_of m ds (call.Mask i on) = done_or (outcome (device_refusal (Mask on) m.lines ds i))
answer_of m ds call.Claim = Named (offered ds m.offer)
answer_of m ds (call.Complete i) = done_or (outcome (device_refusal Complete m.lines ds i))

abbrev pub step_unless : Option DeviceFault → ℕ → Step → Option (ℕ × Step)
step_unless None k s = Some (k, s)
step_unless (Some f) k s = None

-- the line of device i, and how a change steps it; none where it is refused
abbrev pub change_step : Change → List (Option Row) → List Seat → ℕ → Option (ℕ × Step)
change_step c ls ds i = step_unless (device_refusal c ls ds i) (line_at ds i) (step_of c)

abbrev pub claim_step : Option ℕ → Option (ℕ × Step)
claim_step None = None
claim_step (Some k) = Some (k, step.Claim)

-- which line a call steps, and how: the line of its device, or the offered one; none where it is refused, or a claim finds no offer
abbrev pub step_in : Meaning → List Seat → Call → Option (ℕ × Step)
step_in m ds (call.Drive i high) = change_step (Drive high) m.lines ds i
step_in m ds (call.Mask i on) = change_step (Mask on) m.lines ds i
step_in m ds call.Claim = claim_step m.offer
step_in m ds (call.Complete i) = change_step Complete m.lines ds i

-- this line is stepped so and no other; without one nothing is changed, the offer included
abbrev pub Stepped : Meaning → Meaning → Option (ℕ × Step) → Type 0
Stepped m m' None = m' ≡ m
Stepped m m' (Some x) = m'.lines ≡ step_at x.1 m.lines x.0

-- what the controller means before a call, and after it
abbrev pub Turns : List Seat → Call → Meaning → Meaning → Type 0
Turns ds k m m' = Stepped m m' (step_in m ds k)

-- The events of a list, one after another, from one meaning to another: each is answered by what the controller means before it.
pub data Ran (ds : List Seat) : Meaning → List Event → Meaning → Type 0 where
  none : (m : Meaning) → Ran ds m [] m
  more : (m n l : Meaning) (e : Event) (es : List Event) → e.answer ≡ answer_of m ds e.call → Turns ds e.call m n → Ran ds n es l → Ran ds m (e ∷ es) l

-- the calls of a list of events
abbrev pub calls_in : List Event → List Call
calls_in h = map (λ e. e.call) h

-- the lines once the sense of each device is set
abbrev pub senses_set : List Seat → List (Option Row) → List (Option Row)
senses_set [] ls = ls
senses_set (d ∷ ds) ls = senses_set ds (step_at (step.Sense d.route.sense) ls d.line)

-- a device that was answered
abbrev pub seat_seen : Result Device DeviceFault → Result Seat DeviceFault
seat_seen (Ok d) = Ok (seat d)
seat_seen (Err f) = Err f

-- a record that was answered
abbrev pub record_seen : Result Line DeviceFault → Result Row DeviceFault
record_seen (Ok l) = Ok (row_of l)
record_seen (Err f) = Err f
