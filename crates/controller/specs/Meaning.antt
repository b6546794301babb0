-- What a controller means, what its calls make of it, and the laws.
use Rattle.std.specs.Prelude.{◌≡◌, ℕ, true, false, cond, List, map, length, is_some, Some, None, Ok, Err, Option, Result, nat_lt, slice_index_or, slice_set}
use Rattle.line.specs.declared.row.Row.{Row}
use Rattle.line.specs.declared.row.Step.{Step}
use Rattle.line.specs.declared.row.Step.TheVariants.{Claim, Reset}
use Rattle.line.specs.Rows.{Legal, waits}
use Rattle.line.specs.Steps.{stepped}
use Rattle.controller.specs.declared.call.CallFault.{CallFault}
use Rattle.controller.specs.declared.call.CallFault.TheVariants.{NoLine, Wired}
use Rattle.controller.specs.declared.call.Change.{Change}
use Rattle.controller.specs.Calls.{guard, step_of}

-- the lines, an open one with its record and a wired one with none, and the line that is offered; the width is the
-- number of lines
pub record Meaning : Type 0 where
  pub lines : List (Option Row)
  pub offer : Option ℕ

-- the record of a line; None where it is wired or there is no such line
abbrev pub at : List (Option Row) → ℕ → Option Row
at ls i = slice_index_or ls i None

-- a line after a step; a wired one stays wired
abbrev pub moved : Step → Option Row → Option Row
moved s None = None
moved s (Some r) = Some (stepped s r)

-- the lines after a step of line i
abbrev pub step_at : Step → List (Option Row) → ℕ → List (Option Row)
step_at s ls i = slice_set ls i (moved s (at ls i))

-- the lines after a reset of each
abbrev pub all_reset : List (Option Row) → List (Option Row)
all_reset ls = map (moved Reset) ls

-- why a line does not take a change: 31 where it is wired, else by its record
abbrev pub line_refusal : Change → Option Row → Option CallFault
line_refusal c None = Some Wired
line_refusal c (Some r) = guard c r

-- why a change of line i is refused: 25 first, then by the line; None where it is accepted
abbrev pub refusal : Change → List (Option Row) → ℕ → Option CallFault
refusal c ls i = cond (nat_lt i (length ls)) (line_refusal c (at ls i)) (Some NoLine)

-- the record of one line, or 31
abbrev pub line_record : Option Row → Result Row CallFault
line_record None = Err Wired
line_record (Some r) = Ok r

-- the record of line i, or 25 or 31
abbrev pub record_at : List (Option Row) → ℕ → Result Row CallFault
record_at ls i = cond (nat_lt i (length ls)) (line_record (at ls i)) (Err NoLine)

-- an accepted change of line i: no other line is stepped
pub record Accepted (c : Change) (i : ℕ) (m m' : Meaning) : Type 0 where
  pub allowed : refusal c m.lines i ≡ None
  pub lines : m'.lines ≡ step_at (step_of c) m.lines i

-- a refused change of line i: nothing is changed, the offer included
pub record Refused (c : Change) (i : ℕ) (f : CallFault) (m m' : Meaning) : Type 0 where
  pub why : refusal c m.lines i ≡ Some f
  pub same : m' ≡ m

-- a change of line i, by its answer
abbrev pub Changed : {X : Type 0} → Change → ℕ → Meaning → Meaning → Result X CallFault → Type 0
Changed c i m m' (Ok _) = Accepted c i m m'
Changed c i m m' (Err f) = Refused c i f m m'

-- a claim that names line i: it was offered, and no other line is stepped
pub record Named (i : ℕ) (m m' : Meaning) : Type 0 where
  pub offered : m.offer ≡ Some i
  pub lines : m'.lines ≡ step_at Claim m.lines i

-- a claim, by what it names; naming none it changes nothing
abbrev pub Claimed : Meaning → Meaning → Option ℕ → Type 0
Claimed m m' None = (m.offer ≡ None) × (m' ≡ m)
Claimed m m' (Some i) = Named i m m'

-- line i is open and waits
abbrev pub Waits : List (Option Row) → ℕ → Type 0
Waits ls i = (r : Row) × (at ls i ≡ Some r) × (waits r ≡ true)

-- line i is open and in service
abbrev pub Serves : List (Option Row) → ℕ → Type 0
Serves ls i = (r : Row) × (at ls i ≡ Some r) × (r.service ≡ true)

-- What holds of every controller: its records can exist; an offered line waits; and if no open line is in service and
-- some open line waits, there is an offer.
pub record Lawful (m : Meaning) : Type 0 where
  pub legal : (i : ℕ) (r : Row) → at m.lines i ≡ Some r → Legal r
  pub waiting : (i : ℕ) → m.offer ≡ Some i → Waits m.lines i
  pub eager : ((i : ℕ) (r : Row) → at m.lines i ≡ Some r → r.service ≡ false) → (i : ℕ) → Waits m.lines i → is_some m.offer ≡ true
