-- Calls on one line: what they do to its record, and when an open line does not take them.
use Rattle.std.specs.Prelude.{ℕ, cond, Some, None, Ok, Err, Option, Result}
use Rattle.line.specs.declared.row.Row.{Row}
use Rattle.line.specs.declared.row.Step.{Step}
use Rattle.line.specs.declared.row.Step.TheVariants as step
use Rattle.line.specs.declared.record.Line.{Line}
use Rattle.line.specs.Lines.{row_of}
use Rattle.controller.specs.declared.call.CallFault.{CallFault}
use Rattle.controller.specs.declared.call.CallFault.TheVariants.{NoLine, Wired, NotInService, InService}
use Rattle.controller.specs.declared.call.Change.{Change}
use Rattle.controller.specs.declared.call.Change.TheVariants.{Drive, Mask, Sense, Complete}

-- the number of a refusal
abbrev pub number_of : CallFault → ℕ
number_of NoLine = 25
number_of Wired = 31
number_of NotInService = 30
number_of InService = 32

-- the step of the line's record
abbrev pub step_of : Change → Step
step_of (Drive high) = step.Drive high
step_of (Mask on) = step.Mask on
step_of (Sense s) = step.Sense s
step_of Complete = step.Complete

-- why an open line of this record does not take the change, or None
abbrev pub guard : Change → Row → Option CallFault
guard (Drive high) r = None
guard (Mask on) r = None
guard (Sense s) r = cond r.service (Some InService) None
guard Complete r = cond r.service None (Some NotInService)

-- the answer of a test that finds this fault, or none
abbrev pub outcome : {F : Type 0} → Option F → Result (Unit {0}) F
outcome None = Ok tt
outcome (Some f) = Err f

-- whether an open line of this record takes the change
abbrev pub allowance : Change → Row → Result (Unit {0}) CallFault
allowance c r = outcome (guard c r)

-- a record that was answered, as a row
abbrev pub record_seen : Result Line CallFault → Result Row CallFault
record_seen (Ok l) = Ok (row_of l)
record_seen (Err f) = Err f
