-- How calls, answers, senses and records are printed.
use Rattle.std.specs.Prelude.{ℕ, Bool, true, false, cond, List, ◌++◌, Some, None, codes, decimal}
use Rattle.line.specs.declared.row.Row.{Row}
use Rattle.line.specs.declared.row.Sense.{Sense}
use Rattle.line.specs.declared.row.Sense.TheVariants.{Edge, Following, Gated}
use Rattle.history.specs.declared.call.Call.{Call}
use Rattle.history.specs.declared.call.Call.TheVariants.{Drive, Mask, Claim, Complete}
use Rattle.history.specs.declared.call.Answer.{Answer}
use Rattle.history.specs.declared.call.Answer.TheVariants.{Done, Named, Refused}

-- the letter and the route, of which a claim has none
abbrev pub call_text : Call → List ℕ
call_text (Drive i true) = codes "H " ++ decimal i
call_text (Drive i false) = codes "L " ++ decimal i
call_text (Mask i true) = codes "M " ++ decimal i
call_text (Mask i false) = codes "U " ++ decimal i
call_text Claim = codes "C"
call_text (Complete i) = codes "E " ++ decimal i

abbrev pub answer_text : Answer → List ℕ
answer_text Done = codes "done"
answer_text (Named (Some i)) = codes "named " ++ decimal i
answer_text (Named None) = codes "none"
answer_text (Refused number) = codes "refused " ++ decimal number

abbrev pub sense_text : Sense → List ℕ
sense_text Edge = codes "edge"
sense_text Following = codes "following"
sense_text Gated = codes "gated"

-- 1 for true
abbrev pub digit : Bool → List ℕ
digit so = decimal (cond so 1 0)

-- level, request, service and mask
abbrev pub record_text : Row → List ℕ
record_text r = digit r.level ++ (digit r.request ++ (digit r.service ++ digit r.mask))
