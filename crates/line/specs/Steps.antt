-- The step table: what each step makes of a row.
use Rattle.std.specs.Prelude.{Bool, true, false, cond, List, [], ◌∷◌}
use Rattle.line.specs.declared.row.Sense.{Sense}
use Rattle.line.specs.declared.row.Sense.TheVariants.{Edge, Following, Gated}
use Rattle.line.specs.declared.row.Row.{Row}
use Rattle.line.specs.declared.row.Step.{Step}
use Rattle.line.specs.declared.row.Step.TheVariants.{Drive, Mask, Sense as Sensed, Claim, Complete, Reset}
use Rattle.line.specs.Rows.{row, fresh}

-- the request after low to high, by service and request
abbrev pub risen : Sense → Bool → Bool → Bool
risen Edge v q = true
risen Following v q = true
risen Gated v q = cond v q true

-- the request after high to low
abbrev pub fallen : Sense → Bool → Bool
fallen Edge q = q
fallen Following q = false
fallen Gated q = q

-- the request after a drive, by the level before and after, service and request
abbrev pub drive_request : Sense → Bool → Bool → Bool → Bool → Bool
drive_request s false false v q = q
drive_request s false true v q = risen s v q
drive_request s true false v q = fallen s q
drive_request s true true v q = q

-- the request after a claim
abbrev pub claim_request : Sense → Bool → Bool
claim_request Edge q = false
claim_request Following q = q
claim_request Gated q = false

-- the request after a completion, by the level
abbrev pub complete_request : Sense → Bool → Bool → Bool
complete_request Edge l q = q
complete_request Following l q = q
complete_request Gated l q = cond l true q

abbrev pub driven : Bool → Row → Row
driven high r = row r.sense high (drive_request r.sense r.level high r.service r.request) r.service r.mask

abbrev pub masked : Bool → Row → Row
masked on r = row r.sense r.level r.request r.service on

abbrev pub sensed : Sense → Row → Row
sensed s r = row s false false r.service r.mask

abbrev pub claimed : Row → Row
claimed r = row r.sense r.level (claim_request r.sense r.request) true r.mask

abbrev pub completed : Row → Row
completed r = row r.sense r.level (complete_request r.sense r.level r.request) false r.mask

abbrev pub reset : Row → Row
reset r = fresh r.sense

-- the row after one step
abbrev pub stepped : Step → Row → Row
stepped (Drive high) r = driven high r
stepped (Mask on) r = masked on r
stepped (Sensed s) r = sensed s r
stepped Claim r = claimed r
stepped Complete r = completed r
stepped Reset r = reset r

-- the row after several steps, in order
abbrev pub after : Row → List Step → Row
after r [] = r
after r (s ∷ ss) = after (stepped s r) ss
