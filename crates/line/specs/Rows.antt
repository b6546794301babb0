-- Rows, and which of them are records that can exist.
use Rattle.std.specs.Prelude.{◌≡◌, Bool, true, false, cond, not, ◌&&◌, ◌||◌}
use Rattle.line.specs.declared.row.Sense.{Sense}
use Rattle.line.specs.declared.row.Sense.TheVariants.{Edge, Following, Gated}
use Rattle.line.specs.declared.row.Row.{Row}

-- sense, level, request, service, mask
abbrev pub row : Sense → Bool → Bool → Bool → Bool → Row
row s l q v m = record { sense = s; level = l; request = q; service = v; mask = m }

-- as a reset leaves a line of this sense
abbrev pub fresh : Sense → Row
fresh s = row s false false false true

-- requested, not in service and unmasked
abbrev pub waits : Row → Bool
waits r = r.request && (not r.service && not r.mask)

-- masked, or neither requested nor in service
abbrev pub rests : Row → Bool
rests r = r.mask || (not r.request && not r.service)

-- a row that is a record: a following line's request is its level, and a gated line in service is not requested
pub record Legal (r : Row) : Type 0 where
  pub follows : r.sense ≡ Following → r.request ≡ r.level
  pub gated : r.sense ≡ Gated → r.service ≡ true → r.request ≡ false

-- the request of the line that a row makes, by level, service and request
abbrev pub made_request : Sense → Bool → Bool → Bool → Bool
made_request Edge l v q = q
made_request Following l v q = l
made_request Gated l v q = cond v false q

-- the record that a row makes
abbrev pub made : Row → Row
made r = row r.sense r.level (made_request r.sense r.level r.service r.request) r.service r.mask
