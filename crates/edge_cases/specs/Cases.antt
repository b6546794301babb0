-- The cases at the edges.
use Rattle.std.specs.Prelude.{◌≡◌, ℕ, Bool, true, false, List, [], ◌∷◌, ◌++◌, length, replicate, Some, None, Option, slice_set}
use Rattle.line.specs.declared.row.Row.{Row}
use Rattle.line.specs.declared.row.Sense.{Sense}
use Rattle.line.specs.declared.row.Sense.TheVariants.{Edge, Following, Gated}
use Rattle.line.specs.Rows.{fresh, waits}
use Rattle.history.specs.declared.call.Call.TheVariants.{Drive, Mask, Claim, Complete}
use Rattle.history.specs.declared.call.Answer.TheVariants.{Done, Named}
use Rattle.history.specs.declared.call.Event.{Event}
use Rattle.history.specs.Own.{stands}
use Rattle.history.specs.Law.{answered}
use Rattle.i8259.specs.Offers.{i8259_offer}
use Rattle.plic.specs.Offers.{plic_offer}
use Rattle.cascade.specs.Questions.{made_lines, made_wired}
use Rattle.tree.specs.Phandles.{places}
use Rattle.nexus.specs.Nexuses.{Ready, matches}

-- a case, with what it says
pub data Case : Type 0 where
  -- whether device 0 of this sense waits after the history
  waiting : Sense → List Event → Bool → Case
  -- what an 8259A with these lines offers
  i8259_offers : List (Option Row) → Option ℕ → Case
  -- what a PLIC with these priorities and lines offers
  plic_offers : (ℕ → ℕ) → List (Option Row) → Option ℕ → Case
  -- the wired line and the lines of what is made of a parent and a child, at this line of the parent
  cascade_at : List (Option Row) → List (Option Row) → ℕ → Option ℕ → List (Option Row) → Case
  -- whether a row with these child cells matches the cells under the mask: cells, mask, child cells
  row_matches : List ℕ → List ℕ → List ℕ → Bool → Case

-- a nexus at which these cells arrived, with this mask
abbrev pub nexus_with : List ℕ → List ℕ → Ready
nexus_with cells mask = record { holder = places 0 0; width = length mask; cells = cells; mask = Some mask; map = [] }

-- that it is as the case says
abbrev pub Holds : Case → Type 0
Holds (waiting s h so) = waits (stands s 0 h) ≡ so
Holds (i8259_offers ls o) = i8259_offer ls ≡ o
Holds (plic_offers level ls o) = plic_offer level ls ≡ o
Holds (cascade_at ps cs k o ls) = (made_wired ps cs (Some k) ≡ o) × (made_lines ps cs (Some k) ≡ ls)
Holds (row_matches cells mask child so) = matches (nexus_with cells mask) child ≡ so

abbrev pub AllHold : List Case → Type 0
AllHold [] = Unit {0}
AllHold (c ∷ cs) = Holds c × AllHold cs

-- device 0 is unmasked and driven high
abbrev pub raised : List Event
raised = answered (Mask 0 false) Done ∷ answered (Drive 0 true) Done ∷ []

-- then low
abbrev pub pulsed : List Event
pulsed = raised ++ (answered (Drive 0 false) Done ∷ [])

-- raised, then named by a claim
abbrev pub served : List Event
served = raised ++ (answered Claim (Named (Some 0)) ∷ [])

-- in service, completed while high
abbrev pub completed_high : List Event
completed_high = served ++ (answered (Complete 0) Done ∷ [])

-- in service, driven low, then high, then completed
abbrev pub raised_in_service : List Event
raised_in_service = served ++ (answered (Drive 0 false) Done ∷ answered (Drive 0 true) Done ∷ answered (Complete 0) Done ∷ [])

-- so many lines of a sense as a reset leaves them
abbrev pub idle : ℕ → Sense → List (Option Row)
idle n s = replicate n (Some (fresh s))

-- line i with the record of a device after the history
abbrev pub with_line : List (Option Row) → ℕ → Sense → List Event → List (Option Row)
with_line ls i s h = slice_set ls i (Some (stands s 0 h))

-- eight edge lines of which line 3 is in service
abbrev pub three_served : List (Option Row)
three_served = with_line (idle 8 Edge) 3 Edge served

-- four gated lines of which lines 0 and 1 wait
abbrev pub two_waiting : List (Option Row)
two_waiting = with_line (with_line (idle 4 Gated) 0 Gated raised) 1 Gated raised

abbrev pub cases : List Case
cases =
    -- an unmasked edge line, high then low, waits; a following one does not; a gated one does
    waiting Edge pulsed true
    ∷ waiting Following pulsed false
    ∷ waiting Gated pulsed true
    -- a gated line, claimed and completed while high, waits
    ∷ waiting Gated completed_high true
    -- an edge line in service, driven low and high, then completed, waits
    ∷ waiting Edge raised_in_service true
    -- an 8259A with line 3 in service offers line 1, and does not offer line 5
    ∷ i8259_offers (with_line three_served 1 Edge raised) (Some 1)
    ∷ i8259_offers (with_line three_served 5 Edge raised) None
    ∷ i8259_offers (with_line (with_line three_served 5 Edge raised) 1 Edge raised) (Some 1)
    -- a PLIC with equal priorities offers line 0 before line 1
    ∷ plic_offers (λ i. 1) two_waiting (Some 0)
    -- at a line equal to the parent's width the parent alone is made, at the width minus 1 a pair
    ∷ cascade_at (idle 8 Edge) (idle 2 Following) 8 None (idle 8 Edge)
    ∷ cascade_at (idle 8 Edge) (idle 2 Following) 7 (Some 7) (slice_set (idle 8 Edge) 7 None ++ idle 2 Following)
    -- the cells 0x1800, 1 under the mask 0xf800, 7 match the row 0x1800, 1, and not the row 0x1900, 1
    ∷ row_matches (0x1800 ∷ 1 ∷ []) (0xf800 ∷ 7 ∷ []) (0x1800 ∷ 1 ∷ []) true
    ∷ row_matches (0x1800 ∷ 1 ∷ []) (0xf800 ∷ 7 ∷ []) (0x1900 ∷ 1 ∷ []) false
    ∷ []
