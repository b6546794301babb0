-- The law of two boards, said of the records of their devices and of their histories.
use Rattle.std.specs.Prelude.{◌≡◌, ℕ, ◌<◌, ◌≤◌, true, false, ◌⊎◌, List, [], ◌∷◌, ◌++◌, Some, None}
use Rattle.search.specs.Exactly.{Exactly}
use Rattle.line.specs.declared.row.Row.{Row}
use Rattle.line.specs.declared.row.Sense.{Sense}
use Rattle.line.specs.declared.row.Sense.TheVariants.{Edge}
use Rattle.line.specs.Rows.{fresh, waits}
use Rattle.line.specs.Steps.{after}
use Rattle.history.specs.declared.call.Call.{Call}
use Rattle.history.specs.declared.call.Call.TheVariants.{Drive, Mask, Claim, Complete}
use Rattle.history.specs.declared.call.Answer.{Answer}
use Rattle.history.specs.declared.call.Answer.TheVariants.{Done, Named, Refused}
use Rattle.history.specs.declared.call.Event.{Event}
use Rattle.history.specs.Own.{own, stands, changes, claims, step_by, at_most_one}
use Rattle.history.specs.Kept.{KeptUp, ClaimsWait}

-- a call with this answer
abbrev pub answered : Call → Answer → Event
answered c a = record { call = c; answer = a }

-- none of the n devices is in service
abbrev pub NoneInService : ℕ → (ℕ → Row) → Type 0
NoneInService n row = (i : ℕ) → i < n → (row i).service ≡ false

-- none of the n devices waits
abbrev pub NoneWaits : ℕ → (ℕ → Row) → Type 0
NoneWaits n row = (i : ℕ) → i < n → waits (row i) ≡ false

-- a claim names none or a device that waits; with no device in service it names none exactly if no device waits
pub record ClaimedWell (n : ℕ) (row : ℕ → Row) (a : Answer) : Type 0 where
  pub names : (a ≡ Named None) ⊎ ((i : ℕ) × (a ≡ Named (Some i)) × (i < n) × (waits (row i) ≡ true))
  pub idle : NoneInService n row → Exactly (a ≡ Named None) (NoneWaits n row)

-- what a call may be answered, the n devices standing so just before it
abbrev pub Fair : ℕ → (ℕ → Row) → Call → Answer → Type 0
Fair n row (Drive i high) a = (i < n → a ≡ Done) × (n ≤ i → a ≡ Refused 24)
Fair n row (Mask i on) a = (i < n → a ≡ Done) × (n ≤ i → a ≡ Refused 24)
Fair n row Claim a = ClaimedWell n row a
Fair n row (Complete i) a =
    (i < n → (row i).service ≡ true → a ≡ Done) × (i < n → (row i).service ≡ false → a ≡ Refused 30) × (n ≤ i → a ≡ Refused 24)

-- a board with n devices, their senses and records, is after the history h
pub record After (n : ℕ) (sense : ℕ → Sense) (row : ℕ → Row) (h : List Event) : Type 0 where
  -- each record is how its device stands
  pub stand : (i : ℕ) → i < n → row i ≡ stands (sense i) i h
  -- every answer is fair, the devices standing as the events before it say
  pub answers : (p : List Event) (c : Call) (a : Answer) (q : List Event) → h ≡ p ++ (answered c a ∷ q) → Fair n (λ i. stands (sense i) i p) c a

-- one call with its answer: each record takes the step that the call is for its device, and the answer is fair
pub record Turn (n : ℕ) (row row' : ℕ → Row) (c : Call) (a : Answer) : Type 0 where
  pub steps : (i : ℕ) → i < n → row' i ≡ after (row i) (at_most_one (step_by i c a))
  pub fair : Fair n row c a

-- what holds of an old and a new board, whatever their controllers
pub record TwoBoards (n : ℕ) (sense : ℕ → Sense) (row : ℕ → Row) (h : List Event) (n' : ℕ) (sense' : ℕ → Sense) (row' : ℕ → Row) (h' : List Event) : Type 0 where
  pub old : After n sense row h
  pub new : After n' sense' row' h'
  -- devices of one sense with equal own steps have equal records
  pub alike : (i j : ℕ) → i < n → j < n' → sense i ≡ sense' j → own i h ≡ own j h' → row i ≡ row' j
  -- edge devices with equal changes, both kept up with, have equally many claims
  pub counts : (i j : ℕ) → i < n → j < n' → sense i ≡ Edge → sense' j ≡ Edge → changes i h ≡ changes j h' → KeptUp Edge i h → KeptUp Edge j h' → claims i h ≡ claims j h'

-- a board whose devices are as a reset leaves them is after the empty history
abbrev pub CleanLaw : Type 0
CleanLaw = (n : ℕ) (sense : ℕ → Sense) (row : ℕ → Row) → ((i : ℕ) → i < n → row i ≡ fresh (sense i)) → After n sense row []

-- a board that is after h is, one turn later, after h and that event
abbrev pub ExtendLaw : Type 0
ExtendLaw =
    (n : ℕ) (sense : ℕ → Sense) (row row' : ℕ → Row) (h : List Event) (c : Call) (a : Answer)
    → After n sense row h → Turn n row row' c a → After n sense row' (h ++ (answered c a ∷ []))

-- what holds of any two boards, each after its own history
abbrev pub TwoBoardsLaw : Type 0
TwoBoardsLaw =
    (n : ℕ) (sense : ℕ → Sense) (row : ℕ → Row) (h : List Event) (n' : ℕ) (sense' : ℕ → Sense) (row' : ℕ → Row) (h' : List Event)
    → After n sense row h → After n' sense' row' h' → TwoBoards n sense row h n' sense' row' h'

-- this many are the claims of every device of the sense s that has the changes of device i in h, where both are kept up with and each claim
-- of theirs finds them waiting
abbrev pub Counted : Sense → ℕ → List Event → ℕ → Type 0
Counted s i h count =
    (j : ℕ) (k : List Event) → changes i h ≡ changes j k → ClaimsWait s i h → ClaimsWait s j k → KeptUp s i h → KeptUp s j k → count ≡ claims j k
