-- A list of calls as a file has it: a line for each call, which is its letter and its route, right-justified in five columns.
use Rattle.std.specs.Prelude.{◌≡◌, ◌≢◌, ℕ, ◌+◌, ◌-◌, ◌<◌, Bool, true, false, not, ◌&&◌, ◌==◌, length, replicate, List, [], ◌∷◌, ◌++◌, decimal}
use Rattle.history.specs.declared.call.Call.{Call}
use Rattle.history.specs.declared.call.Call.TheVariants.{Drive, Mask, Claim, Complete}
use Rattle.history.specs.declared.call.Event.{Event}

-- some blanks, then the number
pub record Justified (n : ℕ) (columns : List ℕ) : Type 0 where
  pub blanks : ℕ
  pub is : columns ≡ replicate blanks 32 ++ decimal n

-- no sign, and no zero ahead of other digits, is in front
abbrev pub is_plain : List ℕ → Bool
is_plain [] = true
is_plain (c ∷ []) = not (c == 43)
is_plain (c ∷ d ∷ ds) = not (c == 43) && not (c == 48)

-- H, L, M, U, C or E
abbrev pub letter_of : Call → ℕ
letter_of (Drive i true) = 72
letter_of (Drive i false) = 76
letter_of (Mask i true) = 77
letter_of (Mask i false) = 85
letter_of Claim = 67
letter_of (Complete i) = 69

-- a claim has the route 0
abbrev pub route_of : Call → ℕ
route_of (Drive i high) = i
route_of (Mask i on) = i
route_of Claim = 0
route_of (Complete i) = i

-- a number, right-justified in five columns
abbrev pub columns_of : ℕ → List ℕ
columns_of n = replicate (5 - length (decimal n)) 32 ++ decimal n

-- the line of a call
abbrev pub line_of : Call → List ℕ
line_of c = letter_of c ∷ (columns_of (route_of c) ++ 10 ∷ [])

-- the lines of the calls of some events
abbrev pub lines_of : List Event → List ℕ
lines_of [] = []
lines_of (e ∷ es) = line_of e.call ++ lines_of es

-- behind the lines of number - 1 calls there is something, and no line of a call
pub record NoCallAt (number : ℕ) (bytes : List ℕ) : Type 0 where
  pub front : List Event
  pub rest : List ℕ
  pub is : bytes ≡ lines_of front ++ rest
  pub numbered : number ≡ length front + 1
  pub more : 0 < length rest
  pub none : (c : Call) (after : List ℕ) → route_of c < 100000 → rest ≢ line_of c ++ after
