-- The parts of the line of a call.
use Rattle.std.proofs.Common.{sym, ap, ◌∙◌, ◌≡◌, ℕ, ◌-◌, ◌<◌, List, [], ◌∷◌, ◌++◌, length, drop, take, get_or, arith, decimal, append_assoc, append-nil}
use Rattle.std.proofs.lemmas.Fmt.{length-decimal-le}
use Rattle.std.proofs.lemmas.Grind.{common_steps}
use Rattle.history.specs.declared.call.Call.{Call}
use Rattle.history.specs.declared.call.Event.{Event}
use Rattle.board_text.specs.Lists.{Justified, columns_of, letter_of, line_of, lines_of, route_of}

-- the columns between the letter and the end of the line
kept : (x : ℕ) (columns line : List ℕ) → line ≡ x ∷ (columns ++ 10 ∷ []) → take (length line - 1 - 1) (drop 1 line) ≡ columns
kept x columns line e = grind (arith, common_steps)

pub columns_justified : (c : Call) (line : List ℕ) → line ≡ line_of c → Justified (route_of c) (take (length line - 1 - 1) (drop 1 line))
columns_justified c line e = record { blanks = 5 - length (decimal (route_of c)); is = kept (letter_of c) (columns_of (route_of c)) line e }

pub letter_first : (c : Call) (line : List ℕ) → line ≡ line_of c → get_or line 0 0 ≡ letter_of c
letter_first c line e = ap (λ bs. get_or bs 0 0) e

-- a route below 100,000 has at most five digits, so that its line has seven bytes
pub line_length : (c : Call) → route_of c < 100000 → length (line_of c) ≡ 7
line_length c small = let short = length-decimal-le 5 (route_of c) (omega arith) small (omega arith) in grind (arith, common_steps)

front : (xs ys bytes : List ℕ) (n : ℕ) → length xs ≡ n → bytes ≡ xs ++ ys → take n bytes ≡ xs
front xs ys bytes n long e = grind (arith, common_steps)

pub first_line : (c : Call) (after bytes : List ℕ) → route_of c < 100000 → bytes ≡ line_of c ++ after → take 7 bytes ≡ line_of c
first_line c after bytes small e = front (line_of c) after bytes 7 (line_length c small) e

-- the lines of some events and of one more
lines_append : (es : List Event) (e : Event) → lines_of (es ++ e ∷ []) ≡ lines_of es ++ line_of e.call
lines_append [] e = append-nil (line_of e.call)
lines_append (x ∷ es) e = ap (λ ls. line_of x.call ++ ls) (lines_append es e) ∙ sym (append_assoc (line_of x.call) (lines_of es) (line_of e.call))

pub one_line_more : (es : List Event) (e : Event) (bytes rest after : List ℕ)
    → bytes ≡ lines_of es ++ rest → rest ≡ line_of e.call ++ after → bytes ≡ lines_of (es ++ e ∷ []) ++ after
one_line_more es e bytes rest after known first =
    known ∙ (ap (λ ls. lines_of es ++ ls) first ∙ (sym (append_assoc (lines_of es) (line_of e.call) after) ∙ ap (λ ls. ls ++ after) (sym (lines_append es e))))
