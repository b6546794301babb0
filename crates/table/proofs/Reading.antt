-- A table's lines, read, written and reset.
use Rattle.std.proofs.Common.{◌≡◌, ℕ, zero, suc, ◌<◌, ◌≤◌, min, List, [], ◌∷◌, ◌++◌, map, length, take, drop, set, replicate, Some, refl, ap, ◌∙◌, arith}
use lib.Seq.{take-set-lt}
use Rattle.std.proofs.lemmas.List.{length-map, length-take, map-set}
use Rattle.line.specs.declared.row.Row.{Row}
use Rattle.line.specs.Rows.{Legal, made}
use Rattle.line.specs.Steps.{reset}
use Rattle.line.proofs.Records.{made_same, reset_made, reset_whole}
use Rattle.controller.specs.Meaning.{all_reset}
use Rattle.table.specs.Tables.{made_line}

pub lines_length : (w : ℕ) (xs : List Row) → length (map made_line (take w xs)) ≡ min w (length xs)
lines_length w xs = length-map (take w xs) made_line ∙ length-take w xs

pub lines_set : (w : ℕ) (xs : List Row) (i : ℕ) (r : Row) → i < w → map made_line (take w (set xs i r)) ≡ set (map made_line (take w xs)) i (Some (made r))
lines_set w xs i r h = ap (map made_line) (take-set-lt w xs i r h) ∙ map-set made_line (take w xs) i r

-- rows that are all the same record
pub same_lines : (n w : ℕ) (r : Row) → made r ≡ r → map made_line (take w (replicate n r)) ≡ replicate (min w n) (Some r)
same_lines n zero r e = let z : min 0 n ≡ 0 = omega arith in rw z
same_lines zero (suc w) r e = let z : min (suc w) 0 ≡ 0 = omega arith in rw z
same_lines (suc n) (suc w) r e =
    let z : min (suc w) (suc n) ≡ suc (min w n) = omega arith in
    let t : Some (made r) ≡ Some r = ap Some e in
    let more : map made_line (take w (replicate n r)) ≡ replicate (min w n) (Some r) = same_lines n w r e in
    rw z (cc)

-- the lines of a table whose rows are all that of line l
pub like_lines : (w : ℕ) (r l : Row) → r ≡ l → Legal r → map made_line (take w (replicate 64 r)) ≡ replicate (min w 64) (Some l)
like_lines w r l e f = same_lines 64 w r (made_same r f) ∙ ap (λ (x : Row). replicate (min w 64) (Some x)) e

-- the lines after the row of line l is written
pub stored_lines : (w : ℕ) (xs : List Row) (i : ℕ) (r l : Row) → i < length (map made_line (take w xs)) → r ≡ l → Legal r → map made_line (take w (set xs i r)) ≡ set (map made_line (take w xs)) i (Some l)
stored_lines w xs i r l h e f =
    lines_set w xs i r (omega (arith, lines_length w xs, h))
    ∙ ap (λ x. set (map made_line (take w xs)) i (Some x)) (made_same r f ∙ e)

-- rows that are all reset are lines that are all reset
pub lines_reset : (w : ℕ) (xs : List Row) → map made_line (take w (map reset xs)) ≡ all_reset (map made_line (take w xs))
lines_reset zero xs = refl
lines_reset (suc w) [] = refl
lines_reset (suc w) (x ∷ xs) =
    let here = reset_made x.sense in
    let more = lines_reset w xs in
    cc

-- the first rows, those that count, stand in the rows of which they alone are reset as where all are
front_reset : (w : ℕ) (xs : List Row) → take w (map reset (take (min w (length xs)) xs) ++ drop (min w (length xs)) xs) ≡ take w (map reset xs)
front_reset zero xs = refl
front_reset (suc w) [] =
    let z : min (suc w) 0 ≡ 0 = omega arith in
    rw z refl
front_reset (suc w) (x ∷ xs) =
    let z : min (suc w) (suc (length xs)) ≡ suc (min w (length xs)) = omega arith in
    rw z (ap (λ ys. reset x ∷ ys) (front_reset w xs))

-- rows of which those that count are reset, as a loop over these leaves them, are lines that are all reset
pub lines_reset_front : (w m i : ℕ) (xs ys : List Row) → m ≡ length (map made_line (take w xs)) → length (take m xs) ≤ i → ys ≡ map reset (take i (take m xs)) ++ drop i (take m xs)
    → map made_line (take w (ys ++ drop m xs)) ≡ all_reset (map made_line (take w xs))
lines_reset_front w m i xs ys e h f =
    rw (f ∙ reset_whole (take m xs) i h, e ∙ lines_length w xs) (ap (map made_line) (front_reset w xs) ∙ lines_reset w xs)
