-- The lines of an array of rows, read, written and reset.
use Rattle.std.proofs.Common.{◌≡◌, ℕ, suc, ◌+◌, ◌≢◌, cond, List, [], ◌∷◌, map, length, set, Some, None, Option, sym, refl, ap, ◌∙◌, arith}
use Rattle.std.proofs.lemmas.List.{length-map, length-set, map-set, set_comm}
use Rattle.line.specs.declared.row.Row.{Row}
use Rattle.line.specs.declared.row.Step.TheVariants.{Reset}
use Rattle.line.specs.Rows.{Legal}
use Rattle.line.specs.Steps.{reset}
use Rattle.line.proofs.Records.{made_same, reset_made}
use Rattle.controller.specs.Meaning.{all_reset, at, moved}
use Rattle.highest_first.specs.Highest.{highest_below, lines_of, made_line, ready}

pub lines_length : (xs : List Row) → length (lines_of xs) ≡ length xs
lines_length xs = length-set (map made_line xs) 5 None ∙ length-map xs made_line

-- the lines after the row of line l is written, if it is not the wired one's
pub stored_lines : (xs : List Row) (i : ℕ) (r l : Row) → i ≢ 5 → r ≡ l → Legal r → lines_of (set xs i r) ≡ set (lines_of xs) i (Some l)
stored_lines xs i r l n e f =
    ap (λ ys. set ys 5 None) (map-set made_line xs i r)
    ∙ set_comm (map made_line xs) i 5 (made_line r) None n
    ∙ ap (λ x. set (lines_of xs) i (Some x)) (made_same r f ∙ e)

map_reset : (xs : List Row) → map made_line (map reset xs) ≡ all_reset (map made_line xs)
map_reset [] = refl
map_reset (x ∷ xs) =
    let here = reset_made x.sense in
    let more = map_reset xs in
    cc

-- rows that are all reset are lines that are all reset
pub lines_reset : (xs : List Row) → lines_of (map reset xs) ≡ all_reset (lines_of xs)
lines_reset xs =
    ap (λ ys. set ys 5 None) (map_reset xs)
    ∙ sym (map-set (moved Reset) (map made_line xs) 5 None)

-- a step of the search from the last line down
pub highest_step : (ls : List (Option Row)) (n m : ℕ) → m ≡ n + 1 → highest_below ls m ≡ cond (ready (at ls n)) (Some n) (highest_below ls n)
highest_step ls n m e = let s : m ≡ suc n = omega arith in ap (highest_below ls) s
