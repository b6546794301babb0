-- Rows that are records, and a loop that resets rows.
use Rattle.std.proofs.Common.{◌≡◌, ℕ, ◌+◌, ◌<◌, ◌≤◌, Bool, true, false, List, ◌++◌, map, length, take, drop, get_or, set, refl, sym, ap, ◌∙◌}
use Rattle.std.proofs.lemmas.List.{append-nil, drop_all, take_all}
use Rattle.std.proofs.lemmas.List.Edits.{map_over_more}
use Rattle.line.specs.declared.row.Row.{Row}
use Rattle.line.specs.declared.row.Sense.{Sense}
use Rattle.line.specs.declared.row.Sense.TheVariants.{Edge, Following, Gated}
use Rattle.line.specs.Rows.{Legal, fresh, made, made_request}
use Rattle.line.specs.Steps.{reset}

-- a row that is a record makes itself
request_same : (s : Sense) (l v q : Bool) → (s ≡ Following → q ≡ l) → (s ≡ Gated → v ≡ true → q ≡ false) → made_request s l v q ≡ q
request_same Edge l v q f g = refl
request_same Following l v q f g = sym (f refl)
request_same Gated l true q f g = sym (g refl refl)
request_same Gated l false q f g = refl

pub made_same : (r : Row) → Legal r → made r ≡ r
made_same r e = λ t. record { sense = r.sense; level = r.level; request = request_same r.sense r.level r.service r.request e.follows e.gated t; service = r.service; mask = r.mask }

pub reset_made : (s : Sense) → made (fresh s) ≡ fresh s
reset_made s = made_same (fresh s) (record { follows = λ e. refl; gated = λ e h. refl })

-- a step of a loop that resets the rows
pub reset_more : (xs ys : List Row) (i : ℕ) (x r : Row) → i < length xs → ys ≡ map reset (take i xs) ++ drop i xs → x ≡ get_or ys i x → r ≡ reset x → set ys i r ≡ map reset (take (i + 1) xs) ++ drop (i + 1) xs
reset_more xs ys i x r h e a b = ap (set ys i) b ∙ map_over_more reset xs ys i x h e a

-- the end of that loop
pub reset_whole : (xs : List Row) (i : ℕ) → length xs ≤ i → map reset (take i xs) ++ drop i xs ≡ map reset xs
reset_whole xs i h = rw (take_all i xs h, drop_all i xs h) (append-nil (map reset xs))
