-- Which numbers are from 1 to another.
use Rattle.std.specs.Prelude.{ℕ, cond, ◌&&◌, Some, None, Option, nat_le}
use Rattle.table.specs.declared.one_to.OneTo.{OneTo}

-- an answer, as a number
abbrev pub number_seen : {most : ℕ} → Option (OneTo most) → Option ℕ
number_seen None = None
number_seen (Some x) = Some x.number

-- n, if it is 1 to most
abbrev pub in_range : ℕ → ℕ → Option ℕ
in_range most n = cond (nat_le 1 n && nat_le n most) (Some n) None
