-- Where the lines of a pair stand.
use Rattle.std.specs.Prelude.{ℕ, ◌-◌, cond, Some, None, Option, ◌==◌, nat_lt}
use Rattle.cascade.specs.declared.pair.Side.{Side}
use Rattle.cascade.specs.declared.pair.Side.TheVariants.{Parent, Wired, Child}

-- where line i of a pair stands, by the parent's width w and the wired line
abbrev pub side_of : ℕ → Option ℕ → ℕ → Side
side_of w None i = Parent
side_of w (Some k) i = cond (i == k) Wired (cond (nat_lt i w) Parent (Child k (i - w)))
