use Rattle.std.proofs.Common.{◌≡◌, ℕ, ◌<◌, false, drop, get_or}
use Rattle.search.specs.First.{first, first_from}
use Rattle.search.proofs.keyed.first_match.Given as goal

-- from here on the search finds what it finds from the start, and no record before fits
abbrev pub invariant-loop-i : goal.invariant-loop-i
invariant-loop-i g l =
    (first_from (λ x. g.R.Keyed.fit x l.key) l.i (drop l.i l.records) ≡ first (λ x. g.R.Keyed.fit x l.key) l.records)
    × ((k : ℕ) (d : _) → k < l.i → g.R.Keyed.fit (get_or l.records k d) l.key ≡ false)
