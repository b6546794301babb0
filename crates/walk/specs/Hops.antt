-- The rows that were taken.
use Rattle.std.specs.Prelude.{ℕ, cond, List, length, take, Some, None, Option, nat_lt, slice_index_or}
use Rattle.fdt.specs.Tokens.{at}
use Rattle.walk.specs.declared.hops.Hop.{Hop}
use Rattle.walk.specs.declared.hops.Hops.{Hops}

-- the hops in order
abbrev pub hops_of : Hops → List Hop
hops_of h = take h.count h.list

abbrev pub no_hop : Hop
no_hop = record { nexus = at 0; row = 0 }

-- the hop at an index, none past the last
abbrev pub hop_at : ℕ → List Hop → Option Hop
hop_at i hs = cond (nat_lt i (length hs)) (Some (slice_index_or hs i no_hop)) None
