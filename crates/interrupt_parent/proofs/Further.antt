-- One candidate of those that are left.
use Rattle.std.proofs.Common.{◌≡◌, ℕ, suc, ◌+◌, ◌-◌, ◌<◌, ◌≤◌, List, Err, arith}
use Rattle.faults.specs.declared.fault.RouteFault.TheVariants.{NoParent}
use Rattle.fdt.specs.Tokens.{at, after}
use Rattle.tree.specs.Nodes.{Entry, Listed}
use Rattle.interrupt_parent.specs.Parents.{parent_by, parent_within, candidate}

-- the search with so many candidates looked at, of `most`
pub looked_once : (most looked : ℕ) (es : List Listed) (device : ℕ) (e : Entry) → looked < most
    → parent_within (most - looked) es device e ≡ after (candidate es e) (parent_by (parent_within (most - (looked + 1)) es device) device)
looked_once most looked es device e h = let k : most - looked ≡ suc (most - (looked + 1)) = omega arith in rw k

pub looked_at_all : (most looked : ℕ) (es : List Listed) (device : ℕ) (e : Entry) → most ≤ looked
    → parent_within (most - looked) es device e ≡ Err (NoParent (at device))
looked_at_all most looked es device e h = let k : most - looked ≡ 0 = omega arith in rw k
