-- What the side of a line says.
use Rattle.std.specs.Prelude.{◌≡◌, ℕ, ◌-◌, ◌<◌, ◌≤◌, Some, ◌≢◌}
use Rattle.std.proofs.Common.{arith}
use Rattle.std.proofs.lemmas.Bool.Decides.{nat_tests}
use Rattle.cascade.specs.declared.pair.Side.TheVariants.{Parent, Wired, Child}
use Rattle.cascade.specs.Sides.{side_of}

at_k : (w k i : ℕ) → i ≡ k → side_of w (Some k) i ≡ Wired
at_k w k i q = grind (arith, nat_tests)

below : (w k i : ℕ) → (i ≢ k) → i < w → side_of w (Some k) i ≡ Parent
below w k i n h = grind (arith, nat_tests)

above : (w k i : ℕ) → (i ≢ k) → w ≤ i → side_of w (Some k) i ≡ Child k (i - w)
above w k i n h = grind (arith, nat_tests)

pub parent_side : (w k i : ℕ) → Parent ≡ side_of w (Some k) i → (i < w) × (i ≢ k)
parent_side w k i e = grind (arith, nat_tests)

pub wired_side : (w k i : ℕ) → Wired ≡ side_of w (Some k) i → i ≡ k
wired_side w k i e = grind (arith, nat_tests)

pub child_side : (w l k j i : ℕ) → Child k j ≡ side_of w (Some l) i → (l ≡ k) × (j ≡ i - w) × (w ≤ i)
child_side w l k j i e = grind (arith, nat_tests)
