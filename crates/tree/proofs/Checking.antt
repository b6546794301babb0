-- Whether the phandles are good does not depend on how many there were before.
use Rattle.std.proofs.Common.{◌≡◌, ℕ, ◌+◌, Bool, cond, List, [], ◌∷◌, ◌++◌, Ok, Err, Result, refl}
use Rattle.faults.specs.declared.fault.RouteFault.{RouteFault}
use Rattle.fdt.specs.Tokens.{after}
use Rattle.tree.specs.Nodes.{Listed, listed, broken}
use Rattle.tree.specs.Phandles.{checked, phandle_checked, phandles_from}

same_after : (r : Result Bool RouteFault) (k l : Bool → Result ℕ RouteFault) → ((has : Bool) → checked (k has) ≡ checked (l has))
    → checked (after r k) ≡ checked (after r l)
same_after (Ok has) k l same = same has
same_after (Err f) k l same = refl

pub any_count : (n m : ℕ) (before es : List Listed) → checked (phandles_from n before es) ≡ checked (phandles_from m before es)
any_count n m before [] = refl
any_count n m before (broken f ∷ es) = refl
any_count n m before (listed e ∷ es) =
    same_after (phandle_checked before e) (λ has. phandles_from (cond has (n + 1) n) (before ++ (listed e ∷ [])) es)
    (λ has. phandles_from (cond has (m + 1) m) (before ++ (listed e ∷ [])) es)
    (λ has. any_count (cond has (n + 1) n) (cond has (m + 1) m) (before ++ (listed e ∷ [])) es)
