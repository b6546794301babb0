-- A row is taken, and one fewer is left.
use Rattle.std.proofs.Common.{◌≡◌, ℕ, zero, suc, ◌-◌, List, [], ◌∷◌, ◌++◌, Some, Ok, Option, sym, refl, ap, arith}
use Rattle.faults.specs.declared.place.At.{At}
use Rattle.nexus.specs.Nexuses.{Ready, nexus_at}
use Rattle.nexus.specs.Rows.{Took, taken_row}
use Rattle.properties.specs.Properties.{Owned}
use Rattle.specifiers.specs.Specifiers.{Specified}
use Rattle.tree.specs.Nodes.{Entry, Listed}
use Rattle.walk.specs.declared.hops.Hop.{Hop}
use Rattle.walk.specs.Walks.{hop, onward, arrived, looked_up}

module _ (es : List Listed) (s : Specified) where
  onward_less : (k : ℕ) (holder : At) (e : Entry) (given : Option (List ℕ)) (cells : List ℕ) (hops : List Hop) → (k ≡ 0 → ⊥)
      → onward k es s holder e given cells hops ≡ arrived (k - 1) es s e given cells hops
  onward_less zero holder e given cells hops h = absurd (h refl)
  onward_less (suc k) holder e given cells hops h =
      let a : k ≡ suc k - 1 = omega arith in ap (λ j. arrived j es s e given cells hops) a

  pub looked_on : (k : ℕ) (e : Entry) (p : Owned) (given : Option (List ℕ)) (cells : List ℕ) (hops : List Hop) (n : Ready) (t : Took)
      → Ok n ≡ nexus_at s.device e p given cells → Ok t ≡ taken_row es n → (k ≡ 0 → ⊥)
      → (hs : List Hop) → hs ≡ hops ++ hop e t.row ∷ []
      → arrived (k - 1) es s t.parent (Some t.unit) t.specifier hs ≡ looked_up k es s e p given cells hops
  looked_on k e p given cells hops n t en et h hs eh =
      rw (← en, ← et, eh) (sym (onward_less k n.holder t.parent (Some t.unit) t.specifier (hops ++ hop e t.row ∷ []) h))
