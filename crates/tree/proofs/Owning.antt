-- The properties from a place on are the first one there and those after it.
use Rattle.std.proofs.Common.{◌≡◌, ℕ, zero, suc, ◌-◌, ◌<◌, List, [], ◌∷◌, Some, None, Ok, Err, Option, Result, refl, arith}
use Rattle.cells.specs.declared.header.Header.{Header}
use Rattle.faults.specs.declared.fault.TokenFault.{TokenFault}
use Rattle.fdt.proofs.Onward.{goes_on, items_is}
use Rattle.fdt.specs.Items.{onward, more, items}
use Rattle.fdt.specs.Tokens.{Word, opens, property, closes, nothing, ends, ending, token_at}
use Rattle.properties.specs.Properties.{Owned, first_property}
use Rattle.tree.specs.NodeProperties.{properties}

-- the list whose first property was read, and of which k has those after a property
abbrev pub owned_by : (Owned → List (Result Owned TokenFault)) → Result (Option Owned) TokenFault → List (Result Owned TokenFault)
owned_by k (Ok None) = []
owned_by k (Ok (Some o)) = Ok o ∷ k o
owned_by k (Err f) = Err f ∷ []

module _ (b : List ℕ) (h : Header) where
  abbrev later : Owned → List (Result Owned TokenFault)
  later o = properties (items b h o.next)

  by_word : (i : ℕ) (w : Word) (next : ℕ) → properties (items b h next) ≡ owned_by later (first_property (items b h next))
      → properties (onward (items b h) i w next) ≡ owned_by later (first_property (onward (items b h) i w next))
  by_word i (opens n) next ih = refl
  by_word i (property n v) next ih = refl
  by_word i closes next ih = refl
  by_word i nothing next ih = ih
  by_word i ends next ih = refl

  by_token : (i : ℕ) (r : Result (Word × ℕ) TokenFault)
      → ((w : Word) (next : ℕ) → r ≡ Ok (w, next) → properties (items b h next) ≡ owned_by later (first_property (items b h next)))
      → properties (more (items b h) i r) ≡ owned_by later (first_property (more (items b h) i r))
  by_token i (Err f) ih = refl
  by_token i (Ok x) ih = by_word i x.0 x.1 (ih x.0 x.1 refl)

  by_fuel : (n i : ℕ) → ending h - i < n → properties (items b h i) ≡ owned_by later (first_property (items b h i))
  by_fuel zero i p = absurd (omega arith)
  by_fuel (suc n) i p =
      rw (items_is b h i) (by_token i (token_at b h i) (λ w next e. let g = goes_on b h i w next e in by_fuel n next (omega arith)))

  pub properties_by : (i : ℕ) → properties (items b h i) ≡ owned_by later (first_property (items b h i))
  properties_by i = by_fuel (suc (ending h - i)) i (omega arith)
