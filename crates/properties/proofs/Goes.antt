-- The first property from a place on lies in the structure block, and the next token past that place.
use Rattle.std.proofs.Common.{◌≡◌, ℕ, zero, suc, ◌+◌, ◌-◌, ◌<◌, ◌≤◌, List, Some, None, Ok, Err, Option, Result, sym, refl, ap, ◌∙◌, arith}
use Rattle.cells.specs.declared.header.Header.{Header}
use Rattle.faults.specs.declared.fault.TokenFault.{TokenFault}
use Rattle.fdt.specs.Tokens.{Word, opens, property, closes, nothing, ends, token_at, ending}
use Rattle.fdt.specs.Items.{items, more}
use Rattle.fdt.proofs.Onward.{goes_on, items_is}
use Rattle.properties.specs.Properties.{Owned, first_property}

module _ (b : List ℕ) (h : Header) (o : Owned) where
  abbrev Goes : ℕ → Type 0
  Goes i = (i + 4 ≤ o.next) × (i + 4 ≤ ending h)

  no_property : {A : Type 0} → ◌≡◌ {A = Result (Option Owned) TokenFault} (Ok None) (Ok (Some o)) → A
  no_property e = absurd (let y : ◌≡◌ {A = ℕ} 0 1 = cc in omega arith)

  no_fault : {A : Type 0} (f : TokenFault) → ◌≡◌ {A = Result (Option Owned) TokenFault} (Err f) (Ok (Some o)) → A
  no_fault f e = absurd (let y : ◌≡◌ {A = ℕ} 0 1 = cc in omega arith)

  -- at a token that was read, where the same holds from the next place on
  by_token : (i : ℕ) (r : Result (Word × ℕ) TokenFault) → token_at b h i ≡ r
      → ((j : ℕ) → i + 4 ≤ j → i + 4 ≤ ending h → first_property (items b h j) ≡ Ok (Some o) → Goes j)
      → first_property (more (items b h) i r) ≡ Ok (Some o) → Goes i
  by_token i (Err f) t later e = no_fault f e
  by_token i (Ok (opens n, next)) t later e = no_property e
  by_token i (Ok (property n v, next)) t later e =
      let g = goes_on b h i (property n v) next t in
      let s : next ≡ o.next = cc in
      (omega arith, g.0)
  by_token i (Ok (closes, next)) t later e = no_property e
  by_token i (Ok (nothing, next)) t later e =
      let g = goes_on b h i nothing next t in
      let l = later next g.1 g.0 e in
      (omega arith, g.0)
  by_token i (Ok (ends, next)) t later e = no_property e

  within : (n i : ℕ) → ending h - i < n → first_property (items b h i) ≡ Ok (Some o) → Goes i
  within zero i lt e = absurd (omega arith)
  within (suc n) i lt e =
      by_token i (token_at b h i) refl
      (λ j past inside f. within n j (omega arith) f)
      (sym (ap first_property (items_is b h i)) ∙ e)

  pub first_goes : (i : ℕ) → first_property (items b h i) ≡ Ok (Some o) → Goes i
  first_goes i e = within (suc (ending h - i)) i (omega arith) e
