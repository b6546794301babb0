-- The first node of the tokens from a place on: its tokens are those from its body on, it lies in the structure block, and its body
-- past that place.
use Rattle.std.proofs.Common.{◌≡◌, ℕ, zero, suc, ◌+◌, ◌-◌, ◌<◌, ◌≤◌, Bool, true, false, cond, List, [], ◌∷◌, Some, Ok, Err, Result, nat_le, sym, refl, ap, ◌∙◌, arith}
use Rattle.cells.specs.declared.header.Header.{Header}
use Rattle.faults.specs.declared.fault.TokenFault.{TokenFault}
use Rattle.faults.specs.declared.fault.TokenFault.TheVariants.{Depth}
use Rattle.cells.specs.Cells.{Piece}
use Rattle.fdt.specs.Tokens.{Word, opens, property, closes, nothing, ends, at, token_at, ending}
use Rattle.fdt.specs.Items.{items, more}
use Rattle.fdt.proofs.Onward.{goes_on, items_is}
use Rattle.tree.specs.Nodes.{Entry, Listed, listed, broken, first_node, nodes}

module _ (b : List ℕ) (h : Header) (e : Entry) (es : List Listed) where
  abbrev Goes : ℕ → Type 0
  Goes i = (e.rest ≡ items b h e.body) × (es ≡ nodes e.depth (items b h e.body)) × (i + 4 ≤ e.body) × (i + 4 ≤ ending h)

  -- it is the first one from its own place on
  abbrev Again : Type 0
  Again = first_node (nodes (e.depth - 1) (items b h e.place)) ≡ Ok (Some e)

  -- at a token that opens a node
  by_open : (d i : ℕ) (n : Piece) (next : ℕ) (deep : Bool) → i + 4 ≤ next → i + 4 ≤ ending h → nodes d (items b h i) ≡ listed e ∷ es
      → cond deep (broken (Depth (at i)) ∷ []) (listed (record { place = i; name = n; body = next; depth = d + 1; rest = items b h next }) ∷ nodes (d + 1) (items b h next)) ≡ listed e ∷ es
      → Goes i × Again
  by_open d i n next true past inside f q = cc
  by_open d i n next false past inside f q =
      let body : next ≡ e.body = cc in
      let depth : d + 1 ≡ e.depth = cc in
      let above : e.depth - 1 ≡ d = omega arith in
      ((cc, cc, omega arith, inside), cc)

  -- at a token that was read, where the same follows from the nodes from the next place on
  by_token : (d i : ℕ) (r : Result (Word × ℕ) TokenFault) → token_at b h i ≡ r → nodes d (items b h i) ≡ listed e ∷ es
      → ((c : ℕ) (w : Word) (j : ℕ) → token_at b h i ≡ Ok (w, j) → nodes c (items b h j) ≡ listed e ∷ es → Goes i × Again)
      → nodes d (more (items b h) i r) ≡ listed e ∷ es → Goes i × Again
  by_token d i (Err g) t f later q = cc
  by_token d i (Ok (opens n, next)) t f later q = let g = goes_on b h i (opens n) next t in by_open d i n next (nat_le 16 d) g.1 g.0 f q
  by_token d i (Ok (property n v, next)) t f later q = later d (property n v) next t q
  by_token zero i (Ok (closes, next)) t f later q = cc
  by_token (suc d) i (Ok (closes, next)) t f later q = later d closes next t q
  by_token d i (Ok (nothing, next)) t f later q = later d nothing next t q
  by_token d i (Ok (ends, next)) t f later q = cc

  within : (n d i : ℕ) → ending h - i < n → nodes d (items b h i) ≡ listed e ∷ es → Goes i × Again
  within zero d i lt q = absurd (omega arith)
  within (suc n) d i lt q =
      by_token d i (token_at b h i) refl q
      (λ c w j t f.
      let g = goes_on b h i w j t in
      let l = within n c j (omega arith) f in
      ((l.0.0, l.0.1, omega arith, g.0), l.1))
      (sym (ap (nodes d) (items_is b h i)) ∙ q)

  pub first_listed : (d i : ℕ) → nodes d (items b h i) ≡ listed e ∷ es → Goes i
  first_listed d i q = (within (suc (ending h - i)) d i (omega arith) q).0

  pub listed_again : (d i : ℕ) → nodes d (items b h i) ≡ listed e ∷ es → Again
  listed_again d i q = (within (suc (ending h - i)) d i (omega arith) q).1
