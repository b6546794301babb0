-- Where the walk accepts the tokens, every node and every property can be read.
use Rattle.std.proofs.Common.{◌≡◌, ℕ, zero, suc, ◌+◌, Bool, true, false, cond, eqb, leb, List, [], ◌∷◌, ◌++◌, length, Some, None, Ok, Err, Option, sym, refl, ap, ◌∙◌, arith}
use Rattle.std.specs.Str.{bytes_eq}
use Rattle.faults.specs.declared.fault.TokenFault.TheVariants.{Rule, Depth}
use Rattle.cells.specs.Cells.{Piece}
use Rattle.fdt.specs.Tokens.{opens, property, closes, nothing, ends, at}
use Rattle.fdt.specs.Items.{Item, item, bad}
use Rattle.properties.specs.Properties.{Owned, sought}
use Rattle.rules.specs.declared.walk.Walk.{Walk}
use Rattle.rules.specs.declared.walk.Stage.TheVariants.{Start, Properties as Owning}
use Rattle.rules.specs.Rules.{walk, checked}
use Rattle.tree.specs.Nodes.{Listed, listed, broken, nodes}
use Rattle.tree.specs.Opening.{Readable}
use Rattle.rules.proofs.Trees.{Standing, start, inside, done, depth_of, stand, close_in}

pub readable_more : (es fs : List Listed) → Readable es → Readable fs → Readable (es ++ fs)
readable_more [] fs x y = y
readable_more (broken f ∷ es) fs x y = absurd x
readable_more (listed e ∷ es) fs x y = (x.0, readable_more es fs x.1 y)

-- some property or none is found
abbrev Found : List ℕ → List Item → Type 0
Found name ts = (o : Option Owned) × (sought name ts ≡ Ok o)

module _ (end : ℕ) (name : List ℕ) (v : Walk) where
  named_or : (i : ℕ) (key value : Piece) (n : ℕ) (ts : List Item) (t : Bool) → Found name ts
      → (o : Option Owned) × (cond t (Ok (Some (record { place = i; name = key; value = value; next = n }))) (sought name ts) ≡ Ok o)
  named_or i key value n ts true x = (Some (record { place = i; name = key; value = value; next = n }), refl)
  named_or i key value n ts false x = x

  found : (ts : List Item) (s : Standing) (p : ℕ) → checked end (Ok (stand p s)) ts ≡ Ok v → Found name ts
  found [] s p e = (None, refl)
  found (bad f ∷ ts) s p e = cc
  found (item i nothing n ∷ ts) s p e = found ts s n e
  found (item i (opens key) n ∷ ts) s p e = (None, refl)
  found (item i closes n ∷ ts) s p e = (None, refl)
  found (item i ends n ∷ ts) s p e = (None, refl)
  found (item i (property key value) n ∷ ts) start p e = cc
  found (item i (property key value) n ∷ ts) (inside true d) p e = named_or i key value n ts (bytes_eq key.bytes name) (found ts (inside true d) n e)
  found (item i (property key value) n ∷ ts) (inside false d) p e = cc
  found (item i (property key value) n ∷ ts) done p e = cc

module _ (end : ℕ) (v : Walk) where
  root_readable : (i n : ℕ) (name : Piece) (ts : List Item) (p : ℕ) (t : Bool)
      → checked end (cond t (Ok (stand n (inside true 0))) (Err (Rule (at p)))) ts ≡ Ok v
      → (checked end (Ok (stand n (inside true 0))) ts ≡ Ok v → Readable (nodes 1 ts)) → Readable (nodes 0 (item i (opens name) n ∷ ts))
  root_readable i n name ts p false e ih = cc
  root_readable i n name ts p true e ih = (λ key. found end key v ts (inside true 0) n e, ih e)

  sub_readable : (i n d : ℕ) (name : Piece) (ts : List Item) (p : ℕ) (t : Bool) → leb 16 (suc d) ≡ t
      → checked end (cond t (Err (Depth (at p))) (Ok (walk n (suc d + 1) Owning))) ts ≡ Ok v
      → (checked end (Ok (stand n (inside true (suc d)))) ts ≡ Ok v → Readable (nodes (suc (suc d)) ts))
      → Readable (nodes (suc d) (item i (opens name) n ∷ ts))
  sub_readable i n d name ts p true et e ih = cc
  sub_readable i n d name ts p false et e ih =
      let a : suc d + 1 ≡ suc (suc d) = omega arith in
      let q = rw a at e in
      rw (et, a) (λ key. found end key v ts (inside true (suc d)) n q, ih q)

  readable : (ts : List Item) (s : Standing) (p : ℕ) → checked end (Ok (stand p s)) ts ≡ Ok v → Readable (nodes (depth_of s) ts)
  readable [] s p e = cc
  readable (bad f ∷ ts) s p e = cc
  readable (item i nothing n ∷ ts) s p e = readable ts s n e
  readable (item i (opens name) n ∷ ts) start p e = root_readable i n name ts p (eqb (length name.bytes) 0) e (readable ts (inside true 0) n)
  readable (item i (opens name) n ∷ ts) (inside true d) p e = sub_readable i n d name ts p (leb 16 (suc d)) refl e (readable ts (inside true (suc d)) n)
  readable (item i (opens name) n ∷ ts) (inside false d) p e = sub_readable i n d name ts p (leb 16 (suc d)) refl e (readable ts (inside true (suc d)) n)
  readable (item i (opens name) n ∷ ts) done p e = cc
  readable (item i (property name value) n ∷ ts) start p e = cc
  readable (item i (property name value) n ∷ ts) (inside true d) p e = readable ts (inside true d) n e
  readable (item i (property name value) n ∷ ts) (inside false d) p e = cc
  readable (item i (property name value) n ∷ ts) done p e = cc
  readable (item i closes n ∷ ts) start p e = cc
  readable (item i closes n ∷ ts) (inside b zero) p e = readable ts done n (sym (ap (λ r. checked end r ts) (close_in end p b zero n)) ∙ e)
  readable (item i closes n ∷ ts) (inside b (suc d)) p e = readable ts (inside false d) n (sym (ap (λ r. checked end r ts) (close_in end p b (suc d) n)) ∙ e)
  readable (item i closes n ∷ ts) done p e = cc
  readable (item i ends n ∷ ts) s p e = tt

  pub readable_nodes : (p : ℕ) (ts : List Item) → checked end (Ok (walk p 0 Start)) ts ≡ Ok v → Readable (nodes 0 ts)
  readable_nodes p ts e = readable ts start p e
