-- The phandles of a tree.
pub use Rattle.faults.specs.Places.{places}
use Rattle.std.specs.Prelude.{◌≡◌, ℕ, ◌+◌, Bool, true, false, cond, ◌&&◌, ◌||◌, List, [], ◌∷◌, ◌++◌, length, Some, None, Ok, Err, Option, Result, ◌==◌, ◌≢◌}
use Rattle.faults.specs.declared.fault.TokenFault.{TokenFault}
use Rattle.cells.specs.Cells.{cell}
use Rattle.fdt.specs.Tokens.{after}
use Rattle.properties.specs.Properties.{Owned, sought}
use Rattle.faults.specs.declared.fault.RouteFault.{RouteFault}
use Rattle.faults.specs.declared.fault.RouteFault.TheVariants.{Token, Value, Phandle}
use Rattle.tree.specs.Nodes.{Entry, Listed, listed, broken}

-- the name `phandle`
abbrev pub phandle_name : List ℕ
phandle_name = 112 ∷ 104 ∷ 97 ∷ 110 ∷ 100 ∷ 108 ∷ 101 ∷ []

-- the phandle property of a node: the first of that name
abbrev pub phandle_of : Entry → Result (Option Owned) TokenFault
phandle_of e = sought phandle_name e.rest

-- a token's fault, held whole
abbrev pub held : {X : Type 0} → Result X TokenFault → Result X RouteFault
held (Ok x) = Ok x
held (Err f) = Err (Token f)

-- the one cell of a property's value
abbrev pub one_cell : ℕ → Owned → Result ℕ RouteFault
one_cell node p = cond (length p.value.bytes == 4) (Ok (cell p.value.bytes 0)) (Err (Value (places node p.place)))

-- a property's value is this one cell
abbrev pub is_cell : ℕ → Option Owned → Bool
is_cell x None = false
is_cell x (Some p) = length p.value.bytes == 4 && cell p.value.bytes 0 == x

-- the first node with this phandle
abbrev pub with_phandle : ℕ → List Listed → Result (Option Entry) TokenFault
with_phandle x [] = Ok None
with_phandle x (broken f ∷ es) = Err f
with_phandle x (listed e ∷ es) = after (phandle_of e) (λ p. cond (is_cell x p) (Ok (Some e)) (with_phandle x es))

-- some node has this phandle
abbrev pub used : ℕ → List Listed → Result Bool TokenFault
used x [] = Ok false
used x (broken f ∷ es) = Err f
used x (listed e ∷ es) = after (phandle_of e) (λ p. cond (is_cell x p) (Ok true) (used x es))

-- the phandle x of a node is good: not 0, not 0xffffffff, and not used by a node before
abbrev pub good_handle : ℕ → Owned → ℕ → List Listed → Result Bool RouteFault
good_handle node p x before =
    cond (x == 0 || x == 0xffffffff) (Err (Phandle (places node p.place)))
    (after (held (used x before)) (λ u. cond u (Err (Phandle (places node p.place))) (Ok true)))

-- whether a node has a phandle, which is then one cell and good
abbrev pub handle_checked : ℕ → List Listed → Option Owned → Result Bool RouteFault
handle_checked node before None = Ok false
handle_checked node before (Some p) = after (one_cell node p) (λ x. good_handle node p x before)

abbrev pub phandle_checked : List Listed → Entry → Result Bool RouteFault
phandle_checked before e = after (held (phandle_of e)) (handle_checked e.place before)

-- how many nodes have a phandle, n so far, or the first fault; `before` are the nodes before
abbrev pub phandles_from : ℕ → List Listed → List Listed → Result ℕ RouteFault
phandles_from n before [] = Ok n
phandles_from n before (broken f ∷ es) = Err (Token f)
phandles_from n before (listed e ∷ es) =
    after (phandle_checked before e) (λ has. phandles_from (cond has (n + 1) n) (before ++ (listed e ∷ [])) es)

-- how many nodes have a phandle, or the first fault
abbrev pub phandles : List Listed → Result ℕ RouteFault
phandles es = phandles_from 0 [] es

-- whether all is good, or the first fault
abbrev pub checked : {X : Type 0} → Result X RouteFault → Result Unit RouteFault
checked (Ok x) = Ok tt
checked (Err f) = Err f

-- the value of a phandle
abbrev pub handle : Owned → ℕ
handle p = cell p.value.bytes 0

-- Each phandle is one cell, neither 0 nor 0xffffffff, and no two nodes have the same.
pub record GoodPhandles (es : List Listed) : Type 0 where
  pub one : (xs ys : List Listed) (e : Entry) (p : Owned) → es ≡ xs ++ (listed e ∷ ys) → phandle_of e ≡ Ok (Some p) → length p.value.bytes ≡ 4
  pub proper : (xs ys : List Listed) (e : Entry) (p : Owned) → es ≡ xs ++ (listed e ∷ ys) → phandle_of e ≡ Ok (Some p)
      → (handle p ≢ 0) × (handle p ≢ 0xffffffff)
  pub distinct : (xs ys zs : List Listed) (d e : Entry) (p q : Owned) → es ≡ xs ++ (listed d ∷ (ys ++ (listed e ∷ zs)))
      → phandle_of d ≡ Ok (Some p) → phandle_of e ≡ Ok (Some q) → handle p ≢ handle q
