-- There are no more nodes than tokens, and no more tokens than bytes in the structure block.
use Rattle.std.proofs.Common.{ℕ, zero, suc, ◌+◌, ◌-◌, ◌<◌, ◌≤◌, ◌^◌, Bool, true, false, leb, cond, List, [], ◌∷◌, length, Ok, Err, Result, arith}
use Rattle.cells.specs.declared.header.Header.{Header}
use Rattle.faults.specs.declared.fault.TokenFault.{TokenFault}
use Rattle.faults.specs.declared.fault.TokenFault.TheVariants.{Depth}
use Rattle.fdt.specs.Items.{Item, item, bad, onward, more, items_in, items}
use Rattle.fdt.specs.Tokens.{Word, opens, property, closes, nothing, ends, at, ending, token_at}
use Rattle.tree.specs.Nodes.{Listed, listed, broken, nodes, all_nodes}

onward_few : (k : ℕ → List Item) (i : ℕ) (w : Word) (next n : ℕ) → length (k next) ≤ n → length (onward k i w next) ≤ suc n
onward_few k i (opens name) next n few = omega arith
onward_few k i (property name value) next n few = omega arith
onward_few k i closes next n few = omega arith
onward_few k i nothing next n few = omega arith
onward_few k i ends next n few = omega arith

more_few : (k : ℕ → List Item) (i : ℕ) (r : Result (Word × ℕ) TokenFault) (n : ℕ) → ((next : ℕ) → length (k next) ≤ n) → length (more k i r) ≤ suc n
more_few k i (Ok x) n few = onward_few k i x.0 x.1 n (few x.1)
more_few k i (Err f) n few = omega arith

items_few : (n : ℕ) (b : List ℕ) (h : Header) (i : ℕ) → length (items_in n b h i) ≤ n
items_few zero b h i = omega arith
items_few (suc n) b h i = more_few (items_in n b h) i (token_at b h i) n (items_few n b h)

open_few : (t : Bool) (f : TokenFault) (d : Listed) (es : List Listed) (ts : List Item) → length es ≤ length ts → length (cond t (broken f ∷ []) (d ∷ es)) ≤ suc (length ts)
open_few true f d es ts few = omega arith
open_few false f d es ts few = omega arith

nodes_few : (depth : ℕ) (ts : List Item) → length (nodes depth ts) ≤ length ts
nodes_few depth [] = omega arith
nodes_few depth (bad f ∷ ts) = omega arith
nodes_few depth (item i (opens name) next ∷ ts) =
    open_few (leb 16 depth) (Depth (at i)) (listed (record { place = i; name = name; body = next; depth = depth + 1; rest = ts })) (nodes (depth + 1) ts) ts (nodes_few (depth + 1) ts)
nodes_few depth (item i (property name value) next ∷ ts) = omega (arith, nodes_few depth ts)
nodes_few zero (item i closes next ∷ ts) = omega arith
nodes_few (suc depth) (item i closes next ∷ ts) = omega (arith, nodes_few depth ts)
nodes_few depth (item i nothing next ∷ ts) = omega (arith, nodes_few depth ts)
nodes_few depth (item i ends next ∷ ts) = omega arith

pub nodes_fit : (b : List ℕ) (h : Header) → ending h < 2 ^ 33 → length (all_nodes b h) < 2 ^ 64
unfolding items
nodes_fit b h low =
    let few = nodes_few 0 (items b h h.structure) in
    let most = items_few (suc (ending h - h.structure)) b h h.structure in
    omega arith
