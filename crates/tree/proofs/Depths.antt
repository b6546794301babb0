-- No node of a list is deeper than 16.
use Rattle.std.proofs.Common.{◌≡◌, ℕ, zero, suc, ◌+◌, ◌≤◌, Bool, true, false, leb, cond, List, [], ◌∷◌, Some, None, Option, refl, ap, arith}
use Rattle.std.proofs.lemmas.Bool.{leb-false}
use Rattle.faults.specs.declared.fault.TokenFault.{TokenFault}
use Rattle.faults.specs.declared.fault.TokenFault.TheVariants.{Depth}
use Rattle.fdt.specs.declared.cursor.Cursor.{Cursor}
use Rattle.fdt.specs.Items.{Item, item, bad}
use Rattle.fdt.specs.Tokens.{opens, property, closes, nothing, ends, at}
use Rattle.tree.specs.declared.nodes.Nodes.{Nodes}
use Rattle.tree.specs.declared.tree.Tree.{Tree}
use Rattle.tree.specs.Listing.{nodes_at, nodes_left}
use Rattle.tree.specs.Nodes.{Entry, Listed, listed, broken, nodes}
use Rattle.tree.specs.Reads.{tokens_in}

opened_depth : (t : Bool) (depth : ℕ) (f : TokenFault) (d e : Entry) (ds es : List Listed) → leb 16 depth ≡ t → d.depth ≡ depth + 1
    → cond t (broken f ∷ []) (listed d ∷ ds) ≡ listed e ∷ es → e.depth ≤ 16
opened_depth true depth f d e ds es t h q = cc
opened_depth false depth f d e ds es t h q =
    let same : d ≡ e = cc in
    let depth_same : d.depth ≡ e.depth = ap (λ z. z.depth) same in
    omega (arith, leb-false 16 depth t)

first_depth : (depth : ℕ) (ts : List Item) (e : Entry) (es : List Listed) → nodes depth ts ≡ listed e ∷ es → e.depth ≤ 16
first_depth depth [] e es q = cc
first_depth depth (bad f ∷ ts) e es q = cc
first_depth depth (item i (opens name) next ∷ ts) e es q =
    opened_depth (leb 16 depth) depth (Depth (at i)) (record { place = i; name = name; body = next; depth = depth + 1; rest = ts }) e (nodes (depth + 1) ts) es refl refl q
first_depth depth (item i (property name value) next ∷ ts) e es q = first_depth depth ts e es q
first_depth zero (item i closes next ∷ ts) e es q = cc
first_depth (suc depth) (item i closes next ∷ ts) e es q = first_depth depth ts e es q
first_depth depth (item i nothing next ∷ ts) e es q = first_depth depth ts e es q
first_depth depth (item i ends next ∷ ts) e es q = cc

depth_at : (t : Tree) (at : Option Cursor) (e : Entry) (es : List Listed) → nodes_at t at ≡ listed e ∷ es → e.depth ≤ 16
depth_at t None e es q = cc
depth_at t (Some c) e es q = first_depth c.depth (tokens_in t c.place.0) e es q

-- the node that an iterator gives next
pub depth_next : (s : Nodes) (e : Entry) (es : List Listed) → nodes_left s ≡ listed e ∷ es → e.depth ≤ 16
depth_next s e es q = depth_at s.tree s.at e es q
