-- One tree, as the tokens of a structure block spell it.
use Rattle.std.specs.Prelude.{◌≡◌, ℕ, suc, ◌≤◌, List, [], ◌∷◌, Ok, Result}
use Rattle.search.specs.Exactly.{Exactly}
use Rattle.cells.specs.declared.header.Header.{Header}
use Rattle.faults.specs.declared.fault.TokenFault.{TokenFault}
use Rattle.cells.specs.Cells.{Piece}
use Rattle.fdt.specs.Tokens.{Word, opens, property, closes, nothing, ends, ending}
use Rattle.fdt.specs.Items.{Item, item, all_items}
use Rattle.rules.specs.declared.walk.Walk.{Walk}

-- The next token that is no no-op, the place after it, and the tokens that follow.
pub data Next : List Item → Word → ℕ → List Item → Type 0 where
  here : (i : ℕ) (w : Word) (n : ℕ) (ts : List Item) → Next (item i w n ∷ ts) w n ts
  past : (i m : ℕ) (ts : List Item) (w : Word) (n : ℕ) (us : List Item) → Next ts w n us → Next (item i nothing m ∷ ts) w n us

-- Properties, from the first tokens up to the second.
pub data Properties : List Item → List Item → Type 0 where
  no_more : (ts : List Item) → Properties ts ts
  one_more : (ts us vs : List Item) (name value : Piece) (n : ℕ)
      → Next ts (property name value) n us → Properties us vs → Properties ts vs

mutual
  -- A node of this depth and name: it is opened, has its properties, then its subnodes, one deeper, and is closed.
  pub data Node : ℕ → Piece → List Item → List Item → Type 0 where
    node : (depth : ℕ) (name : Piece) (n m : ℕ) (ts us vs ws rest : List Item)
        → depth ≤ 16 → Next ts (opens name) n us → Properties us vs → Nodes (suc depth) vs ws → Next ws closes m rest
        → Node depth name ts rest

  -- Nodes of this depth, one after another.
  pub data Nodes : ℕ → List Item → List Item → Type 0 where
    no_node : (depth : ℕ) (ts : List Item) → Nodes depth ts ts
    one_node : (depth : ℕ) (name : Piece) (ts us vs : List Item) → Node depth name ts us → Nodes depth us vs → Nodes depth ts vs

-- One root, of depth 1 and with an empty name, then the end token, which is the last and ends where the block ends.
pub data OneTree (end : ℕ) : List Item → Type 0 where
  tree : (root : Piece) (ts us : List Item) → root.bytes ≡ [] → Node 1 root ts us → Next us ends end [] → OneTree end ts

-- A walk is accepted exactly if the tokens are one tree.
abbrev pub Accepts : List ℕ → Header → Result Walk TokenFault → Type 0
Accepts b h r = Exactly ((w : Walk) × (r ≡ Ok w)) (OneTree (ending h) (all_items b h))
