-- Which tokens may come where.
use Rattle.std.specs.Prelude.{ℕ, ◌+◌, ◌-◌, cond, List, [], ◌∷◌, length, Ok, Err, Result, ◌==◌, nat_le}
use Rattle.cells.specs.declared.header.Header.{Header}
use Rattle.faults.specs.declared.fault.TokenFault.{TokenFault}
use Rattle.faults.specs.declared.fault.TokenFault.TheVariants.{Past, Rule, Depth}
use Rattle.cells.specs.Cells.{Piece}
use Rattle.fdt.specs.Tokens.{Word, opens, property, closes, nothing, ends, at, ending}
use Rattle.fdt.specs.Items.{Item, item, bad, all_items}
use Rattle.rules.specs.declared.walk.Walk.{Walk}
use Rattle.rules.specs.declared.walk.Stage.{Stage}
use Rattle.rules.specs.declared.walk.Stage.TheVariants.{Start, Properties, Subnodes, Finished}

abbrev pub walk : ℕ → ℕ → Stage → Walk
walk place depth stage = record { cursor = record { place = at place; depth = depth }; stage = stage }

abbrev pub beginning : Header → Walk
beginning h = walk h.structure 0 Start

abbrev pub broken_rule : Walk → Result Walk TokenFault
broken_rule w = Err (Rule w.cursor.place)

-- a node within another, at most 16 deep
abbrev pub deeper : Walk → ℕ → Result Walk TokenFault
deeper w next = cond (nat_le 16 w.cursor.depth) (Err (Depth w.cursor.place)) (Ok (walk next (w.cursor.depth + 1) Properties))

-- the root has no name, and there is one
abbrev pub opened : Stage → Walk → Piece → ℕ → Result Walk TokenFault
opened Start w name next = cond (length name.bytes == 0) (Ok (walk next 1 Properties)) (broken_rule w)
opened Properties w name next = deeper w next
opened Subnodes w name next = deeper w next
opened Finished w name next = broken_rule w

-- properties come before subnodes, in a node
abbrev pub had : Stage → Walk → ℕ → Result Walk TokenFault
had Properties w next = Ok (walk next w.cursor.depth Properties)
had Start w next = broken_rule w
had Subnodes w next = broken_rule w
had Finished w next = broken_rule w

-- a close matches an open, and the root's is the last
abbrev pub closed : Walk → ℕ → Result Walk TokenFault
closed w next =
    cond (w.cursor.depth == 0) (broken_rule w)
    (cond (w.cursor.depth == 1) (Ok (walk next 0 Finished)) (Ok (walk next (w.cursor.depth - 1) Subnodes)))

-- the end token comes after the root, and ends the block
abbrev pub ended : Stage → ℕ → Walk → ℕ → Result Walk TokenFault
ended Finished end w next = cond (next == end) (Ok (walk next w.cursor.depth Finished)) (broken_rule w)
ended Start end w next = broken_rule w
ended Properties end w next = broken_rule w
ended Subnodes end w next = broken_rule w

-- the walk past a token, or the rule that it breaks; the structure block ends at `end`
abbrev pub admitted : ℕ → Walk → Word → ℕ → Result Walk TokenFault
admitted end w (opens name) next = opened w.stage w name next
admitted end w (property name value) next = had w.stage w next
admitted end w closes next = closed w next
admitted end w nothing next = Ok (walk next w.cursor.depth w.stage)
admitted end w ends next = ended w.stage end w next

-- the walk past the last token, or the first fault; no token comes after the end token
abbrev pub checked : ℕ → Result Walk TokenFault → List Item → Result Walk TokenFault
checked end (Err f) ts = Err f
checked end (Ok w) [] = Err (Past w.cursor.place)
checked end (Ok w) (bad f ∷ ts) = Err f
checked end (Ok w) (item i (opens name) next ∷ ts) = checked end (admitted end w (opens name) next) ts
checked end (Ok w) (item i (property name value) next ∷ ts) = checked end (admitted end w (property name value) next) ts
checked end (Ok w) (item i closes next ∷ ts) = checked end (admitted end w closes next) ts
checked end (Ok w) (item i nothing next ∷ ts) = checked end (admitted end w nothing next) ts
checked end (Ok w) (item i ends next ∷ []) = admitted end w ends next
checked end (Ok w) (item i ends next ∷ t ∷ ts) = broken_rule w

-- the walk over all tokens
abbrev pub walked : List ℕ → Header → Result Walk TokenFault
walked b h = checked (ending h) (Ok (beginning h)) (all_items b h)
