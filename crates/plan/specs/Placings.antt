-- The order in which controllers are placed, and the line of each one's input 0.
use Rattle.std.specs.Prelude.{ℕ, zero, suc, ◌+◌, Bool, false, not, ◌&&◌, List, [], ◌∷◌, ◌++◌, length, is_some, Some, None, Ok, Err, Option, Result, ◌==◌, slice_get, slice_set}
use Rattle.search.specs.First.{first}
use Rattle.fdt.specs.Tokens.{after}
use Rattle.board_faults.specs.declared.BoardFault.{BoardFault}
use Rattle.board_faults.specs.declared.BoardFault.TheVariants as fault
use Rattle.kinds.specs.Kinds.{width_of}
use Rattle.plan.specs.declared.placed.Parent.{Parent}
use Rattle.plan.specs.declared.placed.Parent.TheVariants.{Root, At, Several}
use Rattle.plan.specs.Controllers.{Made}

-- the controllers, the numbers of those that are placed, in order, and how many lines these have
pub record Placed : Type 0 where
  pub controllers : List Made
  pub order : List ℕ
  pub lines : ℕ

abbrev pub is_placed : Option Made → Bool
is_placed None = false
is_placed (Some c) = is_some c.first_line

-- a root may be placed where none is, and another controller where its parent is placed
abbrev pub follows : Placed → Parent → Bool
follows p Root = length p.order == 0
follows p (At s) = is_placed (slice_get p.controllers s.controller)
follows p Several = false

abbrev pub may_place : Placed → Made → Bool
may_place p c = not (is_some c.first_line) && follows p c.parent

abbrev pub lined : ℕ → Made → Made
lined line c = record { node = c.node; kind = c.kind; parent = c.parent; first_line = Some line }

-- the smallest-numbered controller that may be placed
abbrev pub next_placed : Placed → Option ℕ
next_placed p = first (may_place p) p.controllers

abbrev pub place_by : ℕ → Placed → Option Made → Result Placed BoardFault
place_by k p None = Err fault.Root
place_by k p (Some c) = Ok (record {
  controllers = slice_set p.controllers k (lined p.lines c);
  order = p.order ++ k ∷ [];
  lines = p.lines + width_of c.kind;
})

-- the controller k is placed
abbrev pub place_at : ℕ → Placed → Result Placed BoardFault
place_at k p = place_by k p (slice_get p.controllers k)

abbrev pub place_next : Placed → Option ℕ → Result Placed BoardFault
place_next p None = Err fault.Root
place_next p (Some k) = place_at k p

-- one controller more is placed
abbrev pub place_one : Placed → Result Placed BoardFault
place_one p = place_next p (next_placed p)

abbrev pub place_more : ℕ → Placed → Result Placed BoardFault
place_more zero p = Ok p
place_more (suc n) p = after (place_one p) (place_more n)

abbrev pub starting : List Made → Placed
starting cs = record { controllers = cs; order = []; lines = 0 }

-- all controllers, placed
abbrev pub placed : List Made → Result Placed BoardFault
placed cs = place_more (length cs) (starting cs)
