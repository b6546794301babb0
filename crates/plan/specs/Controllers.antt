-- The controllers of a tree.
use Rattle.std.specs.Prelude.{ℕ, Bool, true, false, cond, ◌==◌, ◌&&◌, List, [], ◌∷◌, ◌++◌, length, codes, Some, None, Ok, Err, Option, Result, nat_le}
use Rattle.fdt.specs.Tokens.{after}
use Rattle.tree.specs.Nodes.{Entry, Listed, listed, broken}
use Rattle.values.specs.Values.{has}
use Rattle.faults.specs.declared.fault.RouteFault.TheVariants.{Token}
use Rattle.board_faults.specs.declared.BoardFault.{BoardFault}
use Rattle.board_faults.specs.declared.BoardFault.TheVariants as fault
use Rattle.kinds.specs.Kinds.{Sort, chip, kind}
use Rattle.kinds.specs.Reading.{held, kind_in}
use Rattle.plan.specs.declared.placed.Controller.{Controller}
use Rattle.plan.specs.declared.placed.Parent.{Parent}
use Rattle.plan.specs.declared.placed.Parent.TheVariants.{Root, At, Several}
use Rattle.plan.specs.declared.placed.Spot.{Spot}

-- a controller: its node's place, its kind, where its own specifier ends, and its first line once it is placed
pub record Made : Type 0 where
  pub node : ℕ
  pub kind : Sort
  pub parent : Parent
  pub first_line : Option ℕ

abbrev pub made : Controller → Made
made c = record { node = c.node.0; kind = kind c.kind; parent = c.parent; first_line = c.first_line }

-- what a table of controllers holds where it has none
abbrev pub no_controller : Made
no_controller = record { node = 0; kind = chip; parent = Root; first_line = None }

-- a controller of which no specifier was read yet
abbrev pub found : Entry → Sort → Made
found e k = record { node = e.place; kind = k; parent = Root; first_line = None }

-- a controller's parent, after one specifier more
abbrev pub parent_with : Spot → Parent → Parent
parent_with spot Root = At spot
parent_with spot (At s) = Several
parent_with spot Several = Several

abbrev pub same_spot : Spot → Spot → Bool
same_spot a b = a.controller == b.controller && a.input == b.input

-- a controller's one specifier ends at this input
abbrev pub ends_at : Spot → Parent → Bool
ends_at spot Root = false
ends_at spot (At s) = same_spot s spot
ends_at spot Several = false

-- a node, if it has `interrupt-controller`
abbrev pub controller_by : Entry → Bool → Result (Option Made) BoardFault
controller_by e true = after (kind_in e) (λ k. Ok (Some (found e k)))
controller_by e false = Ok None

abbrev pub controller_in : Entry → Result (Option Made) BoardFault
controller_in e = after (held (has (codes "interrupt-controller") e)) (controller_by e)

abbrev pub onto : Option Made → Result (List Made) BoardFault → Result (List Made) BoardFault
onto None r = r
onto (Some c) (Ok cs) = Ok (c ∷ cs)
onto (Some c) (Err f) = Err f

-- every controller, in blob order
abbrev pub controllers_from : List Listed → Result (List Made) BoardFault
controllers_from [] = Ok []
controllers_from (broken f ∷ es) = Err (fault.Route (Token f))
controllers_from (listed e ∷ es) = after (controller_in e) (λ o. onto o (controllers_from es))

-- one to four controllers
abbrev pub one_to_four : List Made → Result (List Made) BoardFault
one_to_four cs = cond (nat_le 1 (length cs) && nat_le (length cs) 4) (Ok cs) (Err fault.Controllers)

-- the controllers of a tree
abbrev pub controllers_of : List Listed → Result (List Made) BoardFault
controllers_of es = after (controllers_from es) one_to_four

-- what the controllers `cs` still to come make of those before: `seen` are the first four of these, and `more` says that there were others
abbrev pub finish : Bool → List Made → List Made → Result (List Made) BoardFault
finish true seen cs = Err fault.Controllers
finish false seen cs = one_to_four (seen ++ cs)
