-- What is read of a controller's node, and what is refused there.
use Rattle.std.specs.Prelude.{ℕ, Bool, cond, ◌&&◌, List, length, Some, None, Ok, Err, codes, Option, Result, ◌==◌, nat_le}
use Rattle.std.specs.List.{list_all}
use Rattle.faults.specs.declared.fault.RouteFault.{RouteFault}
use Rattle.faults.specs.declared.fault.RouteFault.TheVariants.{Value}
use Rattle.faults.specs.Places.{places}
use Rattle.fdt.specs.Tokens.{after}
use Rattle.tree.specs.Nodes.{Entry}
use Rattle.values.specs.Counts.{sooner}
use Rattle.values.specs.Values.{Cell, Whole, cell_in, cells_within}
use Rattle.kind_values.specs.Kinds.{Text, compatible, inputs, ndev}
use Rattle.table.specs.Ranges.{in_range}
use Rattle.board_faults.specs.declared.BoardFault.{BoardFault}
use Rattle.board_faults.specs.declared.BoardFault.TheVariants.{Route, Kind}
use Rattle.kinds.specs.declared.binding.Binding.{Binding}
use Rattle.kinds.specs.declared.binding.Binding.TheVariants.{I8259, Plic, StatusMux}
use Rattle.kinds.specs.Bindings.{binding_in}
use Rattle.kinds.specs.Kinds.{Sort, chip, plic, mux, cells_of}

-- of two results the fault that counts, or both values
abbrev pub both : {A B : Type 0} → Result A RouteFault → Result B RouteFault → Result (A × B) RouteFault
both (Ok a) (Ok b) = Ok (a, b)
both (Ok a) (Err g) = Err g
both (Err f) (Ok b) = Err f
both (Err f) (Err g) = Err (sooner f g)

-- a number from 1 to another, from a property at these places
abbrev pub or_value : ℕ → ℕ → Option ℕ → Result ℕ RouteFault
or_value node property None = Err (Value (places node property))
or_value node property (Some w) = Ok w

-- a width, which is not missing
abbrev pub width_by : ℕ → ℕ → Option Cell → Result ℕ RouteFault
width_by most node None = Err (Value (places node 0))
width_by most node (Some c) = or_value node c.property.0 (in_range most c.value)

abbrev pub is_level : ℕ → Bool
is_level x = nat_le 1 x && nat_le x 7

-- one cell a line, each from 1 to 7
abbrev pub levels_by : ℕ → ℕ → Option Whole → Result (Option (List ℕ)) RouteFault
levels_by node w None = Ok None
levels_by node w (Some p) =
    cond (length p.cells == w && list_all is_level p.cells) (Ok (Some p.cells)) (Err (Value (places node p.property)))

-- `riscv,ndev`, and once it is good `factory,priorities`
abbrev pub plic_of : Entry → Result Sort RouteFault
plic_of e =
    after (after (ndev e) (width_by 64 e.place)) (λ w.
    after (after (cells_within (codes "factory,priorities") e) (levels_by e.place w)) (λ p. Ok (plic w p)))

-- `factory,inputs`
abbrev pub mux_of : Entry → Result Sort RouteFault
mux_of e = after (after (inputs e) (width_by 32 e.place)) (λ w. Ok (mux w))

-- what is read of the node of a controller of this binding
abbrev pub bound : Entry → Binding → Result Sort RouteFault
bound e I8259 = Ok chip
bound e Plic = plic_of e
bound e StatusMux = mux_of e

-- what `compatible` names: the place of the property, 0 where it is missing, and the kind
pub record Called : Type 0 where
  pub property : ℕ
  pub kind : Option Sort

abbrev pub called : ℕ → Option Sort → Called
called property k = record { property = property; kind = k }

abbrev pub bound_option : Entry → Option Binding → Result (Option Sort) RouteFault
bound_option e None = Ok None
bound_option e (Some b) = after (bound e b) (λ k. Ok (Some k))

abbrev pub called_by : Entry → Option Text → Result Called RouteFault
called_by e None = Ok (called 0 None)
called_by e (Some t) = after (bound_option e (binding_in t.bytes)) (λ k. Ok (called t.property k))

-- the kind that `compatible` names, with what is read of its node
abbrev pub called_in : Entry → Result Called RouteFault
called_in e = after (compatible e) (called_by e)

-- `#interrupt-cells` is the kind's
abbrev pub counted : ℕ → Sort → Option Cell → Result Sort BoardFault
counted node k None = Err (Kind (places node 0))
counted node k (Some c) = cond (c.value == cells_of k) (Ok k) (Err (Kind (places node c.property.0)))

-- a kind is named, and `#interrupt-cells` is the kind's
abbrev pub fitting : ℕ → Called → Option Sort → Option Cell → Result Sort BoardFault
fitting node c None cells = Err (Kind (places node c.property))
fitting node c (Some k) cells = counted node k cells

-- a fault of reading, held whole
abbrev pub held : {X : Type 0} → Result X RouteFault → Result X BoardFault
held (Ok x) = Ok x
held (Err f) = Err (Route f)

-- the kind of a controller
abbrev pub kind_in : Entry → Result Sort BoardFault
kind_in e =
    after (held (both (called_in e) (cell_in (codes "#interrupt-cells") 1 4 e))) (λ b. fitting e.place b.0 b.0.kind b.1)
