-- The properties by which the kind and the width of a controller are known.
use Rattle.std.specs.Prelude.{ℕ, ◌-◌, Bool, cond, not, ◌&&◌, List, length, Some, None, Ok, Err, codes, Option, Result, ◌==◌, nat_lt, slice_index}
use Rattle.std.specs.Borrow.{Bor}
use Rattle.faults.specs.declared.fault.RouteFault.{RouteFault}
use Rattle.faults.specs.declared.fault.RouteFault.TheVariants.{Value}
use Rattle.fdt.specs.Tokens.{after}
use Rattle.properties.specs.Properties.{Owned}
use Rattle.tree.specs.Nodes.{Entry}
use Rattle.tree.specs.Phandles.{places}
use Rattle.values.specs.declared.property.Found.{Found}
use Rattle.values.specs.Values.{Cell, cell_in, property_of}

-- what is found at a property of strings
abbrev pub Strings : Type 0
Strings = Found (Bor (List ℕ))

-- a property of strings: its place and its bytes
pub record Text : Type 0 where
  pub property : ℕ
  pub bytes : List ℕ

abbrev pub text : Strings → Text
text s = record { property = s.property.0; bytes = s.value.now }

abbrev pub strings_in : Result Strings RouteFault → Result Text RouteFault
strings_in (Ok s) = Ok (text s)
strings_in (Err f) = Err f

abbrev pub text_option : Option Strings → Option Text
text_option None = None
text_option (Some s) = Some (text s)

abbrev pub strings_option : Result (Option Strings) RouteFault → Result (Option Text) RouteFault
strings_option (Ok o) = Ok (text_option o)
strings_option (Err f) = Err f

-- the last string is not ended by a zero byte
abbrev pub unended : List ℕ → Bool
unended bs = nat_lt 0 (length bs) && not (slice_index bs (length bs - 1) == 0)

-- a property that is empty or whose last byte is 0
abbrev pub strings_by : ℕ → Owned → Result Text RouteFault
strings_by node p =
    cond (unended p.value.bytes) (Err (Value (places node p.place)))
    (Ok (record { property = p.place; bytes = p.value.bytes }))

abbrev pub strings_found : ℕ → Option Owned → Result (Option Text) RouteFault
strings_found node None = Ok None
strings_found node (Some p) = after (strings_by node p) (λ t. Ok (Some t))

-- `compatible`, if there is one, is strings
abbrev pub compatible : Entry → Result (Option Text) RouteFault
compatible e = after (property_of (codes "compatible") e) (strings_found e.place)

-- `riscv,ndev`, if there is one, is one cell from 1 to 64
abbrev pub ndev : Entry → Result (Option Cell) RouteFault
ndev e = cell_in (codes "riscv,ndev") 1 64 e

-- `factory,inputs`, if there is one, is one cell from 1 to 32
abbrev pub inputs : Entry → Result (Option Cell) RouteFault
inputs e = cell_in (codes "factory,inputs") 1 32 e
