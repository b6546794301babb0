-- What the strings of `compatible` name.
use Rattle.std.specs.Prelude.{ℕ, cond, List, Some, None, codes, Option, ◌==◌, slice_get}
use Rattle.std.specs.List.{filter_map, slice_split}
use Rattle.std.specs.Str.{bytes_eq}
use Rattle.kinds.specs.declared.binding.Binding.{Binding}
use Rattle.kinds.specs.declared.binding.Binding.TheVariants.{I8259, Plic, StatusMux}

-- the binding of this name
abbrev pub named : List ℕ → Option Binding
named name =
    cond (bytes_eq name (codes "intel,i8259")) (Some I8259)
    (cond (bytes_eq name (codes "sifive,plic-1.0.0")) (Some Plic)
    (cond (bytes_eq name (codes "factory,status-mux")) (Some StatusMux) None))

-- the strings that zero bytes end; after the last zero byte stands one more, which names nothing where it is empty
abbrev pub strings : List ℕ → List (List ℕ)
strings bytes = slice_split (λ b. b == 0) bytes

-- what the first string names that names anything
abbrev pub binding_in : List ℕ → Option Binding
binding_in bytes = slice_get (filter_map named (strings bytes)) 0
