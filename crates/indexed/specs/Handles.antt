-- The phandle of a node, if it is one cell.
use Rattle.std.specs.Prelude.{ℕ, Bool, false, cond, length, Some, None, Ok, Option, Result, ◌==◌}
use Rattle.cells.specs.Cells.{cell}
use Rattle.faults.specs.declared.fault.TokenFault.{TokenFault}
use Rattle.fdt.specs.Tokens.{after}
use Rattle.properties.specs.Properties.{Owned}
use Rattle.tree.specs.Nodes.{Entry}
use Rattle.tree.specs.Phandles.{phandle_of}

-- the one cell of a property, if it has one
abbrev pub handle_by : Option Owned → Option ℕ
handle_by None = None
handle_by (Some p) = cond (length p.value.bytes == 4) (Some (cell p.value.bytes 0)) None

-- the phandle of a node, none where it has none or one that is not one cell
abbrev pub handle_of : Entry → Result (Option ℕ) TokenFault
handle_of e = after (phandle_of e) (λ o. Ok (handle_by o))

-- it is this phandle
abbrev pub is_handle : ℕ → Option ℕ → Bool
is_handle x None = false
is_handle x (Some h) = h == x
