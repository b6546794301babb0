-- How many cells a unit address and a specifier have at a node.
use Rattle.std.specs.Prelude.{ℕ, Bool, cond, ◌&&◌, ◌||◌, List, Some, None, Ok, Err, codes, Option, Result, ◌==◌, nat_lt}
use Rattle.faults.specs.declared.report.Report.{Report}
use Rattle.faults.specs.declared.fault.RouteFault.{RouteFault}
use Rattle.faults.specs.declared.fault.RouteFault.TheVariants.{NoEnd, Row}
use Rattle.faults.specs.Reports.{route_report}
use Rattle.fdt.specs.Tokens.{after}
use Rattle.tree.specs.Nodes.{Entry}
use Rattle.tree.specs.Phandles.{places}
use Rattle.values.specs.declared.counts.Counts.{Counts}
use Rattle.values.specs.Values.{Cell, cell_in}

abbrev pub count_or : RouteFault → Option Cell → Result ℕ RouteFault
count_or missing None = Err missing
count_or missing (Some c) = Ok c.value

-- a count of this name, from low to high; this fault where it is missing
abbrev pub count_in : List ℕ → ℕ → ℕ → RouteFault → Entry → Result ℕ RouteFault
count_in name low high missing e = after (cell_in name low high e) (count_or missing)

-- `#interrupt-cells`, 1 to 4; 15 where it is missing
abbrev pub interrupt_cells : Entry → Result ℕ RouteFault
interrupt_cells e = count_in (codes "#interrupt-cells") 1 4 (NoEnd (places e.place 0)) e

-- `#address-cells`, 0 to 4; 16 where it is missing
abbrev pub address_cells : Entry → Result ℕ RouteFault
address_cells e = count_in (codes "#address-cells") 0 4 (Row (places e.place 0)) e

-- a has a smaller number than b, or the same and a smaller property place
abbrev pub before : Report → Report → Bool
before a b = nat_lt a.number b.number || (a.number == b.number && nat_lt a.property.0 b.property.0)

-- of two faults at one node the one that counts
abbrev pub sooner : RouteFault → RouteFault → RouteFault
sooner a b = cond (before (route_report b) (route_report a)) b a

abbrev pub both : Result ℕ RouteFault → Result ℕ RouteFault → Result Counts RouteFault
both (Ok a) (Ok n) = Ok (record { address = a; interrupt = n })
both (Ok a) (Err f) = Err f
both (Err f) (Ok n) = Err f
both (Err f) (Err g) = Err (sooner f g)

-- both counts of a node
abbrev pub counts_of : Entry → Result Counts RouteFault
counts_of e = both (address_cells e) (interrupt_cells e)
