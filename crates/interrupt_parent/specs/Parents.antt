-- The interrupt parent of a node.
use Rattle.std.specs.Prelude.{ℕ, zero, suc, cond, List, Some, None, Ok, Err, codes, Option, Result}
use Rattle.faults.specs.declared.fault.RouteFault.{RouteFault}
use Rattle.faults.specs.declared.fault.RouteFault.TheVariants.{NoParent}
use Rattle.fdt.specs.Tokens.{at, after}
use Rattle.nodes.specs.Finding.{parent_of}
use Rattle.tree.specs.Nodes.{Entry, Listed}
use Rattle.tree.specs.Phandles.{held, places}
use Rattle.values.specs.Values.{Cell, cell_in, has, node_of}

abbrev pub candidate_by : List Listed → Entry → Option Cell → Result (Option Entry) RouteFault
candidate_by es e None = held (parent_of e.place e.depth es)
candidate_by es e (Some c) = after (node_of es c.value (places e.place c.property.0)) (λ n. Ok (Some n))

-- the node with the phandle in `interrupt-parent`, or without one the parent in the tree; none at the root
abbrev pub candidate : List Listed → Entry → Result (Option Entry) RouteFault
candidate es e = after (cell_in (codes "interrupt-parent") 0 0xffffffff e) (candidate_by es e)

-- the candidate if it has `#interrupt-cells`, else what comes further on
abbrev pub parent_by : (Entry → Result Entry RouteFault) → ℕ → Option Entry → Result Entry RouteFault
parent_by further device None = Err (NoParent (at device))
parent_by further device (Some c) = after (has (codes "#interrupt-cells") c) (λ h. cond h (Ok c) (further c))

-- the first of at most k candidates from a node on that has `#interrupt-cells`
abbrev pub parent_within : ℕ → List Listed → ℕ → Entry → Result Entry RouteFault
parent_within zero es device e = Err (NoParent (at device))
parent_within (suc k) es device e = after (candidate es e) (parent_by (parent_within k es device) device)

-- the interrupt parent of a device: at most 64 candidates are looked at
unfoldable pub interrupt_parent : List Listed → Entry → Result Entry RouteFault
interrupt_parent es e = parent_within 64 es e.place e
