use Rattle.std.proofs.Common.{◌≡◌, ◌-◌}
use Rattle.fdt.specs.Tokens.{ending}
use Rattle.tree.specs.Phandles.{with_phandle}
use Rattle.indexed.specs.Rows.{nodes_past}
use Rattle.indexed.proofs.reading.search_from.Given as goal

-- it is found from here on as it is from the start
abbrev pub invariant-loop-node : goal.invariant-loop-node
invariant-loop-node l = with_phandle l.phandle (nodes_past l.tree l.at) ≡ with_phandle l.phandle (nodes_past l.tree l.fn.from)

abbrev pub decreases-loop-node : goal.decreases-loop-node
decreases-loop-node l = ending l.tree.blob.header - l.at.place.0
