use Rattle.std.proofs.Common.{◌-◌}
use Rattle.fdt.specs.Tokens.{ending}
use Rattle.tree.specs.Reads.{nodes_of}
use Rattle.indexed.specs.Rows.{Keeps, Tells}
use Rattle.indexed.proofs.Indexed.of.Given as goal

-- the rows tell of the nodes up to the cursor
abbrev pub invariant-loop-step : goal.invariant-loop-step
invariant-loop-step l = record {
  tells : Tells l.tree (nodes_of l.tree) l.rows.list.items l.rest;
  keeps : Keeps l.tree l.rows.list.items;
}

abbrev pub decreases-loop-step : goal.decreases-loop-step
decreases-loop-step l = ending l.tree.blob.header - l.rest.place.0
