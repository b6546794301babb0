use Rattle.std.proofs.Common.{◌≡◌}
use Rattle.tree.specs.Listing.{nodes_left}
use Rattle.tree.specs.Reads.{nodes_of}
use Rattle.plan.specs.Controllers.{controllers_from, controllers_of}
use Rattle.plan.specs.Seen.{controllers_in}
use Rattle.plan.proofs.Finding.{finished}
use Rattle.plan.proofs.reading.controllers.Given as goal

-- the nodes that are left decide as all do
abbrev pub invariant-loop-node : goal.invariant-loop-node
invariant-loop-node l =
    record {
      same : l.node-iterator.tree ≡ l.tree;
      decides : finished l.found.more (controllers_in l.found.controllers) (controllers_from (nodes_left l.node-iterator)) ≡ controllers_of (nodes_of l.tree);
    }
