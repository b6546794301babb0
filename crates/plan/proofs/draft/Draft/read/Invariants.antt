use Rattle.std.proofs.Common.{◌≡◌}
use Rattle.tree.specs.Listing.{nodes_left}
use Rattle.tree.specs.Reads.{nodes_of}
use Rattle.plan.specs.Drafts.{drawn_from}
use Rattle.plan.specs.Seen.{drawn}
use Rattle.plan.proofs.draft.Draft.read.Given as goal

-- the nodes that are left decide as all do
abbrev pub invariant-loop-node : goal.invariant-loop-node
invariant-loop-node l =
    record {
      same : l.node-iterator.tree ≡ l.indexed.tree;
      decides : drawn_from (nodes_of l.indexed.tree) (drawn l.self) (nodes_left l.node-iterator) ≡ drawn_from (nodes_of l.indexed.tree) (drawn l.initial.self) (nodes_of l.indexed.tree);
    }
