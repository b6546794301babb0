use Rattle.std.proofs.Common.{◌≡◌}
use Rattle.specifiers.specs.Cuts.{specifiers_of}
use Rattle.specifiers.specs.Lists.{list_left, tree_of}
use Rattle.tree.specs.Reads.{entry_in, nodes_of}
use Rattle.plan.specs.Drafts.{node_drawn}
use Rattle.plan.specs.Seen.{drawn}
use Rattle.plan.proofs.draft.Draft.read_node.Given as goal

-- the specifiers that are left decide as all do
abbrev pub invariant-loop-specifier : goal.invariant-loop-specifier
invariant-loop-specifier l =
    record {
      same : tree_of l.specifier-iterator ≡ l.indexed.tree;
      decides : node_drawn (nodes_of l.indexed.tree) (drawn l.self) (list_left l.specifier-iterator)
          ≡ node_drawn (nodes_of l.indexed.tree) (drawn l.initial.self) (specifiers_of (nodes_of l.indexed.tree) (entry_in l.indexed.tree l.node));
    }
