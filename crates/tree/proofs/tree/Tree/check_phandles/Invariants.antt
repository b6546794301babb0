use Rattle.std.proofs.Common.{◌≡◌, take, drop}
use Rattle.std.specs.Iterator.Adapters.{enumerate_source, enumerate_count}
use Rattle.tree.specs.Listing.{nodes_left}
use Rattle.tree.specs.Phandles.{checked, phandles, phandles_from}
use Rattle.tree.specs.Reads.{nodes_of}
use Rattle.tree.proofs.tree.Tree.check_phandles.Given as goal

-- the nodes that are left are those after the first `count`, and decide as the whole does
abbrev pub invariant-loop-count : goal.invariant-loop-count
invariant-loop-count l =
    let left = enumerate_source l.count-iterator in
    let count = enumerate_count l.count-iterator in
    let all = nodes_of l.self in
    record {
      same : left.tree ≡ l.self;
      rest : nodes_left left ≡ drop count all;
      decides : checked (phandles_from 0 (take count all) (nodes_left left)) ≡ checked (phandles all);
    }
