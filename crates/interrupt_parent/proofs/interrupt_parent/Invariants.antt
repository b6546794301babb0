use Rattle.std.proofs.Common.{◌≡◌, ◌-◌}
use Rattle.tree.specs.Reads.{entry_in, nodes_of}
use Rattle.interrupt_parent.specs.Parents.{interrupt_parent, parent_within}
use Rattle.interrupt_parent.proofs.interrupt_parent.Given as goal

-- the interrupt parent is sought from here on as from the device
abbrev pub invariant-loop-looked : goal.invariant-loop-looked
invariant-loop-looked l =
    parent_within (64 - l._looked) (nodes_of l.indexed.tree) l.device.place.0 (entry_in l.indexed.tree l.at)
    ≡ interrupt_parent (nodes_of l.indexed.tree) (entry_in l.indexed.tree l.device)
