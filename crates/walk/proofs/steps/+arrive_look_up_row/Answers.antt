use Rattle.std.proofs.Common.{◌∙◌}
use Rattle.cell_list.specs.CellLists.{cells_in}
use Rattle.nexus.specs.Nexuses.{list_option, ready}
use Rattle.nexus.specs.Rows.{took}
use Rattle.properties.specs.Properties.{owned}
use Rattle.specifiers.specs.Specifiers.{specified}
use Rattle.tree.specs.Reads.{entry_in, nodes_of}
use Rattle.walk.specs.Hops.{hops_of}
use Rattle.walk.proofs.Onward.{looked_on}
use Rattle.walk.proofs.steps.+arrive_look_up_row.Goals as goal

pub look_up_row-returns : goal.look_up_row-returns
look_up_row-returns t c =
    let tree = c.args.indexed.now.tree in
    let a = c.args.arrival.now in
    c.arrive.ensures
    ∙ looked_on (nodes_of tree) (specified tree c.args.specifier.now) a.rows_left (entry_in tree a.node) (owned c.args.map.now)
    (list_option a.given) (cells_in a.cells) (hops_of a.hops) (ready c.in_ok-nexus.nexus) (took tree c.in_ok-taken.taken)
    c.in_ok-nexus.ensures c.in_ok-taken.ensures c.if-arrival-eq0.false (hops_of c.with.result) c.with.ensures.list
