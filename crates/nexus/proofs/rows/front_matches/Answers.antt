use Rattle.std.proofs.Common.{sym, ◌∙◌}
use Rattle.cell_list.specs.CellLists.{cells_in}
use Rattle.nexus.specs.Nexuses.{ready}
use Rattle.nexus.proofs.Matching.{not_wanted}
use Rattle.nexus.proofs.rows.front_matches.Goals as goal

pub returns-then-cell : goal.returns-then-cell
returns-then-cell c =
    sym
    (not_wanted (ready c.args.nexus.now) c.args.wanted.now (cells_in c.args.rest.now) c.loop-i.i c.requires.wanted c.requires.wide c.loop-i-test.true
    (λ e. c.if-cell.true (c.cell.ensures ∙ e)))
