use Rattle.std.proofs.Common.{◌∙◌, ap, Ok, sym}
use Rattle.tree.specs.Reads.{nodes_of}
use Rattle.indexed.proofs.Joining.{counts_told}
use Rattle.indexed.proofs.Indexed.sought_counts.Goals as goal

pub returns-clause-is : goal.returns-clause-is
returns-clause-is c =
    let it = c.args.self.now in
    ap Ok c.counts.ensures
    ∙ counts_told it.tree (nodes_of it.tree) it.rows.list.items it.rest c.args.phandle c.args.holder c.in-Some.row c.in-Some-counts.few it.tells it.keeps (sym c.with.ensures ∙ c.in-Some.is) c.in-Some-counts.is
