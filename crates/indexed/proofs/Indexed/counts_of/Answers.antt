use Rattle.std.proofs.Common.{◌∙◌, ap, Ok, rules}
use Rattle.tree.specs.Reads.{nodes_of}
use Rattle.indexed.proofs.Joining.{few_told}
use Rattle.indexed.proofs.Indexed.counts_of.Goals as goal

pub returns-in-Some-clause-is : goal.returns-in-Some-clause-is
returns-in-Some-clause-is c =
    let it = c.args.self.now in
    ap Ok c.counts.ensures
    ∙ few_told it.tree (nodes_of it.tree) it.rows.list.items it.rest c.args.phandle c.args.holder c.in-Some.few it.tells it.keeps (search rules)
