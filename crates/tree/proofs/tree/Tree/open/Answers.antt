use Rattle.std.proofs.Common.{Ok, rules}
use Rattle.tree.specs.Opening.{blob_source, tree_seen}
use Rattle.tree.proofs.Opened.{opens}
use Rattle.tree.proofs.tree.Tree.open.Goals as goal

pub returns-in_err-walked : goal.returns-in_err-walked
returns-in_err-walked c = opens c.args.bytes.now (tree_seen c.from_residual.result) (search rules)

pub returns-in_err-check_phandles : goal.returns-in_err-check_phandles
returns-in_err-check_phandles c = opens c.args.bytes.now (tree_seen c.from_residual-in_err-check_phandles.result) (search rules)

pub returns : goal.returns
returns c = opens c.args.bytes.now (Ok (blob_source c.in_ok-walked.field-0)) (search rules)
