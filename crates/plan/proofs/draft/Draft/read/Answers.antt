use Rattle.std.proofs.Common.{◌≡◌, ◌∷◌, Err, rules}
use Rattle.tree.specs.Nodes.{listed}
use Rattle.tree.specs.Listing.{nodes_left}
use Rattle.tree.specs.Reads.{entry_in, nodes_of}
use Rattle.specifiers.specs.Cuts.{specifiers_of}
use Rattle.plan.specs.Drafts.{node_drawn}
use Rattle.plan.specs.Seen.{drawn}
use Rattle.plan.proofs.Drawing.{drawn_stop}
use Rattle.plan.proofs.draft.Draft.read.Goals as goal

pub returns-in_err-read_node : goal.returns-in_err-read_node
returns-in_err-read_node c =
    let es = nodes_of c.args.indexed.now.tree in
    let d = drawn c.loop-node.self in
    let e = entry_in c.args.indexed.now.tree c.in_ok-node.field-0 in
    let left = nodes_left c.next.new.self in
    let f = c.in_err-read_node.field-0.0 in
    let first : nodes_left c.loop-node.node-iterator ≡ listed e ∷ left = search rules in
    let stop : node_drawn es d (specifiers_of es e) ≡ Err f = search rules in
    let whole = drawn_stop es left d e f stop in
    search rules
