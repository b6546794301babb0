use Rattle.std.proofs.Common.{◌<◌, ◌^◌, rules, arith}
use Rattle.std.proofs.lemmas.Grind.{common_steps}
use Rattle.tree.proofs.Counting.{nodes_fit}
use Rattle.tree.proofs.tree.Tree.check_phandles.Goals as goal

pub loop-count-init-derived : goal.loop-count-init-derived
loop-count-init-derived c =
    let h = c.nodes.result.tree.blob.header in
    let low : h.structure < 2 ^ 32 = search rules in
    let short : h.structure_size < 2 ^ 32 = search rules in
    let fit = nodes_fit c.nodes.result.tree.blob.bytes.now h (omega arith) in
    grind (arith, common_steps)
