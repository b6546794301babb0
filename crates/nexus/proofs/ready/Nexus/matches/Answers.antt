use Rattle.std.proofs.Common.{◌≡◌, ◌+◌, ◌++◌, length, sym, refl, ◌∙◌, arith, rules, tests}
use Rattle.std.proofs.lemmas.Bool.{ne_eqb}
use Rattle.std.proofs.lemmas.Iterator.{YieldsList-from_range}
use Rattle.std.proofs.lemmas.Iterator.Search.{all_from_yields_List}
use Rattle.std.proofs.lemmas.List.{length-append}
use Rattle.cell_list.specs.CellLists.{cells_in as numbers}
use Rattle.nexus.specs.Nexuses.{list_option}
use Rattle.nexus.proofs.Matching.{all_same, not_masked, same_at}
use Rattle.nexus.proofs.ready.Nexus.matches.Goals as goal

pub returns-then-len-count : goal.returns-then-len-count
returns-then-len-count c =
    let unit = numbers c.args.self.now.unit in
    let specifier = numbers c.args.self.now.specifier in
    let mask = list_option c.args.self.now.mask in
    let child = numbers c.args.child.now in
    let l = length-append unit specifier in
    let k : length child ≡ length (unit ++ specifier) = omega arith in
    let n : c.len.result + c.len-2.result ≡ length child = omega arith in
    all_from_yields_List (same_at mask child (unit ++ specifier)) _ _ _ c.all.ensures.ran (YieldsList-from_range 0 _ _ refl (omega arith)) (λ x b q h. search (rules, tests))
    ∙ all_same mask child (unit ++ specifier) k

pub returns-else-len-count : goal.returns-else-len-count
returns-else-len-count c =
    let unit = numbers c.args.self.now.unit in
    let specifier = numbers c.args.self.now.specifier in
    let l = length-append unit specifier in
    ne_eqb _ _ c.if-len-count.false
    ∙ sym (not_masked (list_option c.args.self.now.mask) (numbers c.args.child.now) (unit ++ specifier) (λ e. c.if-len-count.false (omega arith)))
