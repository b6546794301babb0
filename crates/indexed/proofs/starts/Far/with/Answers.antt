use Rattle.std.proofs.Common.{◌∙◌, eqb, rules, tests}
use Rattle.std.proofs.lemmas.Iterator.{YieldsList-from_slice}
use Rattle.std.proofs.lemmas.Iterator.Search.{find_from_yields_List}
use Rattle.indexed.specs.declared.starts.Starts.{Starts}
use Rattle.indexed.proofs.starts.Far.with.Goals as goal

pub returns : goal.returns
returns c =
    let xs = c.args.self.now.list.items in
    let passes = λ (s : Starts). eqb s.body c.args.body.0 in
    let found = find_from_yields_List passes c.find.new.self _ c.find.result c.find.ensures.ran (YieldsList-from_slice xs cc) (λ x b q h. search (rules, tests)) in
    c.copied.ensures ∙ found
