use Rattle.std.proofs.Common.{ap, ◌∙◌, rules}
use Rattle.std.proofs.lemmas.Iterator.{YieldsList-from_slice}
use Rattle.std.proofs.lemmas.Iterator.Search.{position_from_yields_List}
use Rattle.search.specs.First.{first}
use Rattle.search.proofs.Positions.{first_map, position_first}
use Rattle.line.specs.declared.row.Row.{Row}
use Rattle.table.specs.Tables.{made_line}
use Rattle.table.proofs.rows.Table.lowest.Goals as goal

pub returns : goal.returns
returns g c = λ h k.
    let xs = c.lines.result.now in
    let passes = λ (r : Row). h (made_line r) in
    position_from_yields_List passes _ _ c.position.result c.position.ensures.ran (YieldsList-from_slice xs cc) (λ x b q m. search (rules, k))
    ∙ position_first passes xs
    ∙ first_map made_line h xs
    ∙ ap (first h) c.lines.ensures
