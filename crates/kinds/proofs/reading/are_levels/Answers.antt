use Rattle.std.proofs.Common.{rules, tests}
use Rattle.std.proofs.lemmas.Iterator.Search.{all_from_yields_List}
use Rattle.std.proofs.lemmas.Iterator.Consumers.{YieldsList-from_first}
use Rattle.cell_list.specs.CellLists.{cells_left, cells_in as numbers}
use Rattle.kinds.specs.Reading.{is_level}
use Rattle.kinds.proofs.reading.are_levels.Goals as goal

pub returns : goal.returns
returns c =
    all_from_yields_List is_level c.all.new.self _ _ c.all.ensures.ran (YieldsList-from_first (λ x. x) cells_left (numbers c.args.cells.now) c.iter.ensures) (λ x b q h. search (rules, tests))
