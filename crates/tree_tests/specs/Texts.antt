-- A refusal as a row of a table writes it.
use Rattle.std.specs.Prelude.{ℕ, List, ◌++◌, codes, decimal}
use Rattle.faults.specs.declared.report.Report.{Report}

-- layer, number and the two places
abbrev pub refused_text : Report → List ℕ
refused_text r =
    codes "refused " ++ (decimal r.layer ++ (codes " " ++ (decimal r.number
    ++ (codes " " ++ (decimal r.node.0 ++ (codes " " ++ decimal r.property.0))))))
