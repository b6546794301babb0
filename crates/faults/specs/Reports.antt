-- What each fault reports.
use Rattle.std.specs.Prelude.{ℕ, List, ◌++◌, codes, decimal}
use Rattle.faults.specs.declared.report.Report.{Report}
use Rattle.faults.specs.declared.fault.HeaderFault.{HeaderFault}
use Rattle.faults.specs.declared.fault.HeaderFault.TheVariants.{Size, Magic, Version, Blocks}
use Rattle.faults.specs.declared.fault.TokenFault.{TokenFault}
use Rattle.faults.specs.declared.fault.TokenFault.TheVariants.{Header, Past, Rule, Depth}
use Rattle.faults.specs.declared.place.At.{At}
use Rattle.faults.specs.declared.fault.RouteFault.{RouteFault}
use Rattle.faults.specs.declared.fault.RouteFault.TheVariants.{Token, Value, Phandle, NoNode, NoParent, Short, NoEnd, Row, NoRow, TooManyRows}

-- layer, number, and the places of the node and the property
abbrev pub report : ℕ → ℕ → ℕ → ℕ → Report
report layer number node property = record { layer = layer; number = number; node = record { 0 = node }; property = record { 0 = property } }

abbrev pub header_report : HeaderFault → Report
header_report Size = report 1 1 0 0
header_report Magic = report 1 2 0 0
header_report Version = report 1 3 0 0
header_report Blocks = report 1 4 0 0

abbrev pub token_report : TokenFault → Report
token_report (Header f) = header_report f
token_report (Past p) = report 2 5 p.0 0
token_report (Rule p) = report 2 6 p.0 0
token_report (Depth p) = report 2 7 p.0 0

-- layer 3, with the places of the node and the property
abbrev pub placed : ℕ → At → Report
placed number p = report 3 number p.node.0 p.property.0

abbrev pub route_report : RouteFault → Report
route_report (Token f) = token_report f
route_report (Value p) = placed 8 p
route_report (Phandle p) = placed 9 p
route_report (NoNode p) = placed 12 p
route_report (NoParent p) = report 3 13 p.0 0
route_report (Short p) = placed 14 p
route_report (NoEnd p) = placed 15 p
route_report (Row p) = placed 16 p
route_report (NoRow p) = placed 17 p
route_report (TooManyRows p) = placed 18 p

-- how a report is printed
abbrev pub report_text : Report → List ℕ
report_text r =
    codes "layer " ++ (decimal r.layer ++ (codes ", number " ++ (decimal r.number
    ++ (codes ", node " ++ (decimal r.node.0 ++ (codes ", property " ++ decimal r.property.0))))))
