-- What each fault of a board reports.
use Rattle.std.specs.Prelude.{ℕ}
use Rattle.faults.specs.declared.report.Report.{Report}
use Rattle.faults.specs.declared.place.At.{At}
use Rattle.faults.specs.Reports.{report, route_report}
use Rattle.board_faults.specs.declared.BoardFault.{BoardFault}
use Rattle.board_faults.specs.declared.BoardFault.TheVariants.{Route, Kind, Controllers, Input, Routes, Root, Second, Parts}

-- layer 4, with the places of the node and the property
abbrev pub placed : ℕ → At → Report
placed number p = report 4 number p.node.0 p.property.0

abbrev pub board_report : BoardFault → Report
board_report (Route f) = route_report f
board_report (Kind p) = placed 10 p
board_report Controllers = report 4 11 0 0
board_report (Input p) = placed 19 p
board_report (Routes p) = placed 20 p
board_report Root = report 4 21 0 0
board_report (Second p) = placed 22 p
board_report Parts = report 4 23 0 0
