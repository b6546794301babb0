-- What the calls of this crate answer, as numbers.
use Rattle.std.specs.Prelude.{ℕ, ◌+◌, ◌*◌, List, Ok, Err, Result}
use Rattle.faults.specs.declared.fault.RouteFault.{RouteFault}
use Rattle.faults.specs.declared.report.Report.{Report}
use Rattle.faults.specs.Reports.{route_report}
use Rattle.fdt.specs.Blobs.{Source}
use Rattle.tree.specs.Nodes.{Listed, all_nodes}
use Rattle.tree.specs.Opening.{open_of}
use Rattle.board_faults.specs.declared.BoardFault.{BoardFault}
use Rattle.board_faults.specs.BoardReports.{board_report}
use Rattle.plan.specs.Plans.{Planned, plan_of}

-- the layer a thousand times, and the number
abbrev pub code_of : Report → ℕ
code_of r = r.layer * 1000 + r.number

abbrev pub open_code : Result Source RouteFault → ℕ
open_code (Ok s) = 0
open_code (Err f) = code_of (route_report f)

abbrev pub plan_code : Result Planned BoardFault → ℕ
plan_code (Ok p) = 0
plan_code (Err f) = code_of (board_report f)

-- an opened tree is planned
abbrev pub both_code : Result Source RouteFault → ℕ
both_code (Ok s) = plan_code (plan_of (all_nodes s.bytes s.header))
both_code (Err f) = code_of (route_report f)
