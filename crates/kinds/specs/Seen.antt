-- What calls on a controller's node answer, as numbers.
use Rattle.std.specs.Prelude.{ℕ, List, Some, None, Ok, Err, Option, Result}
use Rattle.cell_list.specs.declared.CellList.{CellList}
use Rattle.faults.specs.declared.fault.RouteFault.{RouteFault}
use Rattle.table.specs.declared.one_to.OneTo.{OneTo}
use Rattle.board_faults.specs.declared.BoardFault.{BoardFault}
use Rattle.kinds.specs.declared.kind.Kind.{Kind}
use Rattle.kinds.specs.declared.reading.Called.{Called}
use Rattle.kinds.specs.Kinds.{Sort, cells_option, kind}
use Rattle.kinds.specs.Reading as read

abbrev pub kind_seen : Result Kind BoardFault → Result Sort BoardFault
kind_seen (Ok k) = Ok (kind k)
kind_seen (Err f) = Err f

abbrev pub sort_seen : Result Kind RouteFault → Result Sort RouteFault
sort_seen (Ok k) = Ok (kind k)
sort_seen (Err f) = Err f

abbrev pub sort_option : Option Kind → Option Sort
sort_option None = None
sort_option (Some k) = Some (kind k)

abbrev pub called_seen : Result Called RouteFault → Result read.Called RouteFault
called_seen (Ok c) = Ok (read.called c.property.0 (sort_option c.kind))
called_seen (Err f) = Err f

abbrev pub width_seen : {most : ℕ} → Result (OneTo most) RouteFault → Result ℕ RouteFault
width_seen (Ok w) = Ok w.number
width_seen (Err f) = Err f

abbrev pub levels_seen : Result (Option CellList) RouteFault → Result (Option (List ℕ)) RouteFault
levels_seen (Ok o) = Ok (cells_option o)
levels_seen (Err f) = Err f
