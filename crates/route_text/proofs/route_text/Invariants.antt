use Rattle.std.proofs.Common.{◌≡◌, ◌++◌}
use Rattle.std.specs.List.{flat_map}
use Rattle.std.specs.String.{string_bytes}
use Rattle.cell_list.specs.CellLists.{cells_in, cells_left}
use Rattle.route_text.specs.Texts.{cell_text, route_text}
use Rattle.walk.specs.Hops.{hops_of}
use Rattle.route_text.proofs.route_text.Given as goal

-- the text so far, with the cells that are left, is the whole
abbrev pub invariant-loop-cell : goal.invariant-loop-cell
invariant-loop-cell l =
    string_bytes l.text ++ flat_map cell_text (cells_left l.cell-iterator)
    ≡ route_text (hops_of l.route.hops) l.route.controller.place.0 (cells_in l.route.cells)
