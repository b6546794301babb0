-- The row of a line.
use Rattle.line.specs.declared.row.Row.{Row}
use Rattle.line.specs.declared.record.Line.{Line}
use Rattle.line.specs.Rows.{row}

abbrev pub row_of : Line → Row
row_of l = row l.sense l.level l.request l.service l.mask
