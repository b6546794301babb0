-- The kind of the fault of a list, as one of the system's errors.
use Rattle.std.specs.declared.io.ErrorKind.{ErrorKind}
use Rattle.std.specs.declared.io.ErrorKind.TheVariants as kind
use Rattle.board_text.specs.declared.events.ListFault.{ListFault}
use Rattle.board_text.specs.declared.events.ListFault.TheVariants.{Line, Memory}

abbrev pub kind_of : ListFault → ErrorKind
kind_of (Line number) = kind.InvalidData
kind_of Memory = kind.OutOfMemory
