-- The kind of an error of a walk, as one of the system's errors.
use Rattle.std.specs.declared.io.ErrorKind.{ErrorKind}
use Rattle.std.specs.declared.io.ErrorKind.TheVariants as kind
use Rattle.walk_tests.specs.declared.error.WalkError.{WalkError}
use Rattle.walk_tests.specs.declared.error.WalkError.TheVariants.{UnknownWord, OutOfMemory}

abbrev pub kind_of : WalkError → ErrorKind
kind_of UnknownWord = kind.InvalidData
kind_of OutOfMemory = kind.InvalidData
