-- The specifiers of a node, as an iterator gives them.
use Rattle.std.specs.Prelude.{List, Ok, Err, Result}
use Rattle.faults.specs.declared.fault.RouteFault.{RouteFault}
use Rattle.tree.specs.declared.tree.Tree.{Tree}
use Rattle.tree.specs.Reads.{nodes_of}
use Rattle.specifiers.specs.declared.Specifier.{Specifier}
use Rattle.specifiers.specs.declared.list.SpecifierList.{SpecifierList}
use Rattle.specifiers.specs.Cuts.{specifiers_by}
use Rattle.specifiers.specs.Specifiers.{Specified, specified, uncut_in}

-- the tree whose specifiers they are
abbrev pub tree_of : SpecifierList → Tree
tree_of l = l.indexed.now.tree

-- the specifiers that are left, in order; the last may be a fault
abbrev pub list_left : SpecifierList → List (Result Specified RouteFault)
list_left l = specifiers_by (nodes_of (tree_of l)) (uncut_in (tree_of l) l.left)

abbrev pub specified_in : Tree → Result Specifier RouteFault → Result Specified RouteFault
specified_in t (Ok s) = Ok (specified t s)
specified_in t (Err f) = Err f
