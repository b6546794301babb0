-- All specifiers of a node, in order.
use Rattle.std.specs.Prelude.{ℕ, zero, suc, List, [], ◌∷◌, length, Some, None, Ok, Err, Option, Result}
use Rattle.faults.specs.declared.fault.RouteFault.{RouteFault}
use Rattle.tree.specs.Nodes.{Entry, Listed}
use Rattle.specifiers.specs.Specifiers.{CutOff, Specified, Uncut, next_specifier, specifiers_from}

-- the next specifier and those after it, of which k has those of what is left; a fault ends them
abbrev pub cuts_by : (Uncut → List (Result Specified RouteFault)) → Result (Option CutOff) RouteFault → List (Result Specified RouteFault)
cuts_by k (Err f) = Err f ∷ []
cuts_by k (Ok None) = []
cuts_by k (Ok (Some c)) = Ok c.specifier ∷ k c.rest

-- at most n specifiers of what is not cut yet
abbrev pub cuts_in : ℕ → List Listed → Uncut → List (Result Specified RouteFault)
cuts_in zero es u = []
cuts_in (suc n) es u = cuts_by (cuts_in n es) (next_specifier es u)

-- the specifiers of what is not cut yet, each of which has a cell
unfoldable pub specifiers_in : List Listed → Uncut → List (Result Specified RouteFault)
specifiers_in es u = cuts_in (suc (length u.left)) es u

abbrev pub specifiers_by : List Listed → Result (Option Uncut) RouteFault → List (Result Specified RouteFault)
specifiers_by es (Err f) = Err f ∷ []
specifiers_by es (Ok None) = []
specifiers_by es (Ok (Some u)) = specifiers_in es u

-- the specifiers of a node in order; the last may be the fault of one that could not be cut
abbrev pub specifiers_of : List Listed → Entry → List (Result Specified RouteFault)
specifiers_of es e = specifiers_by es (specifiers_from es e)
