-- A node whose specifiers are refused ends the reading.
use Rattle.std.proofs.Common.{◌≡◌, List, ◌∷◌, Err, ap}
use Rattle.fdt.specs.Tokens.{after}
use Rattle.tree.specs.Nodes.{Entry, Listed, listed}
use Rattle.specifiers.specs.Cuts.{specifiers_of}
use Rattle.board_faults.specs.declared.BoardFault.{BoardFault}
use Rattle.plan.specs.Drafts.{Drawn, drawn_from, node_drawn}

pub drawn_stop : (es ns : List Listed) (d : Drawn) (e : Entry) (f : BoardFault) → node_drawn es d (specifiers_of es e) ≡ Err f → drawn_from es d (listed e ∷ ns) ≡ Err f
drawn_stop es ns d e f h = ap (λ r. after r (λ x. drawn_from es x ns)) h
