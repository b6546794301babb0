-- Finding nodes in the list of a tree's nodes.
use Rattle.std.specs.Prelude.{ℕ, ◌+◌, cond, List, [], ◌∷◌, Some, None, Ok, Err, Option, Result, ◌==◌}
use Rattle.faults.specs.declared.fault.TokenFault.{TokenFault}
use Rattle.tree.specs.Nodes.{Entry, Listed, listed, broken}

-- the node at a place
abbrev pub node_at : ℕ → List Listed → Result (Option Entry) TokenFault
node_at p [] = Ok None
node_at p (broken f ∷ es) = Err f
node_at p (listed e ∷ es) = cond (e.place == p) (Ok (Some e)) (node_at p es)

-- the last node before the one at a place that is one less deep than it; `above` is the last so far
abbrev pub parent_from : ℕ → ℕ → Option Entry → List Listed → Result (Option Entry) TokenFault
parent_from p depth above [] = Ok None
parent_from p depth above (broken f ∷ es) = Err f
parent_from p depth above (listed e ∷ es) =
    cond (e.place == p) (Ok above)
    (parent_from p depth (cond (e.depth + 1 == depth) (Some e) above) es)

abbrev pub parent_of : ℕ → ℕ → List Listed → Result (Option Entry) TokenFault
parent_of p depth es = parent_from p depth None es
