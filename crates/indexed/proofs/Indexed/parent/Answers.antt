use Rattle.std.proofs.Common.{◌≡◌, ◌∙◌, ap, None, Some, Ok, rules}
use Rattle.tree.specs.Reads.{entry_in}
use Rattle.indexed.specs.Spots.{above_entry, above_from, read_at}
use Rattle.indexed.proofs.Above.{entry_found, parent_spotted}
use Rattle.indexed.proofs.Indexed.parent.Goals as goal

pub returns-in_default : goal.returns-in_default
returns-in_default c =
    let it = c.args.self.now in
    let n = c.args.node.now in
    let none : None ≡ above_from n.place.0 n.body.depth None it.spots.list.items = search rules in
    ap (λ o. Ok (above_entry it.tree o)) none
    ∙ parent_spotted it.tree n.place.0 n.body.depth it.spots.list.items (it.spotted (search rules))

pub returns-in-Ok-Some : goal.returns-in-Ok-Some
returns-in-Ok-Some c =
    let it = c.args.self.now in
    let n = c.args.node.now in
    let s = c.in-Some.spot in
    let e = entry_in it.tree c.in-Ok-Some.above in
    let some : Some s ≡ above_from n.place.0 n.body.depth None it.spots.list.items = search rules in
    let read : Ok (Some e) ≡ read_at it.tree s = search rules in
    let here = c.is_of.ensures c.if-is_of.true in
    ap (λ x. Ok (Some x)) (entry_found it.tree s e read here.0 here.1)
    ∙ ap (λ o. Ok (above_entry it.tree o)) some
    ∙ parent_spotted it.tree n.place.0 n.body.depth it.spots.list.items (it.spotted (search rules))
