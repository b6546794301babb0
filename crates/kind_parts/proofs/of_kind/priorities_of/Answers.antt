use Rattle.std.proofs.Common.{◌≡◌, ℕ, ◌+◌, refl, ◌∙◌, zero-add, arith, rules, tests}
use Rattle.std.specs.Prelude.{slice_index}
use Rattle.std.proofs.lemmas.List.{get_or-map}
use Rattle.table.specs.declared.one_to.OneTo.{OneTo}
use Rattle.cell_list.specs.CellLists.{cells_in}
use Rattle.kind_parts.specs.Makes.{cell_level}
use Rattle.kind_parts.proofs.Filled.{made_at}
use Rattle.kind_parts.proofs.of_kind.priorities_of.Goals as goal

pub returns : goal.returns
returns c = λ i h.
    let r = c.from_fn.ensures.items in
    let n = r.long in
    let first = r.each.1 in
    let number = λ (p : OneTo 7). p.number in
    let level = λ (j : ℕ). cell_level (slice_index (cells_in c.args.cells.now) j) in
    let z : 0 + i ≡ i = zero-add i in
    get_or-map number c.from_fn.result i first 1 (omega arith)
    ∙ rw z at (made_at number level c.from_fn.result (λ x y q k. search (rules, tests)) 0 64 _ refl r.each i first h)
