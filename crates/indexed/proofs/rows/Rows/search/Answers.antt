use Rattle.std.proofs.Common.{rules}
use Rattle.std.proofs.lemmas.List.Sorted.{answers_always}
use Rattle.indexed.specs.declared.row.Row.{Row}
use Rattle.indexed.proofs.Finding.{searched}
use Rattle.indexed.proofs.rows.Rows.search.Goals as goal

-- the closure gives a row's phandle, and the slice is the list of rows
pub returns : goal.returns
returns c =
    let facts = c.binary_search_by_key.ensures in
    let by_key = facts.position (λ (r : Row). r.phandle) (answers_always _ _ _ (λ f a r g called. search rules)) in
    rw (← c.as_slice.ensures.value) (searched _ (rw c.as_slice.ensures.value c.args.self.now.rising) c.args.phandle _ facts.bound by_key)
