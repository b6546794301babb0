use Rattle.indexed.proofs.Finding.{added_found, added_gap, rising_insert}
use Rattle.indexed.proofs.rows.Rows.add.Goals as goal

-- another row has the phandle
pub returns-in_default-search-clause-more : goal.returns-in_default-search-clause-more
returns-in_default-search-clause-more c =
    let rs = c.args.self.now.list.items in
    λ t x. rw c.in-Some.is (added_found rs c.args.self.now.rising c.in-Some.row c.in_default-search.field-0 c.in_default-search.ensures.found x)

-- the row goes in at its gap
pub invariant_of-self : goal.invariant_of-self
invariant_of-self c =
    let rs = c.args.self.now.list.items in
    record { rising = rw c.insert.ensures.items (rising_insert rs c.in-Some.row c.in-Err.at c.in-Err.ensures.absent c.args.self.now.rising) }

pub returns-clause-more : goal.returns-clause-more
returns-clause-more c =
    let rs = c.args.self.now.list.items in
    λ t x. rw (c.insert.ensures.items, c.in-Some.is) (added_gap rs c.in-Some.row c.in-Err.at c.in-Err.ensures.absent x)
