-- The lowest line that waits: as a relation, and that it keeps the laws.
use Rattle.std.specs.Prelude.{◌≡◌, ℕ, ◌<◌, true, false, ◌⊎◌, List, length, is_some, Some, None, Option, refl}
use Rattle.std.proofs.Common.{ap, ◌∙◌, inl, inr, ⊎_elim, arith}
use Rattle.std.proofs.lemmas.List.{get_or_default}
use Rattle.std.proofs.lemmas.Bool.{cases_Bool, both_ways}
use Rattle.line.specs.declared.row.Row.{Row}
use Rattle.search.specs.First.{FirstAt}
use Rattle.search.proofs.Firsts.{first_fit}
use Rattle.controller.specs.Meaning.{Lawful, at}
use Rattle.table.specs.declared.rows.Table.{Table}
use Rattle.table.specs.Tables.{table_lines}
use Rattle.table.specs.Kinds.{OfferedBy, meaning_by, ready, serving}
use Rattle.table.specs.Orders.{lawful_by, offered_by, ready_waits, there, waits_ready}
use Rattle.status_mux.specs.Offers.{LowestWaiting, mux_offer}

lowest_first : (ls : List (Option Row)) (i : ℕ) → LowestWaiting ls i → FirstAt ready ls i
lowest_first ls i p =
    let w : ready (at ls i) ≡ true = waits_ready (at ls i) p.waiting.0 p.waiting.1 p.waiting.2 in
    let h : i < length ls = there ready refl ls i w in
    record {
      within = h;
      passes = λ d. ap ready (get_or_default ls i d None h) ∙ w;
      before = λ k d q.
          ap ready (get_or_default ls k d None (omega arith))
          ∙ ⊎_elim (λ (y : ready (at ls k) ≡ true). absurd (p.below k q (ready_waits (at ls k) y))) (λ (n : ready (at ls k) ≡ false). n) (cases_Bool (ready (at ls k)));
    }

first_lowest : (ls : List (Option Row)) (i : ℕ) → FirstAt ready ls i → LowestWaiting ls i
first_lowest ls i f =
    record {
      waiting = ready_waits (at ls i) (f.passes None);
      below = λ k q w. both_ways (ready (at ls k)) (f.before k None q) (waits_ready (at ls k) w.0 w.1 w.2);
    }

pub mux_exactly : (ls : List (Option Row)) → OfferedBy (LowestWaiting ls) (mux_offer ls)
mux_exactly ls =
    let f = first_fit ready ls in
    offered_by (LowestWaiting ls) (mux_offer ls)
    (λ i. record { only = λ e. first_lowest ls i ((f.found i).only e); every = λ p. (f.found i).every (lowest_first ls i p) })

some_or_none : (o : Option ℕ) → (is_some o ≡ true) ⊎ (o ≡ None)
some_or_none None = inr refl
some_or_none (Some i) = inl refl

pub mux_waiting : (ls : List (Option Row)) (i : ℕ) → mux_offer ls ≡ Some i → ready (at ls i) ≡ true
mux_waiting ls i e = (((first_fit ready ls).found i).only e).passes None

pub mux_eager : (ls : List (Option Row)) → ((k : ℕ) → serving (at ls k) ≡ false) → (i : ℕ) → ready (at ls i) ≡ true → is_some (mux_offer ls) ≡ true
mux_eager ls idle i w =
    ⊎_elim (λ (y : is_some (mux_offer ls) ≡ true). y)
    (λ (n : mux_offer ls ≡ None). absurd (both_ways (ready (at ls i)) ((first_fit ready ls).none.only n i None (there ready refl ls i w)) w))
    (some_or_none (mux_offer ls))

pub mux_lawful : (t : Table) → Lawful (meaning_by mux_offer (table_lines t))
mux_lawful t =
    let ls = table_lines t in
    lawful_by mux_offer t (mux_waiting ls) (mux_eager ls)
