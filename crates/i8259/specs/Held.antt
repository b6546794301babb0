-- The 8259A's order: as a relation, and that it keeps the laws.
use Rattle.std.specs.Prelude.{◌≡◌, ℕ, ◌<◌, Bool, true, false, cond, List, length, is_some, Some, None, Option, refl}
use Rattle.std.proofs.Common.{ap, ◌∙◌, ⊎_elim, arith}
use Rattle.std.proofs.lemmas.List.{get_or_default}
use Rattle.std.proofs.lemmas.Bool.{cases_Bool, both_ways, or_from, or_left, or_parts}
use Rattle.line.specs.declared.row.Row.{Row}
use Rattle.search.specs.First.{FirstAt, FirstFit, first}
use Rattle.search.proofs.Firsts.{first_fit}
use Rattle.controller.specs.Meaning.{Lawful, at}
use Rattle.table.specs.declared.rows.Table.{Table}
use Rattle.table.specs.Tables.{table_lines}
use Rattle.table.specs.Kinds.{OfferedBy, meaning_by, ready, serving}
use Rattle.table.specs.Orders.{lawful_by, offered_by, ready_waits, serves_serving, serving_serves, there, waits_ready}
use Rattle.i8259.specs.Offers.{LowestUnserved, held, i8259_offer, if_waiting}

-- an offered line is the first that is held, and waits
waiting_one : (ls : List (Option Row)) (j i : ℕ) (b : Bool) → ready (at ls j) ≡ b → cond b (Some j) None ≡ Some i → (Some j ≡ Some i) × (ready (at ls i) ≡ true)
waiting_one ls j i true w e = (e, (let q : j ≡ i = cc in rw (← q) w))
waiting_one ls j i false w e = absurd cc

waiting_of : (ls : List (Option Row)) (o : Option ℕ) (i : ℕ) → if_waiting ls o ≡ Some i → (o ≡ Some i) × (ready (at ls i) ≡ true)
waiting_of ls None i e = absurd cc
waiting_of ls (Some j) i e = waiting_one ls j i (ready (at ls j)) refl e

unserved_first : (ls : List (Option Row)) (i : ℕ) → LowestUnserved ls i → FirstAt held ls i
unserved_first ls i p =
    let w : ready (at ls i) ≡ true = waits_ready (at ls i) p.waiting.0 p.waiting.1 p.waiting.2 in
    let h : i < length ls = there ready refl ls i w in
    record {
      within = h;
      passes = λ d. ap held (get_or_default ls i d None h) ∙ or_left (ready (at ls i)) (serving (at ls i)) w;
      before = λ k d q.
          ap held (get_or_default ls k d None (omega arith))
          ∙ or_from (ready (at ls k)) (serving (at ls k))
          (⊎_elim (λ (y : ready (at ls k) ≡ true). absurd (p.below k q (ready_waits (at ls k) y))) (λ (n : ready (at ls k) ≡ false). n) (cases_Bool (ready (at ls k))))
          (⊎_elim (λ (y : serving (at ls k) ≡ true). absurd (p.service k q (serving_serves (at ls k) y))) (λ (n : serving (at ls k) ≡ false). n) (cases_Bool (serving (at ls k))));
    }

first_unserved : (ls : List (Option Row)) (i : ℕ) → ready (at ls i) ≡ true → FirstAt held ls i → LowestUnserved ls i
first_unserved ls i e f =
    record {
      waiting = ready_waits (at ls i) e;
      below = λ k q w. both_ways (ready (at ls k)) (or_parts (ready (at ls k)) (serving (at ls k)) (f.before k None q)).0 (waits_ready (at ls k) w.0 w.1 w.2);
      service = λ k q w. both_ways (serving (at ls k)) (or_parts (ready (at ls k)) (serving (at ls k)) (f.before k None q)).1 (serves_serving (at ls k) w.0 w.1 w.2);
    }

offered_unserved : (ls : List (Option Row)) (i : ℕ) → FirstFit held ls (first held ls) → i8259_offer ls ≡ Some i → LowestUnserved ls i
offered_unserved ls i f e = let q = waiting_of ls (first held ls) i e in first_unserved ls i q.1 ((f.found i).only q.0)

unserved_offered : (ls : List (Option Row)) (i : ℕ) → FirstFit held ls (first held ls) → LowestUnserved ls i → i8259_offer ls ≡ Some i
unserved_offered ls i f p =
    let e : first held ls ≡ Some i = (f.found i).every (unserved_first ls i p) in
    let w : ready (at ls i) ≡ true = waits_ready (at ls i) p.waiting.0 p.waiting.1 p.waiting.2 in
    ap (if_waiting ls) e ∙ ap (λ (b : Bool). cond b (Some i) None) w

pub i8259_exactly : (ls : List (Option Row)) → OfferedBy (LowestUnserved ls) (i8259_offer ls)
i8259_exactly ls =
    let f = first_fit held ls in
    offered_by (LowestUnserved ls) (i8259_offer ls)
    (λ i. record { only = λ e. offered_unserved ls i f e; every = λ p. unserved_offered ls i f p })

-- with no line in service, the first that is held waits
idle_first : (ls : List (Option Row)) (o : Option ℕ) → FirstFit held ls o → ((k : ℕ) → serving (at ls k) ≡ false) → (i : ℕ) → ready (at ls i) ≡ true → is_some (if_waiting ls o) ≡ true
idle_first ls None f idle i w =
    let h : i < length ls = there ready refl ls i w in
    absurd (both_ways (held (at ls i)) (f.none.only refl i None h) (or_left (ready (at ls i)) (serving (at ls i)) w))
idle_first ls (Some j) f idle i w =
    let p : held (at ls j) ≡ true = ((f.found j).only refl).passes None in
    let s : serving (at ls j) ≡ false = idle j in
    ap (λ (b : Bool). is_some (cond b (Some j) None))
    (⊎_elim (λ (y : ready (at ls j) ≡ true). y) (λ (n : ready (at ls j) ≡ false). absurd (both_ways (held (at ls j)) (or_from (ready (at ls j)) (serving (at ls j)) n s) p)) (cases_Bool (ready (at ls j))))

pub i8259_waiting : (ls : List (Option Row)) (i : ℕ) → i8259_offer ls ≡ Some i → ready (at ls i) ≡ true
i8259_waiting ls i e = (waiting_of ls (first held ls) i e).1

pub i8259_eager : (ls : List (Option Row)) → ((k : ℕ) → serving (at ls k) ≡ false) → (i : ℕ) → ready (at ls i) ≡ true → is_some (i8259_offer ls) ≡ true
i8259_eager ls idle i w = idle_first ls (first held ls) (first_fit held ls) idle i w

pub i8259_lawful : (t : Table) → Lawful (meaning_by i8259_offer (table_lines t))
i8259_lawful t =
    let ls = table_lines t in
    lawful_by i8259_offer t (i8259_waiting ls) (i8259_eager ls)
