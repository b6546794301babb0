-- The PLIC's order: as a relation, and that it keeps the laws.
use Rattle.std.specs.Prelude.{◌≡◌, ℕ, suc, ◌+◌, ◌-◌, ◌<◌, ◌≤◌, Bool, true, false, cond, ◌⊎◌, List, [], ◌∷◌, length, is_some, Some, None, Option, MatchOption, ◌≢◌, nat_lt, slice_index_or, refl}
use Rattle.std.proofs.Common.{sym, ap, ◌∙◌, inl, inr, ⊎_elim, zero-add, add-zero, arith}
use Rattle.std.proofs.lemmas.List.{at_drop_all, at_drop_more, get_or_past}
use Rattle.std.proofs.lemmas.Bool.{cases_eq, cases_lt, both_ways, ltb-true, ltb-false, some_since}
use Rattle.line.specs.declared.row.Row.{Row}
use Rattle.search.specs.Exactly.{Exactly}
use Rattle.controller.specs.Meaning.{Lawful, at}
use Rattle.table.specs.declared.rows.Table.{Table}
use Rattle.table.specs.Tables.{table_lines}
use Rattle.table.specs.Kinds.{OfferedBy, meaning_by, ready, serving}
use Rattle.table.specs.Orders.{lawful_by, offered_by, ready_waits, waits_ready}
use Rattle.plic.specs.Offers.{Foremost, plic_offer, preferred, top, top_from}

module _ (level : ℕ → ℕ) where
  -- one line down in the search
  pub top_step : (ls : List (Option Row)) (i : ℕ) → top_from level i ls ≡ preferred level i (ready (at ls i)) (top_from level (i + 1) ls)
  top_step ls i =
      ⊎_elim
      (λ (h : i < length ls). at_drop_more (top level i) ls i None h)
      (λ (h : length ls ≤ i).
      let e : at ls i ≡ None = get_or_past ls i None h in
      rw e (at_drop_all (top level i) ls i h ∙ sym (at_drop_all (top level (i + 1)) ls (i + 1) (omega arith))))
      (cases_lt i (length ls))

  pub top_end : (ls : List (Option Row)) (i : ℕ) → length ls ≤ i → top_from level i ls ≡ None
  top_end ls i h = at_drop_all (top level i) ls i h

  -- a turn of the search, which goes from i to i - 1
  pub top_down : (ls : List (Option Row)) (i : ℕ) (best next : Option ℕ) → 0 < i → best ≡ top_from level i ls
      → next ≡ preferred level (i - 1) (ready (at ls (i - 1))) best → next ≡ top_from level (i - 1) ls
  top_down ls i best next h e f =
      let s : i ≡ i - 1 + 1 = omega arith in
      let o : best ≡ top_from level (i - 1 + 1) ls = e ∙ ap (λ (n : ℕ). top_from level n ls) s in
      let t : top_from level (i - 1) ls ≡ preferred level (i - 1) (ready (at ls (i - 1))) (top_from level (i - 1 + 1) ls) = top_step ls (i - 1) in
      cc

  -- line j comes after line i
  abbrev After : ℕ → ℕ → Type 0
  After i j = (level j < level i) ⊎ ((level j ≡ level i) × (i < j))

  clash : (i j : ℕ) → After i j → After j i → ⊥
  clash i j (inl a) (inl b) = omega arith
  clash i j (inl a) (inr b) = omega arith
  clash i j (inr a) (inl b) = omega arith
  clash i j (inr a) (inr b) = omega arith

  at_most : (i j : ℕ) → After i j → level j ≤ level i
  at_most i j (inl a) = omega arith
  at_most i j (inr a) = omega arith

  module _ (look : ℕ → Option Row) where
    -- line i is the best from n on
    record Best (n i : ℕ) : Type 0 where
      from : n ≤ i
      waiting : ready (look i) ≡ true
      others : (j : ℕ) → n ≤ j → ready (look j) ≡ true → (j ≢ i) → After i j

    abbrev Nobody : ℕ → Type 0
    Nobody n = (j : ℕ) → n ≤ j → ready (look j) ≡ false

    nobody_more : (n : ℕ) → ready (look n) ≡ false → Nobody (n + 1) → Nobody n
    nobody_more n e p j h =
        ⊎_elim (λ (q : j ≡ n). rw q e) (λ (q : j ≡ n → ⊥). p j (omega arith)) (cases_eq j n)

    -- line n does not wait
    passed : (n i : ℕ) → ready (look n) ≡ false → Best (n + 1) i → Best n i
    passed n i e p = record {
      from = omega (arith, p.from);
      waiting = p.waiting;
      others = λ j h w ne.
          ⊎_elim (λ (q : j ≡ n). absurd (both_ways (ready (look n)) e (rw q at w))) (λ (q : j ≡ n → ⊥). p.others j (omega arith) w ne) (cases_eq j n);
    }

    -- line n is the only one that waits
    alone : (n : ℕ) → ready (look n) ≡ true → Nobody (n + 1) → Best n n
    alone n e p = record {
      from = omega arith;
      waiting = e;
      others = λ j h w ne. absurd (both_ways (ready (look j)) (p j (omega arith)) w);
    }

    -- line n waits, and the best above it has a greater priority
    beaten : (n i : ℕ) → level n < level i → Best (n + 1) i → Best n i
    beaten n i l p = record {
      from = omega (arith, p.from);
      waiting = p.waiting;
      others = λ j h w ne.
          ⊎_elim (λ (q : j ≡ n). inl (rw q l)) (λ (q : j ≡ n → ⊥). p.others j (omega arith) w ne) (cases_eq j n);
    }

    below_best : (n i : ℕ) → Best (n + 1) i → (j : ℕ) → n + 1 ≤ j → ready (look j) ≡ true → level j ≤ level i
    below_best n i p j h w =
        ⊎_elim (λ (q : j ≡ i). omega (arith, ap level q)) (λ (q : j ≡ i → ⊥). at_most i j (p.others j h w q)) (cases_eq j i)

    -- line n waits, and the best above it has no greater priority
    kept : (n i : ℕ) → ready (look n) ≡ true → level i ≤ level n → Best (n + 1) i → Best n n
    kept n i e l p = record {
      from = omega arith;
      waiting = e;
      others = λ j h w ne.
          let m : level j ≤ level i = below_best n i p j (omega arith) w in
          ⊎_elim (λ (q : level j < level n). inl q) (λ (q : level n ≤ level j). inr (omega arith, omega arith)) (cases_lt (level j) (level n));
    }

    chosen : (n i : ℕ) (b : Bool) → nat_lt (level n) (level i) ≡ b → ready (look n) ≡ true → Best (n + 1) i → MatchOption (cond b (Some i) (Some n)) (Nobody n) (Best n)
    chosen n i true t e p = beaten n i (ltb-true (level n) (level i) t) p
    chosen n i false t e p = kept n i e (ltb-false (level n) (level i) t) p

    step : (n : ℕ) (b : Bool) (o : Option ℕ) → ready (look n) ≡ b → MatchOption o (Nobody (n + 1)) (Best (n + 1)) → MatchOption (preferred level n b o) (Nobody n) (Best n)
    step n false None e p = nobody_more n e p
    step n false (Some i) e p = passed n i e p
    step n true None e p = alone n e p
    step n true (Some i) e p = chosen n i (nat_lt (level n) (level i)) refl e p

    best_from : (n : ℕ) (xs : List (Option Row)) → ((k : ℕ) → look (n + k) ≡ slice_index_or xs k None) → MatchOption (top level n xs) (Nobody n) (Best n)
    best_from n [] is = λ j h. let e : n + (j - n) ≡ j = omega arith in ap ready (sym (ap look e) ∙ is (j - n))
    best_from n (x ∷ xs) is =
        let here : look n ≡ x = sym (ap look (add-zero n)) ∙ is 0 in
        step n (ready x) (top level (n + 1) xs) (ap ready here)
        (best_from (n + 1) xs (λ k. let e : n + 1 + k ≡ n + suc k = omega arith in ap look e ∙ is (suc k)))

    one_best : (n i j : ℕ) → Best n i → Best n j → i ≡ j
    one_best n i j p q =
        ⊎_elim (λ (e : i ≡ j). e)
        (λ (ne : i ≡ j → ⊥). absurd (clash i j (p.others j q.from q.waiting (λ e. ne (sym e))) (q.others i p.from p.waiting ne)))
        (cases_eq i j)

  module _ (ls : List (Option Row)) where
    best_foremost : (i : ℕ) → Best (at ls) 0 i → Foremost level ls i
    best_foremost i p = record {
      waiting = ready_waits (at ls i) p.waiting;
      others = λ j w ne. p.others j (omega arith) (waits_ready (at ls j) w.0 w.1 w.2) ne;
    }

    foremost_best : (i : ℕ) → Foremost level ls i → Best (at ls) 0 i
    foremost_best i p = record {
      from = omega arith;
      waiting = waits_ready (at ls i) p.waiting.0 p.waiting.1 p.waiting.2;
      others = λ j h w ne. p.others j (ready_waits (at ls j) w) ne;
    }

    plic_best : MatchOption (plic_offer level ls) (Nobody (at ls) 0) (Best (at ls) 0)
    plic_best = best_from (at ls) 0 ls (λ k. ap (at ls) (zero-add k))

    both : (o : Option ℕ) → MatchOption o (Nobody (at ls) 0) (Best (at ls) 0) → (i : ℕ) → Exactly (o ≡ Some i) (Foremost level ls i)
    both None p i = record {
      only = λ e. absurd cc;
      every = λ f. absurd (both_ways (ready (at ls i)) (p i (omega arith)) (foremost_best i f).waiting);
    }
    both (Some j) p i = record {
      only = λ e. let q : j ≡ i = cc in rw (← q) (best_foremost j p);
      every = λ f. ap Some (one_best (at ls) 0 j i p (foremost_best i f));
    }

    pub plic_exactly : OfferedBy (Foremost level ls) (plic_offer level ls)
    plic_exactly = offered_by (Foremost level ls) (plic_offer level ls) (both (plic_offer level ls) plic_best)

  pub plic_waiting : (ls : List (Option Row)) (i : ℕ) → plic_offer level ls ≡ Some i → ready (at ls i) ≡ true
  plic_waiting ls i e = let w = (((plic_exactly ls).line i).only e).waiting in waits_ready (at ls i) w.0 w.1 w.2

  pub plic_eager : (ls : List (Option Row)) → ((k : ℕ) → serving (at ls k) ≡ false) → (i : ℕ) → ready (at ls i) ≡ true → is_some (plic_offer level ls) ≡ true
  plic_eager ls idle i w =
      some_since (plic_offer level ls) (Nobody (at ls) 0) (Best (at ls) 0) (plic_best ls) (λ n. both_ways (ready (at ls i)) (n i (omega arith)) w)

  pub plic_lawful : (t : Table) → Lawful (meaning_by (plic_offer level) (table_lines t))
  plic_lawful t =
      let ls = table_lines t in
      lawful_by (plic_offer level) t (plic_waiting ls) (plic_eager ls)
