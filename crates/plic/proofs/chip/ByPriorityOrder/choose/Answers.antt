use Rattle.std.proofs.Common.{◌≡◌, ℕ, zero, suc, ◌+◌, ◌-◌, Option, List, [], ◌∷◌, length, refl, sym, ap, ◌∙◌, zero-add, arith, rules}
use Rattle.std.specs.declared.ops.Range.{Range}
use Rattle.std.specs.declared.iter.Rev.{Rev}
use Rattle.std.specs.List.{filter, fold, reduce}
use Rattle.std.specs.Iterator.Adapters.{filter_steps, rev_source, rev_steps}
use Rattle.std.proofs.iter.runs.Sources.{nat_range_steps_back}
use Rattle.std.proofs.lemmas.Iterator.{YieldsList}
use Rattle.std.proofs.lemmas.Iterator.Consumers.{YieldsList-from_shown, YieldsList-from_filter, YieldsList-at, reduce_from_yields_List}
use Rattle.line.specs.declared.row.Row.{Row}
use Rattle.controller.specs.Meaning.{at}
use Rattle.table.specs.Kinds.{ready}
use Rattle.table.specs.Tables.{table_lines}
use Rattle.plic.specs.Offers.{level_of, plic_offer, preferred, top_from}
use Rattle.plic.specs.Best.{top_end, top_step}
use Rattle.plic.proofs.Greatest.{pick, picks, best_of}
use Rattle.plic.proofs.chip.ByPriorityOrder.choose.Goals as goal

-- the n numbers from a on, last first
abbrev down : ℕ → ℕ → List ℕ
down a zero = []
down a (suc n) = (a + n) ∷ down a n

down_more : (a n b m x : ℕ) → n ≡ suc m → x ≡ a + m → b ≡ a → down a n ≡ x ∷ down b m
down_more a n b m x e f g =
    ap (down a) e ∙ ap (λ w. w ∷ down a m) (sym f) ∙ ap (λ w. x ∷ down w m) (sym g)

shown : Rev (Range ℕ) → List ℕ
shown s = down (rev_source s).start ((rev_source s).end - (rev_source s).start)

counts_down : (s : Rev (Range ℕ)) → YieldsList (rev_steps nat_range_steps_back) (λ x. x) s (shown s)
unfolding shown
counts_down s =
    YieldsList-from_shown (rev_steps nat_range_steps_back) (λ x. x) shown
    (λ u t p. ap (λ n. length (down (rev_source u).start n)) p.1.0)
    (λ u x t p.
    down_more (rev_source u).start ((rev_source u).end - (rev_source u).start) (rev_source t).start ((rev_source t).end - (rev_source t).start) x
    (omega (arith, p.0, p.1.0, p.1.2)) (omega (arith, p.0, p.1.0, p.1.1, p.1.2)) p.0)
    s

-- from the best line from n on, through the numbers below n, to the best line of all
downward : (level : ℕ → ℕ) (ls : List (Option Row)) (n : ℕ) → fold (λ above i. preferred level i (ready (at ls i)) above) (top_from level n ls) (down 0 n) ≡ plic_offer level ls
downward level ls zero = refl
downward level ls (suc n) =
    let z : 0 + n ≡ n = zero-add n in
    let s : suc n ≡ n + 1 = omega arith in
    ap (λ a. fold (λ above i. preferred level i (ready (at ls i)) above) a (down 0 n))
    (ap (λ i. preferred level i (ready (at ls i)) (top_from level (suc n) ls)) z
    ∙ ap (λ m. preferred level n (ready (at ls n)) (top_from level m ls)) s
    ∙ sym (top_step level ls n))
    ∙ downward level ls n

pub returns : goal.returns
unfolding shown
returns c =
    let ls = table_lines c.args.table.now in
    let level = level_of c.args.self.now in
    let n = c.width.result in
    let waits = λ (i : ℕ). ready (at ls i) in
    let better = λ (above : Option ℕ) (i : ℕ). preferred level i (waits i) above in
    let e = reduce_from_yields_List (pick level) c.filter.result c.max_by_key.result (picks level (λ x b q k. search rules) (filter_steps (rev_steps nat_range_steps_back) _) c.filter.result c.max_by_key.result c.max_by_key.ensures.ran)
    (YieldsList-from_filter _ waits (YieldsList-at c.filter.ensures.source (counts_down c.rev.result)) c.filter.ensures.closure (λ x b q k. search rules)) in
    let z : n - 0 ≡ n = omega arith in
    e
    ∙ ap (λ (u : Range ℕ). reduce (pick level) (filter waits (down u.start (u.end - u.start)))) c.rev.ensures.source
    ∙ ap (λ k. reduce (pick level) (filter waits (down 0 k))) z
    ∙ best_of level waits (down 0 n)
    ∙ ap (λ a. fold better a (down 0 n)) (sym (top_end level ls n (omega arith)))
    ∙ downward level ls n
