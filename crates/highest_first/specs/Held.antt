-- That the order keeps the laws, and says what its rule in words says.
use Rattle.std.proofs.Common.{◌≡◌, ℕ, zero, suc, ◌<◌, ◌≤◌, ◌≢◌, Bool, true, false, cond, List, [], ◌∷◌, length, map, set, is_some, Some, None, Option, refl, ap, ◌∙◌, ◌⊎◌, inl, inr, ⊎_elim, arith}
use Rattle.std.proofs.lemmas.List.{get_or_past}
use Rattle.std.proofs.lemmas.Bool.{cases_eq, cases_lt, both_ways}
use Rattle.search.specs.Exactly.{Exactly}
use Rattle.line.specs.declared.row.Row.{Row}
use Rattle.line.specs.Rows.{Legal, made, waits}
use Rattle.line.specs.Made.{made_legal}
use Rattle.controller.specs.Meaning.{Lawful, Waits, at}
use Rattle.highest_first.specs.declared.chip.HighestFirst.{HighestFirst}
use Rattle.highest_first.specs.Highest.{HighestWaiting, chip_lines, chip_meaning, highest, highest_below, lines_of, made_line, ready}

-- lines that are records, of which any is then wired
abbrev AllLegal : List (Option Row) → Type 0
AllLegal ls = (i : ℕ) (r : Row) → at ls i ≡ Some r → Legal r

made_all_legal : (xs : List Row) → AllLegal (map made_line xs)
made_all_legal [] i r e = absurd cc
made_all_legal (x ∷ xs) zero r e = let q : made x ≡ r = cc in rw (← q) (made_legal x)
made_all_legal (x ∷ xs) (suc i) r e = made_all_legal xs i r e

wired_legal : (ls : List (Option Row)) (k : ℕ) → AllLegal ls → AllLegal (set ls k None)
wired_legal [] k h i r e = absurd cc
wired_legal (x ∷ xs) zero h zero r e = absurd cc
wired_legal (x ∷ xs) zero h (suc i) r e = h (suc i) r e
wired_legal (x ∷ xs) (suc k) h zero r e = h zero r e
wired_legal (x ∷ xs) (suc k) h (suc i) r e = wired_legal xs k (λ j. h (suc j)) i r e

pub lines_legal : (xs : List Row) → AllLegal (lines_of xs)
lines_legal xs = wired_legal (map made_line xs) 5 (made_all_legal xs)

ready_waits : (x : Option Row) → ready x ≡ true → (r : Row) × (x ≡ Some r) × (waits r ≡ true)
ready_waits None e = absurd cc
ready_waits (Some r) e = (r, refl, e)

waits_ready : (ls : List (Option Row)) (i : ℕ) → Waits ls i → ready (at ls i) ≡ true
waits_ready ls i w = ap ready w.1 ∙ w.2

-- a line that waits is there
there : (ls : List (Option Row)) (i : ℕ) → Waits ls i → i < length ls
there ls i w =
    ⊎_elim (λ (h : i < length ls). h)
    (λ (h : length ls ≤ i).
    let p : at ls i ≡ None = get_or_past ls i None h in
    let q : at ls i ≡ Some w.0 = w.1 in
    absurd cc)
    (cases_lt i (length ls))

-- what the search for the highest line below n finds
record Found (ls : List (Option Row)) (n i : ℕ) : Type 0 where
  waiting : ready (at ls i) ≡ true
  above : (k : ℕ) → i < k → k < n → ready (at ls k) ≡ false

abbrev FoundBelow : List (Option Row) → ℕ → Option ℕ → Type 0
FoundBelow ls n None = (k : ℕ) → k < n → ready (at ls k) ≡ false
FoundBelow ls n (Some i) = (i < n) × Found ls n i

ready_more : (ls : List (Option Row)) (n k : ℕ) → ready (at ls n) ≡ false → (k < n → ready (at ls k) ≡ false) → k < suc n → ready (at ls k) ≡ false
ready_more ls n k e f h =
    ⊎_elim (λ (q : k ≡ n). ap (λ j. ready (at ls j)) q ∙ e) (λ (q : k ≢ n). f (omega arith)) (cases_eq k n)

found_more : (ls : List (Option Row)) (n : ℕ) (b : Bool) → ready (at ls n) ≡ b → (o : Option ℕ) → FoundBelow ls n o → FoundBelow ls (suc n) (cond b (Some n) o)
found_more ls n true e o f = (omega arith, record { waiting = e; above = λ k h l. absurd (let z : ⊥ = omega arith in z) })
found_more ls n false e None f = λ k h. ready_more ls n k e (f k) h
found_more ls n false e (Some i) f =
    let within = f.0 in
    (omega arith, record { waiting = f.1.waiting; above = λ k h l. ready_more ls n k e (f.1.above k h) l })

finds : (ls : List (Option Row)) (n : ℕ) → FoundBelow ls n (highest_below ls n)
finds ls zero = λ k h. absurd (let z : ⊥ = omega arith in z)
finds ls (suc n) = found_more ls n (ready (at ls n)) refl (highest_below ls n) (finds ls n)

-- what the search over all lines finds, in the words of the rule
abbrev OfferedBy : List (Option Row) → Option ℕ → Type 0
OfferedBy ls r = ((i : ℕ) → Exactly (r ≡ Some i) (HighestWaiting ls i)) × Exactly (r ≡ None) ((i : ℕ) → Waits ls i → ⊥)

idle : (ls : List (Option Row)) (i : ℕ) → ((k : ℕ) → k < length ls → ready (at ls k) ≡ false) → Waits ls i → ⊥
idle ls i f w = both_ways (ready (at ls i)) (f i (there ls i w)) (waits_ready ls i w)

in_words : (ls : List (Option Row)) (i : ℕ) → Found ls (length ls) i → HighestWaiting ls i
in_words ls i f = record {
  waiting = ready_waits (at ls i) f.waiting;
  above = λ k h w. both_ways (ready (at ls k)) (f.above k h (there ls k w)) (waits_ready ls k w);
}

one_highest : (ls : List (Option Row)) (i j : ℕ) → HighestWaiting ls i → HighestWaiting ls j → i ≡ j
one_highest ls i j p q =
    ⊎_elim (λ (e : i ≡ j). e)
    (λ (n : i ≢ j). ⊎_elim (λ (h : i < j). absurd (p.above j h q.waiting)) (λ (h : j ≤ i). absurd (q.above i (omega arith) p.waiting)) (cases_lt i j))
    (cases_eq i j)

offered_by : (ls : List (Option Row)) (r : Option ℕ) → FoundBelow ls (length ls) r → OfferedBy ls r
offered_by ls None f = (
  (λ i. record { only = λ e. absurd cc; every = λ p. absurd (idle ls i f p.waiting) }),
  record { only = λ e i w. idle ls i f w; every = λ n. refl },
)
offered_by ls (Some j) f =
    let here = in_words ls j f.1 in (
      (λ i. record { only = λ e. let q : j ≡ i = cc in rw q at here; every = λ p. ap Some (one_highest ls j i here p) }),
      record { only = λ e. absurd cc; every = λ n. absurd (n j here.waiting) },
    )

pub highest_exactly : (ls : List (Option Row)) (i : ℕ) → Exactly (highest ls ≡ Some i) (HighestWaiting ls i)
highest_exactly ls = (offered_by ls (highest ls) (finds ls (length ls))).0

pub highest_none : (ls : List (Option Row)) → Exactly (highest ls ≡ None) ((i : ℕ) → Waits ls i → ⊥)
highest_none ls = (offered_by ls (highest ls) (finds ls (length ls))).1

some_or_none : (o : Option ℕ) → (is_some o ≡ true) ⊎ (o ≡ None)
some_or_none None = inr refl
some_or_none (Some i) = inl refl

pub chip_lawful : (x : HighestFirst) → Lawful (chip_meaning x)
chip_lawful x =
    let ls = chip_lines x in
    record {
      legal = lines_legal x.rows;
      waiting = λ i e. ((highest_exactly ls i).only e).waiting;
      eager = λ idle i w. ⊎_elim (λ (y : is_some (highest ls) ≡ true). y) (λ (n : highest ls ≡ None). absurd ((highest_none ls).only n i w)) (some_or_none (highest ls));
    }

pub offered_exactly : (ls : List (Option Row)) (o : Option ℕ) → o ≡ highest ls → (i : ℕ) → Exactly (o ≡ Some i) (HighestWaiting ls i)
offered_exactly ls o e = rw e (highest_exactly ls)

pub offered_none : (ls : List (Option Row)) (o : Option ℕ) → o ≡ highest ls → Exactly (o ≡ None) ((i : ℕ) → Waits ls i → ⊥)
offered_none ls o e = rw e (highest_none ls)
