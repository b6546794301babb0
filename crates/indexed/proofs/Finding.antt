-- What a search finds among rows in the order of their phandles, and what a row that goes in changes.
use Rattle.std.proofs.Common.{◌≡◌, ℕ, zero, suc, ◌+◌, ◌-◌, ◌<◌, ◌≤◌, eqb, ◌≢◌, Bool, true, false, cond, List, [], ◌∷◌, ◌++◌, length, get_or, Some, None, Option, Result, Ok, Err, IfOk, IfErr, sym, refl, ap, ◌∙◌, subst, arith}
use Rattle.std.specs.List.{insert}
use Rattle.std.specs.List.Sorted.{IsSearchInRange, IsBinarySearchResult, IsNonDecreasingBy}
use Rattle.std.specs.Ordering.{nat_cmp, ordering_index}
use Rattle.std.proofs.lemmas.Cmp.{ranked}
use Rattle.std.proofs.lemmas.List.Sorted.{IsNonDecreasingBy-from_default}
use Rattle.std.proofs.lemmas.List.Edits.{length-insert, get_or-insert_below, get_or-insert_at, get_or-insert_above}
use Rattle.std.proofs.lemmas.Bool.Decides.{nat_tests}
use Rattle.indexed.specs.declared.row.Few.{Few}
use Rattle.indexed.specs.declared.row.Row.{Row}
use Rattle.indexed.specs.Orders.{IsAt, IsGap, Rising, handle_at, no_row}
use Rattle.indexed.specs.Rows.{row_with}

-- no row before an index has the phandle
abbrev pub NoneBefore : List Row → ℕ → ℕ → Type 0
NoneBefore rs x i = (j : ℕ) → j < i → handle_at rs j ≢ x

none_before_tail : (r : Row) (rs : List Row) (x i : ℕ) → NoneBefore (r ∷ rs) x (suc i) → NoneBefore rs x i
none_before_tail r rs x i none j lt = none (suc j) (omega arith)

is_at_tail : (r : Row) (rs : List Row) (x i : ℕ) → IsAt (r ∷ rs) x (suc i) → IsAt rs x i
is_at_tail r rs x i at = record { within = omega (arith, at.within); has = at.has }

-- a phandle that no row has is not found
pub with_absent : (rs : List Row) (x : ℕ) → NoneBefore rs x (length rs) → row_with x rs ≡ None
with_absent [] x none = refl
with_absent (r ∷ rs) x none = grind (arith, nat_tests, none 0 (omega arith), with_absent rs x (none_before_tail r rs x _ none))

-- the first row that has it is found
pub with_present : (rs : List Row) (x i : ℕ) → IsAt rs x i → NoneBefore rs x i → row_with x rs ≡ Some (get_or rs i no_row)
with_present [] x i at none = absurd (omega (arith, at.within))
with_present (r ∷ rs) x zero at none = grind (arith, nat_tests, at.has)
with_present (r ∷ rs) x (suc i) at none = grind (arith, nat_tests, none 0 (omega arith), with_present rs x i (is_at_tail r rs x i at) (none_before_tail r rs x i none))

-- a row at the end is found where no other is
with_last : (rs : List Row) (r : Row) (x : ℕ) → row_with x rs ≡ None → row_with x (rs ++ r ∷ []) ≡ cond (eqb r.phandle x) (Some r) None
with_last [] r x none = refl
with_last (s ∷ rs) r x none = go (eqb s.phandle x) (with_last rs r x) none
  where
    go : (b : Bool) → (row_with x rs ≡ None → row_with x (rs ++ r ∷ []) ≡ cond (eqb r.phandle x) (Some r) None)
        → cond b (Some s) (row_with x rs) ≡ None → cond b (Some s) (row_with x (rs ++ r ∷ [])) ≡ cond (eqb r.phandle x) (Some r) None
    go true ih e = cc
    go false ih e = ih e

-- a row at the end changes nothing where another is found
with_found : (rs : List Row) (r s : Row) (x : ℕ) → row_with x rs ≡ Some s → row_with x (rs ++ r ∷ []) ≡ row_with x rs
with_found [] r s x e = cc
with_found (q ∷ rs) r s x e = go (eqb q.phandle x) (with_found rs r s x) e
  where
    go : (b : Bool) → (row_with x rs ≡ Some s → row_with x (rs ++ r ∷ []) ≡ row_with x rs)
        → cond b (Some q) (row_with x rs) ≡ Some s → cond b (Some q) (row_with x (rs ++ r ∷ [])) ≡ cond b (Some q) (row_with x rs)
    go true ih e = refl
    go false ih e = ih e

-- a row that goes in where none before has its phandle is found, and so are the others
with_insert : (rs : List Row) (r : Row) (x i : ℕ) → NoneBefore rs r.phandle i → row_with x (insert rs i r) ≡ cond (eqb r.phandle x) (Some r) (row_with x rs)
with_insert rs r x zero none = refl
with_insert [] r x (suc i) none = refl
with_insert (s ∷ rs) r x (suc i) none = grind (arith, nat_tests, none 0 (omega arith), with_insert rs r x i (none_before_tail s rs r.phandle i none))

module _ (rs : List Row) (rising : Rising rs) (x : ℕ) where
  -- the comparisons with x rise along the rows, as a binary search asks
  comparisons_rise : IsNonDecreasingBy (λ (r : Row). ordering_index (nat_cmp r.phandle x)) rs
  comparisons_rise = IsNonDecreasingBy-from_default (λ (r : Row). ordering_index (nat_cmp r.phandle x)) rs no_row (λ i j le within.
      let rise : handle_at rs i ≤ handle_at rs j = grind (arith, rising i j, λ (same : i ≡ j). ap (handle_at rs) same) in
      grind (arith, nat_tests))

  pub searched : (q : Result ℕ ℕ) → IsSearchInRange q (length rs) → IsBinarySearchResult (λ (r : Row). nat_cmp r.phandle x) rs q
      → record { found : IfOk q (IsAt rs x); absent : IfErr q (IsGap rs x) }
  searched (Ok at) within equal = record { found = record { within = within; has = ranked _ x _ (sym (equal no_row)) }; absent = tt }
  searched (Err at) within parted = record {
    found = tt;
    absent = record {
      within = within;
      smaller = λ j lt. ranked _ x _ (sym ((parted comparisons_rise).0 j no_row (omega arith) lt));
      greater = λ j le lt. ranked _ x _ (sym ((parted comparisons_rise).1 j no_row le lt));
    };
  }

module _ (rs : List Row) (rising : Rising rs) (x at : ℕ) (is_at : IsAt rs x at) where
  none_before_at : NoneBefore rs x at
  none_before_at j lt same = omega (arith, rising j at lt is_at.within, is_at.has)

  -- the row at its place is the first with its phandle
  pub with_at : row_with x rs ≡ Some (get_or rs at no_row)
  with_at = with_present rs x at is_at none_before_at

-- a row whose phandle another has counts for nothing
pub added_found : (rs : List Row) (rising : Rising rs) (r : Row) (at : ℕ) → IsAt rs r.phandle at → (x : ℕ) → row_with x rs ≡ row_with x (rs ++ r ∷ [])
added_found rs rising r at is_at x = go (eqb r.phandle x) refl (row_with x rs) refl
  where
    go : (b : Bool) → eqb r.phandle x ≡ b → (o : Option Row) → row_with x rs ≡ o → row_with x rs ≡ row_with x (rs ++ r ∷ [])
    go b e (Some s) q = sym (with_found rs r s x q)
    go false e None q = q ∙ sym (with_last rs r x q ∙ ap (λ z. cond z (Some r) None) e)
    go true e None q =
        let same : r.phandle ≡ x = grind (arith, nat_tests) in
        let w = with_at rs rising r.phandle at is_at in
        let v : row_with x rs ≡ Some (get_or rs at no_row) = rw same at w in
        cc

module _ (rs : List Row) (r : Row) (at : ℕ) (gap : IsGap rs r.phandle at) where
  none_there : NoneBefore rs r.phandle (length rs)
  none_there j lt same = grind (arith, gap.smaller j, gap.greater j)

  -- a phandle that has a gap is not found
  pub with_gap : row_with r.phandle rs ≡ None
  with_gap = with_absent rs r.phandle none_there

  -- a row that goes in at its gap counts as one at the end
  pub added_gap : (x : ℕ) → row_with x (insert rs at r) ≡ row_with x (rs ++ r ∷ [])
  added_gap x = with_insert rs r x at (λ j lt same. omega (arith, gap.smaller j lt)) ∙ go (eqb r.phandle x) refl (row_with x rs) refl
    where
      go : (b : Bool) → eqb r.phandle x ≡ b → (o : Option Row) → row_with x rs ≡ o → cond (eqb r.phandle x) (Some r) (row_with x rs) ≡ row_with x (rs ++ r ∷ [])
      go b e None q = ap (cond (eqb r.phandle x) (Some r)) q ∙ sym (with_last rs r x q)
      go false e (Some s) q = ap (λ z. cond z (Some r) (row_with x rs)) e ∙ sym (with_found rs r s x q)
      go true e (Some s) q =
          let same : r.phandle ≡ x = grind (arith, nat_tests) in
          let v : row_with x rs ≡ None = rw same at with_gap in
          cc

  -- and the order is kept: each new row is an old one below the gap, this one at it, or an old one moved up by one
  pub rising_insert : Rising rs → Rising (insert rs at r)
  rising_insert rising i j lt within =
      let new = insert rs at r in
      let key = λ (s : Row). s.phandle in
      let length_new = length-insert rs at r gap.within in
      let below : (i : ℕ) → i < at → handle_at new i ≡ handle_at rs i = λ i b. ap key (get_or-insert_below rs at r no_row i b gap.within) in
      let here : (i : ℕ) → i ≡ at → handle_at new i ≡ r.phandle = λ i h. rw h (ap key (get_or-insert_at rs at r no_row gap.within)) in
      let above : (i : ℕ) → at < i → handle_at new i ≡ handle_at rs (i - 1) = λ i a. subst (λ q. handle_at new q ≡ handle_at rs (i - 1)) {x = i - 1 + 1} (omega arith) (ap key (get_or-insert_above rs at r no_row (i - 1) (omega arith) gap.within)) in
      grind (arith, below i, here i, above i, below j, here j, above j, rising i j, rising i (j - 1), rising (i - 1) (j - 1), gap.smaller i, gap.greater (j - 1))

-- the row that a gap is for is not found
pub with_none : (rs : List Row) (x at : ℕ) → IsGap rs x at → row_with x rs ≡ None
with_none rs x at gap = with_absent rs x (λ j lt same. grind (arith, gap.smaller j, gap.greater j))

pub same_few : (f g : Few) → f.address ≡ g.address → f.interrupt ≡ g.interrupt → f ≡ g
same_few f g a n = λ i. record { address = a i; interrupt = n i }
