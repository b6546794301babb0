-- What a row that was read is made of, and the rows after it.
use Rattle.std.proofs.Common.{◌≡◌, ℕ, zero, suc, ◌+◌, ◌-◌, ◌<◌, ◌≤◌, Bool, true, false, cond, eqb, ltb, leb, List, [], ◌∷◌, length, get_or, take, drop, Ok, Err, Result, sym, refl, ◌∙◌, arith}
use Rattle.std.proofs.lemmas.Bool.{ne_eqb, le-ltb, ltb-true, leb-true}
use Rattle.faults.specs.declared.fault.RouteFault.{RouteFault}
use Rattle.faults.specs.declared.fault.RouteFault.TheVariants.{Row}
use Rattle.fdt.specs.Tokens.{after}
use Rattle.fdt.proofs.Onward.{after_by, cond_ok}
use Rattle.tree.specs.Nodes.{Entry, Listed}
use Rattle.values.specs.declared.counts.Counts.{Counts}
use Rattle.values.specs.Counts.{counts_of}
use Rattle.values.specs.Values.{node_of}
use Rattle.nexus.specs.Nexuses.{Ready, matches}
use Rattle.nexus.specs.Rows.{RowSeen, row_size, shape_of, shape_by, with_parent, row_at, rows_from, Took, take_row, FrontSeen, front, front_by, take_front, front_taken}

module _ (es : List Listed) (n : Ready) where
  -- what a row that could be read is made of
  pub record Parts (rest : List ℕ) (r : RowSeen) : Type 0 where
    pub parent : Entry
    pub counts : Counts
    pub there : node_of es (get_or rest n.width 0) n.holder ≡ Ok parent
    pub counted : counts_of parent ≡ Ok counts
    pub is : shape_of n.width rest counts ≡ r.shape
    pub wide : n.width < length rest
    pub fits : counts.address + counts.interrupt ≤ length (drop (n.width + 1) rest)

  pub parts : (rest : List ℕ) (r : RowSeen) → row_at es n rest ≡ Ok r → Parts rest r
  parts rest r e =
      let read = λ (p : Entry). after (after (counts_of p) (shape_by n rest)) (with_parent p) in
      let t = cond_ok (ltb n.width (length rest)) (after (node_of es (get_or rest n.width 0) n.holder) read) (Row n.holder) r e in
      after_by (node_of es (get_or rest n.width 0) n.holder) read r (λ p ep f.
      after_by (after (counts_of p) (shape_by n rest)) (with_parent p) r (λ s eq same.
      after_by (counts_of p) (shape_by n rest) s (λ c ec g.
      let k = cond_ok (leb (c.address + c.interrupt) (length (drop (n.width + 1) rest))) (Ok (shape_of n.width rest c)) (Row n.holder) s g in
      record {
        parent = p;
        counts = c;
        there = ep;
        counted = ec;
        is = cc;
        wide = ltb-true n.width (length rest) t.0;
        fits = leb-true (c.address + c.interrupt) (length (drop (n.width + 1) rest)) k.0;
      }) eq) f) t.1

  -- a skip is a drop
  pub rows_skip : (xs : List ℕ) (row k : ℕ) → rows_from es n row xs k ≡ rows_from es n row (drop k xs) 0
  rows_skip [] row zero = refl
  rows_skip [] row (suc k) = refl
  rows_skip (x ∷ xs) row zero = refl
  rows_skip (x ∷ xs) row (suc k) = rows_skip xs row k

  pub rows_passed : (x : ℕ) (xs : List ℕ) (row size : ℕ) → 0 < size
      → rows_from es n row xs (size - 1) ≡ rows_from es n row (drop size (x ∷ xs)) 0
  rows_passed x xs row zero h = absurd (omega arith)
  rows_passed x xs row (suc k) h = let s : suc k - 1 ≡ k = omega arith in rw s (rows_skip xs row k)

  module _ (row x : ℕ) (xs : List ℕ) where
    abbrev rest : List ℕ
    rest = x ∷ xs

    abbrev parent : Result Entry RouteFault
    parent = node_of es (get_or rest n.width 0) n.holder

    abbrev on_row : RowSeen → Result Took RouteFault
    on_row r = cond (matches n r.shape.child) (Ok (take_row row r)) (rows_from es n (row + 1) xs (r.shape.size - 1))

    abbrev on_front : Result Entry RouteFault → FrontSeen → Result Took RouteFault
    on_front q f = cond (matches n (take n.width rest)) (after q (take_front n row rest f.counts)) (rows_from es n (row + 1) f.left 0)

    by_match : (p : Entry) (c : Counts) (t : Bool)
        → cond t (take_front n row rest c p) (rows_from es n (row + 1) xs (row_size n.width c - 1))
        ≡ cond t (take_front n row rest c p) (rows_from es n (row + 1) (drop (row_size n.width c) rest) 0)
    by_match p c true = refl
    by_match p c false = rows_passed x xs (row + 1) (row_size n.width c) (omega arith)

    by_fit : (p : Entry) (c : Counts) (t : Bool)
        → after (after (cond t (Ok (shape_of n.width rest c)) (Err (Row n.holder))) (with_parent p)) on_row
        ≡ after (cond t (Ok (record { counts = c; left = drop (row_size n.width c) rest })) (Err (Row n.holder))) (on_front (Ok p))
    by_fit p c true = by_match p c (matches n (take n.width rest))
    by_fit p c false = refl

    by_counts : (p : Entry) (k : Result Counts RouteFault)
        → after (after (after k (shape_by n rest)) (with_parent p)) on_row ≡ after (after k (front_by n rest)) (on_front (Ok p))
    by_counts p (Ok c) = by_fit p c (leb (c.address + c.interrupt) (length (drop (n.width + 1) rest)))
    by_counts p (Err f) = refl

    by_parent : (q : Result Entry RouteFault)
        → after (after q (λ p. after (after (counts_of p) (shape_by n rest)) (with_parent p))) on_row
        ≡ after (after (after q counts_of) (front_by n rest)) (on_front q)
    by_parent (Ok p) = by_counts p (counts_of p)
    by_parent (Err f) = refl

    by_width : (wide : Bool)
        → after (cond wide (after parent (λ p. after (after (counts_of p) (shape_by n rest)) (with_parent p))) (Err (Row n.holder))) on_row
        ≡ after (cond wide (after (after parent counts_of) (front_by n rest)) (Err (Row n.holder))) (on_front parent)
    by_width true = by_parent parent
    by_width false = refl

  -- the row at the front is taken, or the row is sought in the cells after it
  pub rows_front : (row : ℕ) (rest : List ℕ)
      → rows_from es n row rest 0
      ≡ after (front es n rest) (λ f. cond (matches n (take n.width rest)) (front_taken es n row rest f.counts) (rows_from es n (row + 1) f.left 0))
  rows_front row [] = let none : ltb n.width 0 ≡ false = le-ltb n.width 0 (omega arith) in rw none
  rows_front row (x ∷ xs) =
      let some : eqb (length (x ∷ xs)) 0 ≡ false = ne_eqb (length (x ∷ xs)) 0 (λ e. omega arith) in
      rw some (by_width row x xs (ltb n.width (length (x ∷ xs))))

  -- where it does not match, it is sought in those
  pub rows_on : (row : ℕ) (rest : List ℕ) (f : FrontSeen) → Ok f ≡ front es n rest → matches n (take n.width rest) ≡ false
      → rows_from es n (row + 1) f.left 0 ≡ rows_from es n row rest 0
  rows_on row rest f read differs = sym (rows_front row rest ∙ rw (← read, differs) refl)
