-- The row that the search finds is the row that is taken.
use Rattle.std.proofs.Common.{◌≡◌, ℕ, zero, suc, ◌+◌, ◌<◌, ◌≤◌, Bool, true, false, ltb, leb, ◌⊎◌, List, [], ◌∷◌, ◌++◌, length, get_or, take, drop, Ok, Err, Result, sym, refl, ap, ◌∙◌, subst, inl, inr, arith, length-append}
use Rattle.std.proofs.lemmas.List.{take_at, drop_at, get_or_at, drop-drop, drop_more, take-append-drop, length-take, length-drop}
use Rattle.std.proofs.lemmas.Bool.{lt-ltb, le-leb, both_ways, false_from_ne_true}
use Rattle.std.proofs.lemmas.Slice.Eq.{bytes_eq-Decides}
use Rattle.faults.specs.declared.fault.RouteFault.{RouteFault}
use Rattle.faults.specs.declared.fault.RouteFault.TheVariants.{NoRow}
use Rattle.nexus.specs.Nexuses.{Ready, masked, matches}
use Rattle.nexus.specs.Rows.{RowSeen, shape_of, row_at, rows_from, take_row}
use Rattle.nexus.proofs.Tries.{Parts, parts, rows_passed}
use Rattle.tree.specs.Nodes.{Entry, Listed}
use Rattle.routing.specs.Leads.{IsRow, row_cells, Takes, this, later, Fails, over, unreadable, passed}

pub no_result : {A B : Type 0} {f : RouteFault} {b : B} → ◌≡◌ {A = Result B RouteFault} (Err f) (Ok b) → A
no_result p = cc

-- the test of a row's child cells
matching : (n : Ready) (child : List ℕ) → child ≡ masked n → matches n child ≡ true
matching n child = (bytes_eq-Decides child (masked n)).1

not_matching : (n : Ready) (child : List ℕ) → (child ≡ masked n → ⊥) → matches n child ≡ false
not_matching n child h = false_from_ne_true (matches n child) (λ e. h ((bytes_eq-Decides child (masked n)).0 e))

differs : (n : Ready) (child : List ℕ) → matches n child ≡ false → child ≡ masked n → ⊥
differs n child e s = both_ways (matches n child) e (matching n child s)

module _ (es : List Listed) (n : Ready) where
  -- a row is read as what it is
  module _ (child : List ℕ) (phandle : ℕ) (parent : Entry) (unit specifier rest : List ℕ) (w : IsRow es n child phandle parent unit specifier) where
    abbrev whole : List ℕ
    whole = row_cells child phandle unit specifier rest

    abbrev the_row : RowSeen
    the_row = record { shape = record { child = child; unit = unit; specifier = specifier; size = n.width + 1 + w.counts.address + w.counts.interrupt }; parent = parent }

    after_child : drop (n.width + 1) whole ≡ unit ++ (specifier ++ rest)
    after_child = sym (drop-drop 1 n.width whole) ∙ ap (drop 1) (drop_at child (phandle ∷ (unit ++ (specifier ++ rest))) n.width w.wide)

    child_is : take n.width whole ≡ child
    child_is = take_at child (phandle ∷ (unit ++ (specifier ++ rest))) n.width w.wide

    unit_is : take w.counts.address (drop (n.width + 1) whole) ≡ unit
    unit_is = rw after_child (take_at unit (specifier ++ rest) w.counts.address w.addressed)

    after_unit : drop w.counts.address (drop (n.width + 1) whole) ≡ specifier ++ rest
    after_unit = ap (drop w.counts.address) after_child ∙ drop_at unit (specifier ++ rest) w.counts.address w.addressed

    specifier_is : take w.counts.interrupt (drop w.counts.address (drop (n.width + 1) whole)) ≡ specifier
    specifier_is = rw after_unit (take_at specifier rest w.counts.interrupt w.specified)

    rest_is : drop (n.width + 1 + w.counts.address + w.counts.interrupt) whole ≡ rest
    rest_is =
        sym (drop-drop w.counts.interrupt (n.width + 1 + w.counts.address) whole)
        ∙ ap (drop w.counts.interrupt) (sym (drop-drop w.counts.address (n.width + 1) whole) ∙ after_unit)
        ∙ drop_at specifier rest w.counts.interrupt w.specified

    whole_long : length whole ≡ n.width + 1 + (w.counts.address + (w.counts.interrupt + length rest))
    whole_long = simp length-append (omega (arith, w.wide, w.addressed, w.specified))

    row_is : shape_of n.width whole w.counts ≡ the_row.shape
    row_is =
        let a = child_is in
        let b = unit_is in
        let c = specifier_is in
        cc

    row_read : row_at es n whole ≡ Ok the_row
    row_read =
        let l = whole_long in
        let d = length-drop (n.width + 1) whole in
        let a : ltb n.width (length whole) ≡ true = lt-ltb n.width (length whole) (omega arith) in
        let b : leb (w.counts.address + w.counts.interrupt) (length (drop (n.width + 1) whole)) ≡ true = le-leb (w.counts.address + w.counts.interrupt) (length (drop (n.width + 1) whole)) (omega arith) in
        let g : get_or whole n.width 0 ≡ phandle = get_or_at child phandle (unit ++ (specifier ++ rest)) 0 n.width w.wide in
        rw (a, g, w.there, w.counted, b) (ap (λ s. Ok (record { shape = s; parent = parent })) row_is)

    some_cells : 0 < length whole
    some_cells = let l = whole_long in omega arith

  rows_hit : (xs : List ℕ) (row : ℕ) (r : RowSeen) → row_at es n xs ≡ Ok r → 0 < length xs → matches n r.shape.child ≡ true
      → rows_from es n row xs 0 ≡ Ok (take_row row r)
  rows_hit [] row r is h m = absurd (omega arith)
  rows_hit (x ∷ xs) row r is h m = rw (is, m)

  rows_more : (xs : List ℕ) (row : ℕ) (r : RowSeen) → row_at es n xs ≡ Ok r → 0 < length xs → matches n r.shape.child ≡ false → 0 < r.shape.size
      → rows_from es n row xs 0 ≡ rows_from es n (row + 1) (drop r.shape.size xs) 0
  rows_more [] row r is h m some = absurd (omega arith)
  rows_more (x ∷ xs) row r is h m some = rw (is, m) (rows_passed es n x xs (row + 1) r.shape.size some)

  rows_refused : (xs : List ℕ) (row : ℕ) (f : RouteFault) → row_at es n xs ≡ Err f → 0 < length xs → rows_from es n row xs 0 ≡ Err f
  rows_refused [] row f is h = absurd (omega arith)
  rows_refused (x ∷ xs) row f is h = rw is

  module _ (child : List ℕ) (phandle : ℕ) (parent : Entry) (unit specifier rest : List ℕ) (w : IsRow es n child phandle parent unit specifier) (row : ℕ) where
    found_this : child ≡ masked n
        → rows_from es n row (row_cells child phandle unit specifier rest) 0 ≡ Ok (record { row = row; parent = parent; unit = unit; specifier = specifier })
    found_this m =
        rows_hit (row_cells child phandle unit specifier rest) row (the_row child phandle parent unit specifier rest w)
        (row_read child phandle parent unit specifier rest w) (some_cells child phandle parent unit specifier rest w) (matching n child m)

    found_later : (child ≡ masked n → ⊥)
        → rows_from es n row (row_cells child phandle unit specifier rest) 0 ≡ rows_from es n (row + 1) rest 0
    found_later m =
        rows_more (row_cells child phandle unit specifier rest) row (the_row child phandle parent unit specifier rest w)
        (row_read child phandle parent unit specifier rest w) (some_cells child phandle parent unit specifier rest w) (not_matching n child m) (omega arith)
        ∙ ap (λ l. rows_from es n (row + 1) l 0) (rest_is child phandle parent unit specifier rest w)

  -- the row that is taken is the row that is found
  pub found_row : (xs : List ℕ) (row : ℕ) (to : Entry) (unit out : List ℕ) → Takes es n xs row to unit out → (first : ℕ)
      → rows_from es n first xs 0 ≡ Ok (record { row = row + first; parent = to; unit = unit; specifier = out })
  found_row xs row to unit out (this child phandle parent u s rest w m) first =
      let a : 0 + first ≡ first = omega arith in
      rw a (found_this child phandle parent u s rest w first m)
  found_row xs row0 to unit out (later child phandle parent u s rest row to2 unit2 out2 w m t) first =
      let a : row + (first + 1) ≡ suc row + first = omega arith in
      found_later child phandle parent u s rest w first m ∙ (rw a at (found_row rest row to2 unit2 out2 t (first + 1)))

  -- where no row is taken, none is found
  pub not_found : (xs : List ℕ) (f : RouteFault) → Fails es n xs f → (first : ℕ) → rows_from es n first xs 0 ≡ Err f
  not_found xs f over first = refl
  not_found xs f (unreadable x ys f2 er) first = rows_refused (x ∷ ys) first f er (omega arith)
  not_found xs f (passed child phandle parent u s rest f2 w m t) first = found_later child phandle parent u s rest w first m ∙ not_found rest f t (first + 1)

  -- a row is taken, or none
  pub record SomeRow (xs : List ℕ) : Type 0 where
    pub row : ℕ
    pub to : Entry
    pub unit : List ℕ
    pub out : List ℕ
    pub takes : Takes es n xs row to unit out

  pub record NoneTaken (xs : List ℕ) : Type 0 where
    pub why : RouteFault
    pub fails : Fails es n xs why

  -- the parts of a row that was read make the list again
  module _ (xs : List ℕ) (r : RowSeen) (w : Parts es n xs r) where
    abbrev left : List ℕ
    left = drop w.counts.interrupt (drop w.counts.address (drop (n.width + 1) xs))

    abbrev unit_part : List ℕ
    unit_part = take w.counts.address (drop (n.width + 1) xs)

    abbrev specifier_part : List ℕ
    specifier_part = take w.counts.interrupt (drop w.counts.address (drop (n.width + 1) xs))

    again : row_cells (take n.width xs) (get_or xs n.width 0) unit_part specifier_part left ≡ xs
    again =
        let a = w.wide in
        let b = take-append-drop w.counts.interrupt (drop w.counts.address (drop (n.width + 1) xs)) in
        let c = take-append-drop w.counts.address (drop (n.width + 1) xs) in
        let d = drop_more xs n.width 0 a in
        let e = take-append-drop n.width xs in
        rw (b, c, ← d, e)

    is_row : IsRow es n (take n.width xs) (get_or xs n.width 0) w.parent unit_part specifier_part
    is_row =
        let a = w.wide in
        let b = w.fits in
        record {
          counts = w.counts;
          wide = simp length-take (omega arith);
          there = w.there;
          counted = w.counted;
          addressed = simp length-take (omega arith);
          specified = simp (length-take, length-drop) (omega (arith, simp length-drop at b));
        }

    shorter : length left < length xs
    shorter = let a = w.wide in simp length-drop (omega arith)

    abbrev Either : List ℕ → Type 0
    Either ys = SomeRow ys ⊎ NoneTaken ys

    on_this : matches n (take n.width xs) ≡ true → Either xs
    on_this m = subst (λ (ys : List ℕ). SomeRow ys ⊎ NoneTaken ys) again
        (inl (record { row = 0; to = w.parent; unit = unit_part; out = specifier_part; takes = this _ _ _ _ _ left is_row ((bytes_eq-Decides (take n.width xs) (masked n)).0 m) }))

    later_row : matches n (take n.width xs) ≡ false → Either left → Either (row_cells (take n.width xs) (get_or xs n.width 0) unit_part specifier_part left)
    later_row m (inl t) = inl (record {
      row = suc t.row;
      to = t.to;
      unit = t.unit;
      out = t.out;
      takes = later _ _ _ _ _ left t.row t.to t.unit t.out is_row (differs n (take n.width xs) m) t.takes;
    })
    later_row m (inr t) = inr (record { why = t.why; fails = passed _ _ _ _ _ left t.why is_row (differs n (take n.width xs) m) t.fails })

    on_later : matches n (take n.width xs) ≡ false → Either left → Either xs
    on_later m t = subst (λ (ys : List ℕ). SomeRow ys ⊎ NoneTaken ys) again (later_row m t)

  on_read : (m : ℕ) → ((ys : List ℕ) → length ys ≤ m → SomeRow ys ⊎ NoneTaken ys) → (x : ℕ) (xs : List ℕ) → length (x ∷ xs) ≤ suc m
      → (q : Result RowSeen RouteFault) → row_at es n (x ∷ xs) ≡ q → (t : Bool) → matches n (take n.width (x ∷ xs)) ≡ t → SomeRow (x ∷ xs) ⊎ NoneTaken (x ∷ xs)
  on_read m ih x xs l (Err f) er t et = inr (record { why = f; fails = unreadable x xs f er })
  on_read m ih x xs l (Ok r) er true et = on_this (x ∷ xs) r (parts es n (x ∷ xs) r er) et
  on_read m ih x xs l (Ok r) er false et =
      let w = parts es n (x ∷ xs) r er in
      let s = shorter (x ∷ xs) r w in
      on_later (x ∷ xs) r w et (ih (left (x ∷ xs) r w) (omega arith))

  pub either : (m : ℕ) (xs : List ℕ) → length xs ≤ m → SomeRow xs ⊎ NoneTaken xs
  either zero [] l = inr (record { why = NoRow n.holder; fails = over })
  either zero (x ∷ xs) l = absurd (omega arith)
  either (suc m) [] l = inr (record { why = NoRow n.holder; fails = over })
  either (suc m) (x ∷ xs) l = on_read m (either m) x xs l (row_at es n (x ∷ xs)) refl (matches n (take n.width (x ∷ xs))) refl
