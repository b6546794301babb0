-- A token is decided by its own bytes and the names of properties.
use Rattle.std.proofs.Common.{◌≡◌, ℕ, zero, suc, ◌+◌, ◌-◌, ◌%◌, ◌<◌, ◌≤◌, Bool, true, false, cond, ◌&&◌, eqb, ltb, leb, List, [], ◌∷◌, length, get_or, take, drop, Ok, Err, Result, sym, refl, ap, ◌∙◌, arith, lit≤, ext_get_or}
use Rattle.std.specs.List.{prefix_len}
use Rattle.std.proofs.lemmas.List.{get_or-take, get_or-drop, length-take, length-take-le, length-drop}
use Rattle.std.proofs.lemmas.Bool.{leb-true, ltb-true, and_parts}
use Rattle.cells.specs.declared.header.Header.{Header}
use Rattle.faults.specs.declared.fault.TokenFault.{TokenFault}
use Rattle.faults.specs.declared.fault.TokenFault.TheVariants.{Past}
use Rattle.cells.specs.Cells.{Piece, within, cell, standing, nonzero, name_size, cell_or, part_or, name_or}
use Rattle.fdt.specs.Tokens.{Word, opens, property, closes, nothing, ends, at, after, align, open_at, property_at, token_by, token_at, ending}
use Rattle.faults.specs.declared.fault.HeaderFault.{HeaderFault}
use Rattle.faults.specs.declared.fault.HeaderFault.TheVariants.{Size, Magic, Version, Blocks}
use Rattle.cells.specs.Headers.{block_within, header_of}
use Rattle.fdt.specs.Items.{item, more, items_in, items}
use Rattle.fdt.specs.Unread.{token_end, reads_to, fault_place, Same, SameToken, SameItems, Decided}
use Rattle.fdt.proofs.Onward.{after_by, cond_ok, ok_same}

-- a chain goes on alike where its first step does
after_same : {X Y F : Type 0} (r s : Result X F) (f g : X → Result Y F) → r ≡ s → ((x : X) → r ≡ Ok x → f x ≡ g x) → after r f ≡ after s g
after_same (Ok x) s f g e k = k x refl ∙ ap (λ z. after z g) e
after_same (Err z) s f g e k = ap (λ z. after z g) e

cond_same : {X : Type 0} (t : Bool) (x y z : X) → (t ≡ true → x ≡ y) → cond t x z ≡ cond t y z
cond_same true x y z k = k refl
cond_same false x y z k = refl

-- the longest front that passes is decided by that front and the element after it
module _ {X : Type 0} (p : X → Bool) (d : X) where
  leading_more : (x y : X) (xs ys : List X) (t : Bool) → p x ≡ t → x ≡ y → (t ≡ true → prefix_len p xs ≡ prefix_len p ys)
      → prefix_len p (x ∷ xs) ≡ prefix_len p (y ∷ ys)
  leading_more x y xs ys true e q ih =
      ap (λ b. cond b (1 + prefix_len p xs) 0) e ∙ ap (λ n. 1 + n) (ih refl) ∙ sym (ap (λ b. cond b (1 + prefix_len p ys) 0) (sym (ap p q) ∙ e))
  leading_more x y xs ys false e q ih =
      ap (λ b. cond b (1 + prefix_len p xs) 0) e ∙ sym (ap (λ b. cond b (1 + prefix_len p ys) 0) (sym (ap p q) ∙ e))

  one_more : (x : X) (xs : List X) (k : ℕ) → p x ≡ true → k ≤ prefix_len p xs → suc k ≤ prefix_len p (x ∷ xs)
  one_more x xs k e h = rw e (omega arith)

  leading_same : (xs ys : List X) → length xs ≡ length ys → ((k : ℕ) → k ≤ prefix_len p xs → k < length xs → get_or xs k d ≡ get_or ys k d) → prefix_len p xs ≡ prefix_len p ys
  leading_same [] [] n f = refl
  leading_same [] (y ∷ ys) n f = absurd (omega arith)
  leading_same (x ∷ xs) [] n f = absurd (omega arith)
  leading_same (x ∷ xs) (y ∷ ys) n f =
      leading_more x y xs ys (p x) refl (f 0 (omega arith) (omega arith))
      (λ e. leading_same xs ys (omega arith) (λ k h l. f (suc k) (one_more x xs k e h) (omega arith)))

module _ (b c : List ℕ) (size : length b ≡ length c) where
  within_same : (a e : ℕ) → within b a e ≡ within c a e
  within_same a e = ap (λ n. leb a e && leb e n) size

  cell_same : (i : ℕ) → Same b c i (i + 4) → cell b i ≡ cell c i
  cell_same i s =
      let p = s i (omega arith) (omega arith) in
      let q = s (i + 1) (omega arith) (omega arith) in
      let r = s (i + 2) (omega arith) (omega arith) in
      let t = s (i + 3) (omega arith) (omega arith) in
      rw (p, q, r, t)

  cell_or_same : (i e : ℕ) (past : TokenFault) → (i + 4 ≤ e → Same b c i (i + 4)) → cell_or b i e past ≡ cell_or c i e past
  cell_or_same i e past s =
      cond_same (within b (i + 4) e) (Ok (cell b i)) (Ok (cell c i)) (Err past)
      (λ t. ap Ok (cell_same i (s (leb-true (i + 4) e (and_parts (leb (i + 4) e) (leb e (length b)) t).0))))
      ∙ ap (λ t. cond t (Ok (cell c i)) (Err past)) (within_same (i + 4) e)

  -- the bytes from a on, n of them
  bytes_same : (a n : ℕ) → Same b c a (a + n) → take n (drop a b) ≡ take n (drop a c)
  bytes_same a n s =
      ext_get_or 0 (take n (drop a b)) (take n (drop a c))
      (length-take n (drop a b) ∙ ap (λ m. Prim.Native.Nat.min n m) (length-drop a b ∙ ap (λ m. m - a) size ∙ sym (length-drop a c)) ∙ sym (length-take n (drop a c)))
      (λ k lt.
      let l = length-take n (drop a b) in
      let m : k < n = omega (arith, l) in
      get_or-take n (drop a b) k 0 m ∙ get_or-drop a b k 0 ∙ s (a + k) (omega arith) (omega arith) ∙ sym (get_or-take n (drop a c) k 0 m ∙ get_or-drop a c k 0))

  part_or_same : (a n e : ℕ) (past : TokenFault) → (a + n ≤ e → Same b c a (a + n)) → part_or b a n e past ≡ part_or c a n e past
  part_or_same a n e past s =
      cond_same (within b (a + n) e) (Ok (standing b a n)) (Ok (standing c a n)) (Err past)
      (λ t. ap (λ z. Ok (record { place = a; bytes = z })) (bytes_same a n (s (leb-true (a + n) e (and_parts (leb (a + n) e) (leb e (length b)) t).0))))
      ∙ ap (λ t. cond t (Ok (standing c a n)) (Err past)) (within_same (a + n) e)

  -- a name is decided by its bytes and the zero byte after it, and where there is none by the block
  name_size_same : (a e : ℕ) → ((k : ℕ) → a ≤ k → k ≤ a + name_size b a e → k < e → get_or b k 0 ≡ get_or c k 0) → name_size b a e ≡ name_size c a e
  name_size_same a e s =
      leading_same nonzero 0 (take (e - a) (drop a b)) (take (e - a) (drop a c))
      (length-take (e - a) (drop a b) ∙ ap (λ m. Prim.Native.Nat.min (e - a) m) (length-drop a b ∙ ap (λ m. m - a) size ∙ sym (length-drop a c)) ∙ sym (length-take (e - a) (drop a c)))
      (λ k h lt.
      let l = length-take (e - a) (drop a b) in
      let m : k < e - a = omega (arith, l) in
      get_or-take (e - a) (drop a b) k 0 m ∙ get_or-drop a b k 0 ∙ s (a + k) (omega arith) (omega arith) (omega arith) ∙ sym (get_or-take (e - a) (drop a c) k 0 m ∙ get_or-drop a c k 0))

  name_or_same : (a e : ℕ) (past : TokenFault) → ((k : ℕ) → a ≤ k → k ≤ a + name_size b a e → k < e → get_or b k 0 ≡ get_or c k 0) → name_or b a e past ≡ name_or c a e past
  name_or_same a e past s =
      let n = name_size b a e in
      let same = name_size_same a e s in
      cond_same (leb e (length b) && ltb n (e - a)) (Ok (standing b a n)) (Ok (standing c a n)) (Err past)
      (λ t. let lt = ltb-true n (e - a) (and_parts (leb e (length b)) (ltb n (e - a)) t).1 in
      ap (λ z. Ok (record { place = a; bytes = z })) (bytes_same a n (λ k p q. s k p (omega arith) (omega arith))))
      ∙ ap (λ m. cond (leb e (length b) && ltb m (e - a)) (Ok (standing c a m)) (Err past)) same
      ∙ ap (λ m. cond (leb e m && ltb (name_size c a e) (e - a)) (Ok (standing c a (name_size c a e))) (Err past)) size

  -- the tokens that have a name or a value
  module _ (h : Header) (i top : ℕ) (s : Same b c i top) where
    open_same : ((k : ℕ) → i + 4 ≤ k → k ≤ i + 4 + name_size b (i + 4) (ending h) → k < ending h → k < top) → open_at b h i ≡ open_at c h i
    open_same low =
        ap (λ r. after r (λ name. Ok (opens name, align (i + 4 + length name.bytes + 1))))
        (name_or_same (i + 4) (ending h) (Past (at i)) (λ k p q r. s k (omega arith) (low k p q r)))

    property_same : Same b c h.strings (h.strings + h.strings_size) → (i + 12 ≤ ending h → i + 12 ≤ top)
        → ((size : ℕ) → cell_or b (i + 4) (ending h) (Past (at i)) ≡ Ok size → i + 12 + size ≤ ending h → i + 12 + size ≤ top)
        → (i + 8 ≤ ending h → i + 8 ≤ top)
        → property_at b h i ≡ property_at c h i
    property_same names low fits first =
        after_same (cell_or b (i + 4) (ending h) (Past (at i))) (cell_or c (i + 4) (ending h) (Past (at i))) _ _
        (cell_or_same (i + 4) (ending h) (Past (at i)) (λ e k p q. let f = first (omega arith) in s k (omega arith) (omega arith))) (λ size es.
        after_same (cell_or b (i + 8) (ending h) (Past (at i))) (cell_or c (i + 8) (ending h) (Past (at i))) _ _
        (cell_or_same (i + 8) (ending h) (Past (at i)) (λ e k p q. let f = low (omega arith) in s k (omega arith) (omega arith))) (λ offset eo.
        after_same (part_or b (i + 12) size (ending h) (Past (at i))) (part_or c (i + 12) size (ending h) (Past (at i))) _ _
        (part_or_same (i + 12) size (ending h) (Past (at i)) (λ e k p q. let f = fits size es e in s k (omega arith) (omega arith))) (λ value ev.
        ap (λ r. after r (λ name. Ok (property name value, align (i + 12 + size))))
        (name_or_same (h.strings + offset) (h.strings + h.strings_size) (Past (at i)) (λ k p q r. names k (omega arith) r)))))

token_low : (i : ℕ) (w : Word) → i + 4 ≤ token_end i w
token_low i (opens n) = omega arith
token_low i (property n v) = omega arith
token_low i closes = omega arith
token_low i nothing = omega arith
token_low i ends = omega arith

-- what was read of a name or a value has its size
name_length : (b : List ℕ) (a e : ℕ) (past : TokenFault) (p : Piece) → name_or b a e past ≡ Ok p → length p.bytes ≡ name_size b a e
name_length b a e past p q =
    let n = name_size b a e in
    let t = cond_ok (leb e (length b) && ltb n (e - a)) (Ok (standing b a n)) past p q in
    let s = and_parts (leb e (length b)) (ltb n (e - a)) t.0 in
    let x = leb-true e (length b) s.0 in
    let y = ltb-true n (e - a) s.1 in
    sym (ap (λ z. length z.bytes) (ok_same t.1)) ∙ length-take-le n (drop a b) (simp length-drop (omega arith))

part_length : (b : List ℕ) (a n e : ℕ) (past : TokenFault) (p : Piece) → part_or b a n e past ≡ Ok p → length p.bytes ≡ n
part_length b a n e past p q =
    let t = cond_ok (within b (a + n) e) (Ok (standing b a n)) past p q in
    let s = and_parts (leb (a + n) e) (leb e (length b)) t.0 in
    let x = leb-true (a + n) e s.0 in
    let y = leb-true e (length b) s.1 in
    sym (ap (λ z. length z.bytes) (ok_same t.1)) ∙ length-take-le n (drop a b) (simp length-drop (omega arith))

word_end : (i : ℕ) (v w : Word) (m next : ℕ) → ◌≡◌ {A = Result (Word × ℕ) TokenFault} (Ok (v, m)) (Ok (w, next)) → token_end i v ≡ token_end i w
word_end i v w m next e = ap (λ z. token_end i z.0) (ok_same e)

module _ (b : List ℕ) (h : Header) (i : ℕ) where
  -- how far an open token is read
  open_top : (r : Result (Word × ℕ) TokenFault) → open_at b h i ≡ r → (k : ℕ) → i + 4 ≤ k → k ≤ i + 4 + name_size b (i + 4) (ending h) → k < ending h → k < reads_to h i r
  open_top (Err f) e k p q l = l
  open_top (Ok x) e k p q l =
      after_by (name_or b (i + 4) (ending h) (Past (at i))) _ x (λ name en f.
      let n = name_length b (i + 4) (ending h) (Past (at i)) name en in
      let t = word_end i (opens name) x.0 (align (i + 4 + length name.bytes + 1)) x.1 f in
      omega arith) e

  -- and a property token
  property_top : (r : Result (Word × ℕ) TokenFault) → property_at b h i ≡ r → (size : ℕ) → cell_or b (i + 4) (ending h) (Past (at i)) ≡ Ok size
      → i + 12 + size ≤ ending h → i + 12 + size ≤ reads_to h i r
  property_top (Err f) e size es l = l
  property_top (Ok x) e size es l =
      after_by (cell_or b (i + 4) (ending h) (Past (at i))) _ x (λ n en.
      after_by (cell_or b (i + 8) (ending h) (Past (at i))) _ x (λ offset eo.
      after_by (part_or b (i + 12) n (ending h) (Past (at i))) _ x (λ value ev.
      after_by (name_or b (h.strings + offset) (h.strings + h.strings_size) (Past (at i))) _ x (λ name em f.
      let m = part_length b (i + 12) n (ending h) (Past (at i)) value ev in
      let t = word_end i (property name value) x.0 (align (i + 12 + n)) x.1 f in
      let s : n ≡ size = ok_same (sym en ∙ es) in
      omega arith)))) e

  property_cells : (m : ℕ) → m ≤ 12 → (r : Result (Word × ℕ) TokenFault) → property_at b h i ≡ r → i + m ≤ ending h → i + m ≤ reads_to h i r
  property_cells m low (Err f) e l = l
  property_cells m low (Ok x) e l =
      after_by (cell_or b (i + 4) (ending h) (Past (at i))) _ x (λ n en.
      after_by (cell_or b (i + 8) (ending h) (Past (at i))) _ x (λ offset eo.
      after_by (part_or b (i + 12) n (ending h) (Past (at i))) _ x (λ value ev.
      after_by (name_or b (h.strings + offset) (h.strings + h.strings_size) (Past (at i))) _ x (λ name em f.
      let t = word_end i (property name value) x.0 (align (i + 12 + n)) x.1 f in
      omega arith)))) e

  module _ (c : List ℕ) (r : Result (Word × ℕ) TokenFault) (s : SameToken b c h i r) where
    cell_top : (r : Result (Word × ℕ) TokenFault) → i + 4 ≤ ending h → i + 4 ≤ reads_to h i r
    cell_top (Err f) l = l
    cell_top (Ok x) l = token_low i x.0

    abbrev by : (t1 t2 t3 t4 t9 : Bool) → List ℕ → Result (Word × ℕ) TokenFault
    by t1 t2 t3 t4 t9 x =
        cond t1 (open_at x h i) (cond t2 (Ok (closes, i + 4)) (cond t3 (property_at x h i) (cond t4 (Ok (nothing, i + 4)) (cond t9 (Ok (ends, i + 4)) (Err (Past (at i)))))))

    any_same : (t1 t2 t3 t4 t9 : Bool) → by t1 t2 t3 t4 t9 b ≡ r → by t1 t2 t3 t4 t9 b ≡ by t1 t2 t3 t4 t9 c
    any_same true t2 t3 t4 t9 e = open_same b c s.size h i (reads_to h i r) s.token (open_top r e)
    any_same false true t3 t4 t9 e = refl
    any_same false false true t4 t9 e =
        property_same b c s.size h i (reads_to h i r) s.token s.names (property_cells 12 (lit≤ tt) r e) (property_top r e) (property_cells 8 (lit≤ tt) r e)
    any_same false false false true t9 e = refl
    any_same false false false false true e = refl
    any_same false false false false false e = refl

    by_same : (tag : ℕ) → token_by b h i tag ≡ r → token_by b h i tag ≡ token_by c h i tag
    by_same tag = any_same (eqb tag 1) (eqb tag 2) (eqb tag 3) (eqb tag 4) (eqb tag 9)

    step : (t : Bool) → cond t (after (cell_or b i (ending h) (Past (at i))) (token_by b h i)) (Err (Past (at i))) ≡ r
        → cond t (after (cell_or b i (ending h) (Past (at i))) (token_by b h i)) (Err (Past (at i)))
        ≡ cond t (after (cell_or c i (ending h) (Past (at i))) (token_by c h i)) (Err (Past (at i)))
    step false e = refl
    step true e =
        after_same (cell_or b i (ending h) (Past (at i))) (cell_or c i (ending h) (Past (at i))) (token_by b h i) (token_by c h i)
        (cell_or_same b c s.size i (ending h) (Past (at i)) (λ l k p q. let t = cell_top r l in s.token k p (omega arith)))
        (λ tag et. by_same tag (sym (ap (λ z. after z (token_by b h i)) et) ∙ e))

  pub decided : (r : Result (Word × ℕ) TokenFault) → r ≡ token_at b h i → Decided b h i r
  decided r e c s = e ∙ step c r s (leb h.structure i && eqb (i % 4) 0) (sym e)

-- a token that cannot be read is refused with its place
after_err : {X Y F : Type 0} (r : Result X F) (f : X → Result Y F) (z w : F) → ((x : F) → r ≡ Err x → x ≡ w) → ((x : X) → f x ≡ Err z → z ≡ w) → after r f ≡ Err z → z ≡ w
after_err (Ok x) f z w p q e = q x e
after_err (Err x) f z w p q e = let same : x ≡ z = cc in sym same ∙ p x refl

no_ok : {P X F : Type 0} {x : X} {f : F} → ◌≡◌ {A = Result X F} (Ok x) (Err f) → P
no_ok e = absurd (let z : ◌≡◌ {A = ℕ} 0 1 = cc in omega arith)

cond_err : {X F : Type 0} (t : Bool) (x : X) (w z : F) → cond t (Ok x) (Err w) ≡ Err z → z ≡ w
cond_err true x w z e = no_ok e
cond_err false x w z e = cc

module _ (b : List ℕ) (h : Header) (i : ℕ) where
  open_fault : (f : TokenFault) → open_at b h i ≡ Err f → f ≡ Past (at i)
  open_fault f =
      after_err (name_or b (i + 4) (ending h) (Past (at i))) _ f (Past (at i)) (λ x. cond_err (leb (ending h) (length b) && ltb (name_size b (i + 4) (ending h)) (ending h - (i + 4))) (standing b (i + 4) (name_size b (i + 4) (ending h))) (Past (at i)) x) (λ x. no_ok)

  property_fault : (f : TokenFault) → property_at b h i ≡ Err f → f ≡ Past (at i)
  property_fault f =
      after_err (cell_or b (i + 4) (ending h) (Past (at i))) _ f (Past (at i)) (λ x. cond_err (within b (i + 4 + 4) (ending h)) (cell b (i + 4)) (Past (at i)) x) (λ size.
      after_err (cell_or b (i + 8) (ending h) (Past (at i))) _ f (Past (at i)) (λ x. cond_err (within b (i + 8 + 4) (ending h)) (cell b (i + 8)) (Past (at i)) x) (λ offset.
      after_err (part_or b (i + 12) size (ending h) (Past (at i))) _ f (Past (at i)) (λ x. cond_err (within b (i + 12 + size) (ending h)) (standing b (i + 12) size) (Past (at i)) x) (λ value.
      after_err (name_or b (h.strings + offset) (h.strings + h.strings_size) (Past (at i))) _ f (Past (at i))
      (λ x. cond_err (leb (h.strings + h.strings_size) (length b) && ltb (name_size b (h.strings + offset) (h.strings + h.strings_size)) (h.strings + h.strings_size - (h.strings + offset))) (standing b (h.strings + offset) (name_size b (h.strings + offset) (h.strings + h.strings_size))) (Past (at i)) x)
      (λ name. no_ok))))

  by_fault : (f : TokenFault) (t1 t2 t3 t4 t9 : Bool) → cond t1 (open_at b h i) (cond t2 (Ok (closes, i + 4)) (cond t3 (property_at b h i) (cond t4 (Ok (nothing, i + 4)) (cond t9 (Ok (ends, i + 4)) (Err (Past (at i))))))) ≡ Err f → f ≡ Past (at i)
  by_fault f true t2 t3 t4 t9 e = open_fault f e
  by_fault f false true t3 t4 t9 e = no_ok e
  by_fault f false false true t4 t9 e = property_fault f e
  by_fault f false false false true t9 e = no_ok e
  by_fault f false false false false true e = no_ok e
  by_fault f false false false false false e = cc

  test_fault : (f : TokenFault) (t : Bool) → cond t (after (cell_or b i (ending h) (Past (at i))) (token_by b h i)) (Err (Past (at i))) ≡ Err f → f ≡ Past (at i)
  test_fault f true e =
      after_err (cell_or b i (ending h) (Past (at i))) (token_by b h i) f (Past (at i)) (λ x. cond_err (within b (i + 4) (ending h)) (cell b i) (Past (at i)) x)
      (λ tag. by_fault f (eqb tag 1) (eqb tag 2) (eqb tag 3) (eqb tag 4) (eqb tag 9)) e
  test_fault f false e = cc

  token_fault : (f : TokenFault) → token_at b h i ≡ Err f → f ≡ Past (at i)
  token_fault f e = test_fault f (leb h.structure i && eqb (i % 4) 0) e

-- the tokens of a block are decided by their own bytes and the names of properties
module _ (b c : List ℕ) (h : Header) (size : length b ≡ length c) (names : Same b c h.strings (h.strings + h.strings_size)) where
  same_at : (i : ℕ) (r : Result (Word × ℕ) TokenFault) → token_at b h i ≡ r → Same b c i (reads_to h i r) → token_at c h i ≡ r
  same_at i r e s = sym (decided b h i r (sym e) c (record { size = size; token = s; names = names }))

  more_alike : (n i : ℕ) (r : Result (Word × ℕ) TokenFault) → token_at b h i ≡ r → SameItems b c h (more (items_in n b h) i r)
      → ((next : ℕ) → SameItems b c h (items_in n b h next) → items_in n b h next ≡ items_in n c h next)
      → more (items_in n b h) i r ≡ more (items_in n c h) i (token_at c h i)
  more_alike n i (Err f) e s ih =
      let p : fault_place f ≡ i = ap fault_place (token_fault b h i f e) in
      ap (more (items_in n c h) i) (sym (same_at i (Err f) e (λ k x y. s.0 k (omega arith) y)))
  more_alike n i (Ok (opens m, next)) e s ih =
      ap (λ z. item i (opens m) next ∷ z) (ih next s.1) ∙ ap (more (items_in n c h) i) (sym (same_at i (Ok (opens m, next)) e s.0))
  more_alike n i (Ok (property m v, next)) e s ih =
      ap (λ z. item i (property m v) next ∷ z) (ih next s.1) ∙ ap (more (items_in n c h) i) (sym (same_at i (Ok (property m v, next)) e s.0))
  more_alike n i (Ok (closes, next)) e s ih =
      ap (λ z. item i closes next ∷ z) (ih next s.1) ∙ ap (more (items_in n c h) i) (sym (same_at i (Ok (closes, next)) e s.0))
  more_alike n i (Ok (nothing, next)) e s ih =
      ap (λ z. item i nothing next ∷ z) (ih next s.1) ∙ ap (more (items_in n c h) i) (sym (same_at i (Ok (nothing, next)) e s.0))
  more_alike n i (Ok (ends, next)) e s ih = ap (more (items_in n c h) i) (sym (same_at i (Ok (ends, next)) e s.0))

  items_alike : (n i : ℕ) → SameItems b c h (items_in n b h i) → items_in n b h i ≡ items_in n c h i
  items_alike zero i s = refl
  items_alike (suc n) i s = more_alike n i (token_at b h i) refl s (items_alike n)

  pub items_decided : (i : ℕ) → SameItems b c h (items b h i) → items b h i ≡ items c h i
  unfolding items
  items_decided i s = items_alike (suc (ending h - i)) i s

-- the header is decided by its 40 bytes and by how many bytes there are
headed : ℕ → ℕ → ℕ → ℕ → ℕ → ℕ → ℕ → ℕ → ℕ → Result Header HeaderFault
headed n c0 c4 c8 c12 c20 c24 c32 c36 =
    cond (leb 40 n && (leb 40 c4 && (leb c4 65536 && leb c4 n)))
    (cond (eqb c0 0xd00dfeed)
    (cond (leb 17 c20 && leb c24 17)
    (cond (block_within c8 c36 c4 && (block_within c12 c32 c4 && (eqb (c8 % 4) 0 && eqb (c36 % 4) 0)))
    (Ok (record { total = c4; structure = c8; structure_size = c36; strings = c12; strings_size = c32 })) (Err Blocks)) (Err Version)) (Err Magic))
    (Err Size)

headed_is : (b : List ℕ) → header_of b ≡ headed (length b) (cell b 0) (cell b 4) (cell b 8) (cell b 12) (cell b 20) (cell b 24) (cell b 32) (cell b 36)
unfolding headed
headed_is b = refl

headed_same : {n m d0 e0 d4 e4 d8 e8 d12 e12 d20 e20 d24 e24 d32 e32 d36 e36 : ℕ} → n ≡ m → d0 ≡ e0 → d4 ≡ e4 → d8 ≡ e8 → d12 ≡ e12 → d20 ≡ e20 → d24 ≡ e24 → d32 ≡ e32 → d36 ≡ e36
    → headed n d0 d4 d8 d12 d20 d24 d32 d36 ≡ headed m e0 e4 e8 e12 e20 e24 e32 e36
headed_same p p0 p4 p8 p12 p20 p24 p32 p36 = cc

pub header_decided : (b c : List ℕ) → length b ≡ length c → Same b c 0 40 → header_of b ≡ header_of c
header_decided b c size s =
    headed_is b
    ∙ headed_same size (at_cell 0 (lit≤ tt)) (at_cell 4 (lit≤ tt)) (at_cell 8 (lit≤ tt)) (at_cell 12 (lit≤ tt)) (at_cell 20 (lit≤ tt)) (at_cell 24 (lit≤ tt)) (at_cell 32 (lit≤ tt)) (at_cell 36 (lit≤ tt))
    ∙ sym (headed_is c)
  where
    at_cell : (i : ℕ) → i + 4 ≤ 40 → cell b i ≡ cell c i
    at_cell i l = cell_same b c size i (λ k p q. s k (omega arith) (omega arith))
