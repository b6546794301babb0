-- Names and values stand in the blob where their places say.
use Rattle.std.proofs.Common.{◌≡◌, ℕ, ◌+◌, ◌-◌, ◌%◌, ◌<◌, ◌≤◌, Bool, true, false, cond, ◌&&◌, eqb, ltb, leb, List, length, get_or, take, drop, Ok, Err, Result, sym, ap, ◌∙◌, subst, arith}
use Rattle.std.proofs.lemmas.List.{get_or-take, get_or-drop, length-take-le, length-drop}
use Rattle.std.proofs.lemmas.List.Sums.{prefix_len_passes, prefix_len_stops}
use Rattle.std.proofs.lemmas.Bool.{leb-true, ltb-true, and_parts}
use Rattle.std.proofs.lemmas.Bool.Decides.{nat_tests}
use Rattle.cells.specs.declared.header.Header.{Header}
use Rattle.faults.specs.declared.fault.TokenFault.{TokenFault}
use Rattle.faults.specs.declared.fault.TokenFault.TheVariants.{Past}
use Rattle.cells.specs.Cells.{Piece, within, standing, nonzero, name_size, cell_or, part_or, name_or}
use Rattle.fdt.specs.Tokens.{Word, opens, property, closes, nothing, ends, at, after, align, open_at, property_at, token_by, token_at, ending}
use Rattle.fdt.specs.Stands.{Stands, Named, WordStands, TokenStands}
use Rattle.fdt.proofs.Onward.{after_by, cond_ok, ok_same}

module _ (b : List ℕ) (a n : ℕ) (h : a + n ≤ length b) where
  piece_size : length (take n (drop a b)) ≡ n
  piece_size = length-take-le n (drop a b) (simp length-drop (omega arith))

  piece_at : (k : ℕ) → k < n → get_or (take n (drop a b)) k 0 ≡ get_or b (a + k) 0
  piece_at k lt = get_or-take n (drop a b) k 0 lt ∙ get_or-drop a b k 0

  pub piece_stands : Stands b (standing b a n)
  piece_stands =
      let s = piece_size in
      record { inside = omega arith; same = λ k lt. piece_at k (omega arith) }

module _ (b : List ℕ) (a e : ℕ) (inside : e ≤ length b) (short : name_size b a e < e - a) where
  block_size : length (take (e - a) (drop a b)) ≡ e - a
  block_size = piece_size b a (e - a) (omega arith)

  pub name_stands : Named b (standing b a (name_size b a e))
  name_stands =
      let n = name_size b a e in
      let block = take (e - a) (drop a b) in
      let s = piece_size b a n (omega arith) in
      let bs = block_size in
      record {
        stands = piece_stands b a n (omega arith);
        whole = λ k lt z.
            let m : k < n = omega arith in
            let g = prefix_len_passes nonzero block k 0 m in
            let v : get_or block k 0 ≡ 0 = piece_at b a (e - a) (omega arith) k (omega arith) ∙ sym (piece_at b a n (omega arith) k m) ∙ z in
            grind (arith, nat_tests);
        inside = omega arith;
        ended =
            let g = prefix_len_stops nonzero block 0 (omega arith) in
            let v : get_or block n 0 ≡ get_or b (a + n) 0 = piece_at b a (e - a) (omega arith) n short in
            let z : get_or block n 0 ≡ 0 = grind (arith, nat_tests) in
            rw s (sym v ∙ z);
      }

name_named : {F : Type 0} (b : List ℕ) (a e : ℕ) (past : F) (p : Piece) → name_or b a e past ≡ Ok p → Named b p
name_named b a e past p q =
    let t = cond_ok (leb e (length b) && ltb (name_size b a e) (e - a)) (Ok (standing b a (name_size b a e))) past p q in
    let s = and_parts (leb e (length b)) (ltb (name_size b a e) (e - a)) t.0 in
    let same : standing b a (name_size b a e) ≡ p = ok_same t.1 in
    subst (λ (x : Piece). Named b x) same (name_stands b a e (leb-true e (length b) s.0) (ltb-true (name_size b a e) (e - a) s.1))

part_stands : {F : Type 0} (b : List ℕ) (a n e : ℕ) (past : F) (p : Piece) → part_or b a n e past ≡ Ok p → Stands b p
part_stands b a n e past p q =
    let t = cond_ok (within b (a + n) e) (Ok (standing b a n)) past p q in
    let s = and_parts (leb (a + n) e) (leb e (length b)) t.0 in
    let x = leb-true (a + n) e s.0 in
    let y = leb-true e (length b) s.1 in
    let same : standing b a n ≡ p = ok_same t.1 in
    subst (λ (x : Piece). Stands b x) same (piece_stands b a n (omega arith))

module _ (b : List ℕ) (h : Header) (i : ℕ) where
  plain : (v w : Word) (m next : ℕ) → WordStands b v → ◌≡◌ {A = Result (Word × ℕ) TokenFault} (Ok (v, m)) (Ok (w, next)) → WordStands b w
  plain v w m next s e = subst (λ (w : Word). WordStands b w) (ap (λ z. z.0) (ok_same e)) s

  open_stands : (w : Word) (next : ℕ) → open_at b h i ≡ Ok (w, next) → WordStands b w
  open_stands w next =
      after_by (name_or b (i + 4) (ending h) (Past (at i))) _ (w, next) (λ name en.
      plain (opens name) w (align (i + 4 + length name.bytes + 1)) next (name_named b (i + 4) (ending h) (Past (at i)) name en))

  property_stands : (w : Word) (next : ℕ) → property_at b h i ≡ Ok (w, next) → WordStands b w
  property_stands w next =
      after_by (cell_or b (i + 4) (ending h) (Past (at i))) _ (w, next) (λ size es.
      after_by (cell_or b (i + 8) (ending h) (Past (at i))) _ (w, next) (λ offset eo.
      after_by (part_or b (i + 12) size (ending h) (Past (at i))) _ (w, next) (λ value ev.
      after_by (name_or b (h.strings + offset) (h.strings + h.strings_size) (Past (at i))) _ (w, next) (λ name en.
      plain (property name value) w (align (i + 12 + size)) next (
        name_named b (h.strings + offset) (h.strings + h.strings_size) (Past (at i)) name en,
        part_stands b (i + 12) size (ending h) (Past (at i)) value ev,
      )))))

  by_stands : (tag : ℕ) (w : Word) (next : ℕ) → token_by b h i tag ≡ Ok (w, next) → WordStands b w
  by_stands tag w next = go (eqb tag 1) (eqb tag 2) (eqb tag 3) (eqb tag 4) (eqb tag 9)
    where
      go : (t1 t2 t3 t4 t9 : Bool) → cond t1 (open_at b h i) (cond t2 (Ok (closes, i + 4)) (cond t3 (property_at b h i) (cond t4 (Ok (nothing, i + 4)) (cond t9 (Ok (ends, i + 4)) (Err (Past (at i))))))) ≡ Ok (w, next) → WordStands b w
      go true t2 t3 t4 t9 e = open_stands w next e
      go false true t3 t4 t9 e = plain closes w (i + 4) next tt e
      go false false true t4 t9 e = property_stands w next e
      go false false false true t9 e = plain nothing w (i + 4) next tt e
      go false false false false true e = plain ends w (i + 4) next tt e
      go false false false false false e = absurd (let o : ◌≡◌ {A = ℕ} 0 1 = cc in omega arith)

  pub token_stands : (r : Result (Word × ℕ) TokenFault) → r ≡ token_at b h i → TokenStands b r
  token_stands (Err f) e = tt
  token_stands (Ok x) e =
      let t = cond_ok (leb h.structure i && eqb (i % 4) 0) (after (cell_or b i (ending h) (Past (at i))) (token_by b h i)) (Past (at i)) x (sym e) in
      after_by (cell_or b i (ending h) (Past (at i))) (token_by b h i) x (λ tag et. by_stands tag x.0 x.1) t.1
