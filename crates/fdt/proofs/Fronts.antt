-- Bytes past the total size do not matter.
use Rattle.std.proofs.Common.{◌≡◌, ℕ, ◌+◌, ◌%◌, ◌<◌, ◌≤◌, Bool, true, false, cond, ◌&&◌, eqb, leb, List, length, get_or, take, Ok, Err, Result, sym, refl, ap, ◌∙◌, arith, lit≤}
use Rattle.std.proofs.lemmas.List.{get_or-take}
use Rattle.std.proofs.lemmas.Bool.{le-leb}
use Rattle.cells.specs.declared.header.Header.{Header}
use Rattle.faults.specs.declared.fault.HeaderFault.{HeaderFault}
use Rattle.faults.specs.declared.fault.HeaderFault.TheVariants.{Size, Magic, Version, Blocks}
use Rattle.cells.specs.Cells.{cell}
use Rattle.cells.specs.Headers.{block_within, sized, versioned, blocked, header_cells}
use Rattle.fdt.specs.Blobs.{Source, source, SameFront, blob_from, blob_of}

-- the blob, from what is read of it: two tests of the length, eight cells, and the bytes up to the total size
abbrev head : ℕ → ℕ → ℕ → ℕ → ℕ → Header
head total structure size strings other = record { total = total; structure = structure; structure_size = size; strings = strings; strings_size = other }

made_of : Bool → Bool → ℕ → ℕ → ℕ → ℕ → ℕ → ℕ → ℕ → ℕ → List ℕ → Result Source HeaderFault
made_of l t c0 c4 c8 c12 c20 c24 c32 c36 front =
    cond (l && (leb 40 c4 && (leb c4 65536 && t)))
    (cond (eqb c0 0xd00dfeed)
    (cond (leb 17 c20 && leb c24 17)
    (cond (block_within c8 c36 c4 && (block_within c12 c32 c4 && (eqb (c8 % 4) 0 && eqb (c36 % 4) 0)))
    (Ok (source front (head c4 c8 c36 c12 c32))) (Err Blocks)) (Err Version)) (Err Magic))
    (Err Size)

-- a header is cut off at the total size that it gives
cut_at : (b : List ℕ) (s m v k : Bool)
    → blob_from b (cond s (cond m (cond v (cond k (Ok (header_cells b)) (Err Blocks)) (Err Version)) (Err Magic)) (Err Size))
    ≡ cond s (cond m (cond v (cond k (Ok (source (take (cell b 4) b) (header_cells b))) (Err Blocks)) (Err Version)) (Err Magic)) (Err Size)
cut_at b false m v k = refl
cut_at b true false v k = refl
cut_at b true true false k = refl
cut_at b true true true false = refl
cut_at b true true true true = refl

made_is : (b : List ℕ) → blob_of b
    ≡ made_of (leb 40 (length b)) (leb (cell b 4) (length b)) (cell b 0) (cell b 4) (cell b 8) (cell b 12) (cell b 20) (cell b 24) (cell b 32) (cell b 36) (take (cell b 4) b)
unfolding made_of
made_is b = cut_at b (sized b) (eqb (cell b 0) 0xd00dfeed) (versioned b) (blocked b)

module _ (b c : List ℕ) (s : SameFront b c) where
  -- equal parts make equal blobs
  all_same : {l m t u : Bool} {d0 e0 d4 e4 d8 e8 d12 e12 d20 e20 d24 e24 d32 e32 d36 e36 : ℕ} {f g : List ℕ} → l ≡ m → t ≡ u → d0 ≡ e0 → d4 ≡ e4 → d8 ≡ e8 → d12 ≡ e12 → d20 ≡ e20 → d24 ≡ e24 → d32 ≡ e32 → d36 ≡ e36 → f ≡ g
      → made_of l t d0 d4 d8 d12 d20 d24 d32 d36 f ≡ made_of m u e0 e4 e8 e12 e20 e24 e32 e36 g
  all_same p q p0 p4 p8 p12 p20 p24 p32 p36 r = cc

  byte_same : (k : ℕ) → k < cell b 4 → get_or b k 0 ≡ get_or c k 0
  byte_same k h =
      sym (get_or-take (cell b 4) b k 0 h) ∙ ap (λ z. get_or z k 0) s.same ∙ get_or-take (cell b 4) c k 0 h

  cell_same : (i : ℕ) → i + 4 ≤ 40 → cell b i ≡ cell c i
  cell_same i h =
      let l = s.least in
      let p = byte_same i (omega arith) in
      let q = byte_same (i + 1) (omega arith) in
      let r = byte_same (i + 2) (omega arith) in
      let t = byte_same (i + 3) (omega arith) in
      rw (p, q, r, t)

  pub blob_same : blob_of b ≡ blob_of c
  blob_same =
      let l = s.least in
      let w = s.whole in
      let o = s.other in
      let lb = le-leb 40 (length b) (omega arith) in
      let lc = le-leb 40 (length c) (omega arith) in
      let tb = le-leb (cell b 4) (length b) w in
      let tc : leb (cell c 4) (length c) ≡ true = ap (λ n. leb n (length c)) (sym c4) ∙ le-leb (cell b 4) (length c) o in
      let front : take (cell b 4) b ≡ take (cell c 4) c = s.same ∙ ap (λ n. take n c) c4 in
      made_is b
      ∙ all_same (lb ∙ sym lc) (tb ∙ sym tc) (cell_same 0 (lit≤ tt)) c4 (cell_same 8 (lit≤ tt)) (cell_same 12 (lit≤ tt)) (cell_same 20 (lit≤ tt)) (cell_same 24 (lit≤ tt)) (cell_same 32 (lit≤ tt)) (cell_same 36 (lit≤ tt)) front
      ∙ sym (made_is c)
    where
      c4 : cell b 4 ≡ cell c 4
      c4 = cell_same 4 (lit≤ tt)
