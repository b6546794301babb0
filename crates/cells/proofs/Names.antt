-- A name is compared by no more of its bytes than one past those that it is compared with.
use Rattle.std.proofs.Common.{◌≡◌, ℕ, suc, ◌+◌, ◌-◌, ◌<◌, Bool, true, false, cond, not, ◌&&◌, eqb, List, [], ◌∷◌, length, get_or, take, refl, ap, ◌∙◌, sym, arith}
use Rattle.std.proofs.lemmas.List.Sums.{take_while-cons, prefix_len_passes}
use Rattle.std.proofs.lemmas.Bool.Decides.{nat_tests}
use Rattle.std.specs.List.{slice_range}
use Rattle.std.specs.Str.{bytes_eq}
use Rattle.cells.specs.Cells.{nonzero, before_zero, leading_nonzero}

-- what follows a first byte does not count against nothing
none_same : (t : Bool) (x : ℕ) (a b : List ℕ) → bytes_eq (cond t (x ∷ a) []) [] ≡ bytes_eq (cond t (x ∷ b) []) []
none_same true x a b = refl
none_same false x a b = refl

more_same : (t : Bool) (x y : ℕ) (a b w : List ℕ) → bytes_eq a w ≡ bytes_eq b w → bytes_eq (cond t (x ∷ a) []) (y ∷ w) ≡ bytes_eq (cond t (x ∷ b) []) (y ∷ w)
more_same true x y a b w e = ap (λ z. eqb x y && z) e
more_same false x y a b w e = refl

front_same : (r w : List ℕ) → bytes_eq (before_zero (take (suc (length w)) r)) w ≡ bytes_eq (before_zero r) w
front_same [] w = refl
front_same (x ∷ r) [] =
    ap (λ z. bytes_eq z []) (take_while-cons nonzero x (take 0 r))
    ∙ none_same (nonzero x) x (before_zero (take 0 r)) (before_zero r)
    ∙ sym (ap (λ z. bytes_eq z []) (take_while-cons nonzero x r))
front_same (x ∷ r) (y ∷ w) =
    ap (λ z. bytes_eq z (y ∷ w)) (take_while-cons nonzero x (take (suc (length w)) r))
    ∙ more_same (nonzero x) x y (before_zero (take (suc (length w)) r)) (before_zero r) w (front_same r w)
    ∙ sym (ap (λ z. bytes_eq z (y ∷ w)) (take_while-cons nonzero x r))

pub cut_same : (r w : List ℕ) → bytes_eq (before_zero (slice_range r 0 (length w + 1))) w ≡ bytes_eq (before_zero r) w
cut_same r w =
    let n : length w + 1 - 0 ≡ suc (length w) = omega arith in
    ap (λ n. bytes_eq (before_zero (take n r)) w) n ∙ front_same r w

-- where the byte after as many as are wanted is no zero byte, the name is not what is wanted
pub ends_elsewhere : (b w : List ℕ) → length w < length b → eqb (get_or b (length w) 0) 0 ≡ false → bytes_eq (before_zero b) w ≡ false
ends_elsewhere [] w l e = absurd (let z : ⊥ = omega arith in z)
ends_elsewhere (x ∷ r) [] l e =
    ap (λ z. bytes_eq z []) (take_while-cons nonzero x r) ∙ ap (λ t. bytes_eq (cond (not t) (x ∷ before_zero r) []) []) e
ends_elsewhere (x ∷ r) (y ∷ w) l e =
    ap (λ z. bytes_eq z (y ∷ w)) (take_while-cons nonzero x r) ∙ go (nonzero x) (ends_elsewhere r w (omega arith) e)
  where
    go : (t : Bool) → bytes_eq (before_zero r) w ≡ false → bytes_eq (cond t (x ∷ before_zero r) []) (y ∷ w) ≡ false
    go true f = ap (λ z. eqb x y && z) f ∙ both (eqb x y)
      where
        both : (b : Bool) → (b && false) ≡ false
        both true = refl
        both false = refl
    go false f = refl

-- where a byte is zero, no more bytes stand before the first zero byte than before that one
pub zero_stops : (b : List ℕ) (i : ℕ) → i < length b → get_or b i 0 ≡ 0 → leading_nonzero b < length b
zero_stops b i l z =
    let p = prefix_len_passes nonzero b i 0 in
    grind (arith, nat_tests)
