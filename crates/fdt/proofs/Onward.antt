-- The tokens from a place on are the token there and those from the next place on.
use Rattle.std.proofs.Common.{◌≡◌, ℕ, zero, suc, ◌+◌, ◌-◌, ◌%◌, ◌<◌, ◌≤◌, Bool, true, false, cond, ◌&&◌, eqb, leb, List, ◌∷◌, length, Ok, Err, Result, refl, ap, arith}
use Rattle.std.proofs.lemmas.Bool.{leb-true, and_parts}
use Rattle.std.proofs.lemmas.Bool.Decides.{nat_tests}
use Rattle.cells.specs.declared.header.Header.{Header}
use Rattle.faults.specs.declared.fault.TokenFault.{TokenFault}
use Rattle.faults.specs.declared.fault.TokenFault.TheVariants.{Past}
use Rattle.cells.specs.Cells.{within, cell, cell_or, part_or, name_or}
use Rattle.fdt.specs.Tokens.{Word, opens, property, closes, nothing, ends, at, after, align, open_at, property_at, token_by, token_at, ending}
use Rattle.fdt.specs.Items.{Item, item, onward, more, items_in, items}

-- a chain that ends well went well at its first step
pub after_by : {X Y F P : Type 0} (r : Result X F) (f : X → Result Y F) (y : Y) → ((x : X) → r ≡ Ok x → f x ≡ Ok y → P) → after r f ≡ Ok y → P
after_by (Ok x) f y k e = k x refl e
after_by (Err z) f y k e = absurd (let o : ◌≡◌ {A = ℕ} 0 1 = cc in omega arith)

-- a test that ends well was passed
pub cond_ok : {Y F : Type 0} (t : Bool) (x : Result Y F) (z : F) (y : Y) → cond t x (Err z) ≡ Ok y → (t ≡ true) × (x ≡ Ok y)
cond_ok true x z y e = (refl, e)
cond_ok false x z y e = absurd (let o : ◌≡◌ {A = ℕ} 0 1 = cc in omega arith)

pub ok_same : {X F : Type 0} {x y : X} → ◌≡◌ {A = Result X F} (Ok x) (Ok y) → x ≡ y
ok_same e = cc

align_up : (i : ℕ) → i ≤ align i
align_up i = omega arith

-- a padded end is no less than the end
padded : (i n next : ℕ) (w v : Word) → i ≤ n → ◌≡◌ {A = Result (Word × ℕ) TokenFault} (Ok (v, align n)) (Ok (w, next)) → i ≤ next
padded i n next w v h e =
    let q : align n ≡ next = ap (λ z. z.1) (ok_same e) in
    let u = align_up n in
    omega arith

open_on : (b : List ℕ) (h : Header) (i : ℕ) (w : Word) (next : ℕ) → open_at b h i ≡ Ok (w, next) → i + 4 ≤ next
open_on b h i w next =
    after_by (name_or b (i + 4) (ending h) (Past (at i))) _ (w, next) (λ name en e.
    padded (i + 4) (i + 4 + length name.bytes + 1) next w (opens name) (omega arith) e)

property_on : (b : List ℕ) (h : Header) (i : ℕ) (w : Word) (next : ℕ) → property_at b h i ≡ Ok (w, next) → i + 4 ≤ next
property_on b h i w next =
    after_by (cell_or b (i + 4) (ending h) (Past (at i))) _ (w, next) (λ size es.
    after_by (cell_or b (i + 8) (ending h) (Past (at i))) _ (w, next) (λ offset eo.
    after_by (part_or b (i + 12) size (ending h) (Past (at i))) _ (w, next) (λ value ev.
    after_by (name_or b (h.strings + offset) (h.strings + h.strings_size) (Past (at i))) _ (w, next) (λ name en e.
    padded (i + 4) (i + 12 + size) next w (property name value) (omega arith) e))))

by_on : (b : List ℕ) (h : Header) (i tag : ℕ) (w : Word) (next : ℕ) → token_by b h i tag ≡ Ok (w, next) → i + 4 ≤ next
by_on b h i tag w next e =
    let o = open_on b h i w next in
    let p = property_on b h i w next in
    grind (arith, nat_tests)

pub goes_on : (b : List ℕ) (h : Header) (i : ℕ) (w : Word) (next : ℕ) → token_at b h i ≡ Ok (w, next) → (i + 4 ≤ ending h) × (i + 4 ≤ next)
goes_on b h i w next e =
    let t = cond_ok (leb h.structure i && eqb (i % 4) 0) (after (cell_or b i (ending h) (Past (at i))) (token_by b h i)) (Past (at i)) (w, next) e in
    after_by (cell_or b i (ending h) (Past (at i))) (token_by b h i) (w, next) (λ tag et f.
    let c = cond_ok (within b (i + 4) (ending h)) (Ok (cell b i)) (Past (at i)) tag et in
    let s = and_parts (leb (i + 4) (ending h)) (leb (ending h) (length b)) c.0 in
    (leb-true (i + 4) (ending h) s.0, by_on b h i tag w next f)) t.1

onward_same : (k l : ℕ → List Item) (i : ℕ) (w : Word) (next : ℕ) → k next ≡ l next → onward k i w next ≡ onward l i w next
onward_same k l i (opens n) next e = ap (λ z. item i (opens n) next ∷ z) e
onward_same k l i (property n v) next e = ap (λ z. item i (property n v) next ∷ z) e
onward_same k l i closes next e = ap (λ z. item i closes next ∷ z) e
onward_same k l i nothing next e = ap (λ z. item i nothing next ∷ z) e
onward_same k l i ends next e = refl

pub more_same : (k l : ℕ → List Item) (i : ℕ) (r : Result (Word × ℕ) TokenFault) → ((w : Word) (next : ℕ) → r ≡ Ok (w, next) → k next ≡ l next) → more k i r ≡ more l i r
more_same k l i (Err f) same = refl
more_same k l i (Ok x) same = onward_same k l i x.0 x.1 (same x.0 x.1 refl)

-- any number of tokens that is large enough gives the same
fuel : (n m : ℕ) (b : List ℕ) (h : Header) (i : ℕ) → ending h - i < n → ending h - i < m → items_in n b h i ≡ items_in m b h i
fuel zero m b h i p q = absurd (omega arith)
fuel (suc n) zero b h i p q = absurd (omega arith)
fuel (suc n) (suc m) b h i p q =
    more_same (items_in n b h) (items_in m b h) i (token_at b h i)
    (λ w next e. let g = goes_on b h i w next e in fuel n m b h next (omega arith) (omega arith))

pub items_is : (b : List ℕ) (h : Header) (i : ℕ) → items b h i ≡ more (items b h) i (token_at b h i)
unfolding items
items_is b h i =
    more_same (items_in (ending h - i) b h) (λ j. items_in (suc (ending h - j)) b h j) i (token_at b h i)
    (λ w next e. let g = goes_on b h i w next e in fuel (ending h - i) (suc (ending h - next)) b h next (omega arith) (omega arith))
