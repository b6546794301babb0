-- From the seats of all controllers to the rules of a plan.
use Rattle.std.proofs.Common.{◌≡◌, ℕ, ◌+◌, ◌*◌, ◌<◌, ◌≤◌, true, List, [], ◌∷◌, ◌++◌, length, Some, None, Option, refl, sym, ap, ◌∙◌, length-append, arith}
use Rattle.std.specs.Prelude.{slice_get}
use Rattle.std.proofs.lemmas.Bool.Decides.{nat_tests}
use Rattle.kinds.specs.Kinds.{Sort, width_of}
use Rattle.plan.specs.declared.placed.Parent.{Parent}
use Rattle.plan.specs.declared.placed.Parent.TheVariants.{At}
use Rattle.plan.specs.declared.placed.Spot.{Spot}
use Rattle.plan.specs.Controllers.{Made, same_spot}
use Rattle.plan.specs.Plans.{Planned, line_by, line_from, line_of}
use Rattle.plan.specs.Rules.{widths, width_by, Lies, Stands, first, cascaded}
use Rattle.plan.proofs.Elements.{mapped, mapped_from}
use Rattle.plan.proofs.Facts.{kinds, Few, Fits, Follows, Seat, root, under}

-- where two fronts of one list, each with the element behind it, meet
data Meets (xs ys : List ℕ) (k j : ℕ) : Type 0 where
  same : k ≡ j → xs ≡ ys → Meets xs ys k j
  shorter : (m : List ℕ) → ys ≡ xs ++ (k ∷ m) → Meets xs ys k j
  longer : (m : List ℕ) → xs ≡ ys ++ (j ∷ m) → Meets xs ys k j

meets_more : (x y : ℕ) (xs ys : List ℕ) (k j : ℕ) → x ≡ y → Meets xs ys k j → Meets (x ∷ xs) (y ∷ ys) k j
meets_more x y xs ys k j e (same f g) = same f (cc)
meets_more x y xs ys k j e (shorter m f) = shorter m (cc)
meets_more x y xs ys k j e (longer m f) = longer m (cc)

meets : (xs ys us vs : List ℕ) (k j : ℕ) → xs ++ (k ∷ us) ≡ ys ++ (j ∷ vs) → Meets xs ys k j
meets [] [] us vs k j e = same (cc) refl
meets [] (y ∷ ys) us vs k j e = shorter ys (cc)
meets (x ∷ xs) [] us vs k j e = longer xs (cc)
meets (x ∷ xs) (y ∷ ys) us vs k j e =
    let f : xs ++ (k ∷ us) ≡ ys ++ (j ∷ vs) = cc in
    meets_more x y xs ys k j (cc) (meets xs ys us vs k j f)

pub widths-append : (cs : List Made) (xs ys : List ℕ) → widths cs (xs ++ ys) ≡ widths cs xs + widths cs ys
widths-append cs [] ys = omega arith
widths-append cs (x ∷ xs) ys = omega (arith, widths-append cs xs ys)

-- controllers of at most 64 lines each have together at most 64 times their number
pub widths_few : (cs : List Made) (few : Few (kinds cs)) (ks : List ℕ) → widths cs ks ≤ 64 * length ks
widths_few cs few [] = omega arith
widths_few cs few (k ∷ ks) = widths_few_by (slice_get cs k) refl (widths_few cs few ks)
  where
    widths_few_by : (o : Option Made) → slice_get cs k ≡ o → widths cs ks ≤ 64 * length ks → widths cs (k ∷ ks) ≤ 64 * length (k ∷ ks)
    widths_few_by None e ih = let w : width_by (slice_get cs k) ≡ 0 = ap width_by e in omega arith
    widths_few_by (Some c) e ih =
        let w : width_by (slice_get cs k) ≡ width_of c.kind = ap width_by e in
        let n = few.widths k c.kind (mapped (λ (c : Made). c.kind) cs k c e) in
        omega arith

-- a line of one of at most four controllers is below 256
low : (cs : List Made) (order before rest : List ℕ) (k i : ℕ) (kind : Sort) → Few (kinds cs) → length order ≤ 4 → order ≡ before ++ (k ∷ rest) → slice_get (kinds cs) k ≡ Some kind
    → i < width_of kind → widths cs before + i < 256
low cs order before rest k i kind few n e h l =
    let w = few.widths k kind h in
    let v = widths_few cs few before in
    let a = ap length e in
    let b = length-append before (k ∷ rest) in
    omega arith

-- a plan of at most four controllers, each with a seat
pub record Small (p : Planned) : Type 0 where
  pub seats : (k : ℕ) (c : Made) → slice_get p.controllers k ≡ Some c → Seat p.controllers p.order k c
  pub few : Few (kinds p.controllers)
  pub order : length p.order ≤ 4

module _ (p : Planned) (laid : Small p) (s : Spot) (fits : Fits (kinds p.controllers) s) where
  lies_at : (c : Made) → slice_get p.controllers s.controller ≡ Some c → c.kind ≡ fits.kind → Lies p s
  lies_at c e q =
      let seat = laid.seats s.controller c e in
      record {
        controller = c;
        before = seat.before;
        rest = seat.rest;
        there = e;
        order = seat.order;
        input = rw q fits.input;
        line = ap (line_by s) e ∙ ap (line_from s) seat.line;
        low = low p.controllers p.order seat.before seat.rest s.controller s.input fits.kind laid.few laid.order seat.order fits.there fits.input;
      }

  -- an input of a controller that has a seat lies by the widths placed before it
  pub lies : Lies p s
  lies = let c = mapped_from (λ (c : Made). c.kind) p.controllers s.controller fits.kind fits.there in lies_at c.0 c.1 c.2

-- an input of a controller is below all that is placed behind that controller
below : (cs : List Made) (xs ys m : List ℕ) (k : ℕ) (c : Made) → slice_get cs k ≡ Some c → ys ≡ xs ++ (k ∷ m) → widths cs xs + width_of c.kind + widths cs m ≡ widths cs ys
below cs xs ys m k c h e =
    let w : width_by (slice_get cs k) ≡ width_of c.kind = ap width_by h in
    let f = widths-append cs xs (k ∷ m) in
    let g = ap (widths cs) e in
    omega arith

apart_by : (cs : List Made) (xs ys : List ℕ) (s t : Spot) (c d : Made) → slice_get cs s.controller ≡ Some c → slice_get cs t.controller ≡ Some d
    → s.input < width_of c.kind → t.input < width_of d.kind → widths cs xs + s.input ≡ widths cs ys + t.input
    → Meets xs ys s.controller t.controller → same_spot s t ≡ true
apart_by cs xs ys s t c d hs ht si ti e (same f g) =
    let w = ap (widths cs) g in
    let i : s.input ≡ t.input = omega arith in
    grind (arith, nat_tests)
apart_by cs xs ys s t c d hs ht si ti e (shorter m f) = absurd (let w = below cs xs ys m s.controller c hs f in omega arith)
apart_by cs xs ys s t c d hs ht si ti e (longer m f) = absurd (let w = below cs ys xs m t.controller d ht f in omega arith)

-- two spots of one line are the same
pub apart : (p : Planned) (s t : Spot) (a : Lies p s) (b : Lies p t) → line_of p.controllers s ≡ line_of p.controllers t → same_spot s t ≡ true
apart p s t a b e =
    let f = a.line in
    let g = b.line in
    let l : widths p.controllers a.before + s.input ≡ widths p.controllers b.before + t.input = cc in
    let m = meets a.before b.before a.rest b.rest s.controller t.controller (sym a.order ∙ b.order) in
    apart_by p.controllers a.before b.before s t a.controller b.controller a.there b.there a.input b.input l m

stands_by : (p : Planned) (k : ℕ) (c : Made) (before rest : List ℕ) (q : Parent) → p.order ≡ before ++ (k ∷ rest) → c.parent ≡ q → Follows before q
    → ((s : Spot) → q ≡ At s → Lies p s) → Stands p k c
stands_by p k c before rest q e h (root f) lie = first rest h (e ∙ ap (λ b. b ++ (k ∷ rest)) f)
stands_by p k c before rest q e h (under s f) lie = cascaded s before rest h e f (lie s refl)

-- a controller that has a seat stands by the rules
pub stands : (p : Planned) (k : ℕ) (c : Made) → Seat p.controllers p.order k c → ((s : Spot) → c.parent ≡ At s → Lies p s) → Stands p k c
stands p k c seat lie = stands_by p k c seat.before seat.rest c.parent seat.order refl seat.follows lie
