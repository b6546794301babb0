-- What is kept while the specifiers of a tree are read.
use Rattle.std.proofs.Common.{◌≡◌, ℕ, ◌+◌, ◌-◌, ◌<◌, ◌≤◌, Bool, true, false, cond, ◌⊎◌, List, [], ◌∷◌, ◌++◌, length, Some, None, Ok, Err, Option, Result, refl, sym, ap, ◌∙◌, subst, inl, inr, arith}
use Rattle.std.specs.Prelude.{◌&&◌, ◌||◌, ◌==◌, codes, is_some, nat_le, nat_lt, slice_index, slice_get, slice_set}
use Rattle.std.specs.List.{list_any}
use Rattle.std.proofs.lemmas.Bool.{ltb-true}
use Rattle.std.proofs.lemmas.Bool.Decides.{nat_tests}
use Rattle.std.proofs.lemmas.List.{length-map}
use Rattle.std.proofs.lemmas.Option.{none-some, same_Some, cond_some}
use Rattle.search.specs.First.{first_from}
use Rattle.fdt.proofs.Onward.{after_by, cond_ok, ok_same}
use Rattle.faults.specs.declared.place.At.{At as Holder}
use Rattle.faults.specs.declared.fault.RouteFault.{RouteFault}
use Rattle.tree.specs.Nodes.{Entry, Listed, listed, broken}
use Rattle.specifiers.specs.Specifiers.{Specified}
use Rattle.specifiers.specs.Cuts.{specifiers_of}
use Rattle.walk.specs.Walks.{Found, route_of}
use Rattle.line.specs.declared.row.Sense.{Sense}
use Rattle.line.specs.declared.row.Sense.TheVariants.{Following, Gated}
use Rattle.kinds.specs.declared.kind.Input.{Input}
use Rattle.kinds.specs.Kinds.{Sort, chip, plic, mux, input, input_of, sense_of, sensed, width_of, within}
use Rattle.kinds.specs.Reading.{held, kind_in}
use Rattle.values.specs.Values.{has}
use Rattle.board_faults.specs.declared.BoardFault.{BoardFault}
use Rattle.board_faults.specs.declared.BoardFault.TheVariants as fault
use Rattle.plan.specs.declared.placed.Parent.{Parent}
use Rattle.plan.specs.declared.placed.Parent.TheVariants.{Root, At, Several}
use Rattle.plan.specs.declared.placed.Spot.{Spot}
use Rattle.plan.specs.Controllers.{Made, controller_by, controller_in, controllers_from, controllers_of, ends_at, found, one_to_four, onto, parent_with, same_spot}
use Rattle.plan.specs.Drafts.{Drawn, Ended, Routed, added, added_by, cascaded_at, cascaded_by, controller_at, drawn_from, end_at, end_by, end_of, input_by, node_drawn, noted, routed_to, taken, with_cascaded, with_noted, with_parent}
use Rattle.plan.specs.Plans.{blank}
use Rattle.plan.proofs.Facts.{Apart, Few, Fits, Good, Unplaced, kinds}
use Rattle.plan.proofs.Elements.{Each, each_cons, each_none, each_push, each_set, mapped, mapped_from, mapped_same, push_cases, set_cases}
use Rattle.plan.proofs.KindWidths.{kind_below, ok_err}

-- The controllers found.

-- a controller as it is found: no specifier of it is read, it is not placed, and its kind has at most 64 lines
record Fresh (c : Made) : Type 0 where
  parent : c.parent ≡ Root
  first_line : c.first_line ≡ None
  width : width_of c.kind ≤ 64

abbrev FreshIn : Option Made → Type 0
FreshIn o = (c : Made) → o ≡ Some c → Fresh c

fresh_by : (e : Entry) (b : Bool) (o : Option Made) → controller_by e b ≡ Ok o → FreshIn o
fresh_by e true o h = after_by (kind_in e) (λ k. Ok (Some (found e k))) o (λ k t s. subst FreshIn (ok_same s) (λ c r. subst Fresh (same_Some (found e k) c r) (record { parent = refl; first_line = refl; width = kind_below e k t }))) h
fresh_by e false o h = subst FreshIn (ok_same h) (λ c r. absurd (none-some c r))

fresh_in : (e : Entry) (o : Option Made) → controller_in e ≡ Ok o → FreshIn o
fresh_in e o h = after_by (held (has (codes "interrupt-controller") e)) (controller_by e) o (λ b _ t. fresh_by e b o t) h

fresh_onto : (o : Option Made) (r : Result (List Made) BoardFault) (cs : List Made) → FreshIn o → ((ds : List Made) → r ≡ Ok ds → Each Fresh ds) → onto o r ≡ Ok cs → Each Fresh cs
fresh_onto None r cs p ih h = ih cs h
fresh_onto (Some c) (Ok ds) cs p ih h = subst (Each Fresh) (ok_same h) (each_cons Fresh c ds (p c refl) (ih ds refl))
fresh_onto (Some c) (Err f) cs p ih h = ok_err cs f h

fresh_from : (es : List Listed) (cs : List Made) → controllers_from es ≡ Ok cs → Each Fresh cs
fresh_from [] cs h = subst (Each Fresh) (ok_same h) (each_none Fresh)
fresh_from (broken f ∷ es) cs h = ok_err cs _ h
fresh_from (listed e ∷ es) cs h =
    after_by (controller_in e) (λ o. onto o (controllers_from es)) cs (λ o s t. fresh_onto o (controllers_from es) cs (fresh_in e o s) (λ ds u. fresh_from es ds u) t) h

one_to_four_kept : (cs ds : List Made) → one_to_four cs ≡ Ok ds → (cs ≡ ds) × (length ds ≤ 4)
one_to_four_kept cs ds h =
    let t = cond_ok (nat_le 1 (length cs) && nat_le (length cs) 4) (Ok cs) (fault.Controllers) ds h in
    let e : cs ≡ ds = ok_same t.1 in
    let w = t.0 in
    let n : length cs ≤ 4 = grind (arith, nat_tests) in
    (e, subst (λ (xs : List Made). length xs ≤ 4) e n)

-- at most four controllers, as they are found
pub record AllFresh (cs : List Made) : Type 0 where
  each : Each Fresh cs
  count : length cs ≤ 4

pub found_fresh : (es : List Listed) (cs : List Made) → controllers_of es ≡ Ok cs → AllFresh cs
found_fresh es cs h =
    after_by (controllers_from es) one_to_four cs (λ ds s t. let k = one_to_four_kept ds cs t in record { each = subst (Each Fresh) k.0 (fresh_from es ds s); count = k.1 }) h

narrow_by : (cs : List Made) (k : ℕ) (s : Sort) (x : (c : Made) × (slice_get cs k ≡ Some c) × (c.kind ≡ s)) → Each Fresh cs → width_of s ≤ 64
narrow_by cs k s x f = subst (λ (l : Sort). width_of l ≤ 64) x.2 (f k x.0 x.1).width

pub found_few : (cs : List Made) → AllFresh cs → Few (kinds cs)
found_few cs f = record {
  count = subst (λ n. n ≤ 4) (sym (length-map cs (λ c. c.kind))) f.count;
  widths = λ k s e. narrow_by cs k s (mapped_from (λ (c : Made). c.kind) cs k s e) f.each;
}

root_at : {P : Type 0} (c : Made) (s : Spot) → c.parent ≡ Root → c.parent ≡ At s → P
root_at c s p q = absurd (let o : ◌≡◌ {A = ℕ} 0 1 = cc in omega arith)

pub good_blank : (cs : List Made) → AllFresh cs → Good (kinds cs) (blank cs)
good_blank cs f = record {
  kinds = refl;
  unplaced = λ k c e. (f.each k c e).first_line;
  routes = λ i r e. absurd (none-some r e);
  parents = λ k c s e q. root_at c s (f.each k c e).parent q;
  apart = λ _. record {
    routes = λ i j r s e g q. absurd (none-some r e);
    free = λ i k r c s e g q. absurd (none-some r e);
    single = λ j k c d s t e g p q h. root_at c s (f.each j c e).parent p;
  };
}

-- Where a specifier ends.

within_below : (w : ℕ) (i j : Input) → within w i ≡ Some j → j.number < w
within_below w i j e = let p = cond_some (nat_lt i.number w) i j e in subst (λ (x : Input). x.number < w) p.1 (ltb-true i.number w p.0)

sensed_below : (n : ℕ) (o : Option Sense) (i : Input) → sensed n o ≡ Some i → i.number < 8
sensed_below n None i e = absurd (none-some i e)
sensed_below n (Some s) i e = within_below 8 (input n s) i e

tested : {X : Type 0} (t : Bool) (o : Option X) (x : X) → cond t o None ≡ Some x → o ≡ Some x
tested true o x e = e
tested false o x e = absurd (none-some x e)

input_below : (k : Sort) (cs : List ℕ) (i : Input) → input_of k cs ≡ Some i → i.number < width_of k
input_below chip cs i e = sensed_below (slice_index cs 0) (sense_of (slice_index cs 1)) i e
input_below (plic w p) cs i e =
    let o = input (slice_index cs 0 - 1) Gated in
    within_below w o i (tested (nat_le 1 (slice_index cs 0)) (within w o) i e)
input_below (mux w) cs i e = within_below w (input (slice_index cs 0) Following) i e

module _ (s : Specified) (f : Found) (cs : List Made) where
  input_fits : (k : ℕ) (c : Made) (o : Option Input) (e : Ended) → slice_get cs k ≡ Some c → input_of c.kind f.cells ≡ o → input_by s f k o ≡ Ok e → Fits (kinds cs) e.route.spot
  input_fits k c None e t u h = ok_err e _ h
  input_fits k c (Some i) e t u h =
      subst (λ (x : Ended). Fits (kinds cs) x.route.spot) (ok_same h) (record { kind = c.kind; there = mapped (λ (c : Made). c.kind) cs k c t; input = input_below c.kind f.cells i u })

  at_fits : (k : ℕ) (o : Option Made) (e : Ended) → slice_get cs k ≡ o → end_at s f k o ≡ Ok e → Fits (kinds cs) e.route.spot
  at_fits k None e t h = ok_err e _ h
  at_fits k (Some c) e t h = input_fits k c (input_of c.kind f.cells) e t refl h

  by_fits : (o : Option ℕ) (e : Ended) → end_by s f cs o ≡ Ok e → Fits (kinds cs) e.route.spot
  by_fits None e h = ok_err e _ h
  by_fits (Some k) e h = at_fits k (slice_get cs k) e refl h

end_fits : (es : List Listed) (cs : List Made) (s : Specified) (e : Ended) → end_of es cs s ≡ Ok e → Fits (kinds cs) e.route.spot
end_fits es cs s e h = after_by (held (route_of es s)) (λ f. end_by s f cs (controller_at f.controller.place cs)) e (λ f _ t. by_fits s f cs (controller_at f.controller.place cs) e t) h

-- Specifiers that end apart.

pub both_ends : {P : Type 0} (b : Bool) → b ≡ true → b ≡ false → P
both_ends b p q = absurd (let o : ◌≡◌ {A = ℕ} 0 1 = cc in omega arith)

same_spot_sym : (a b : Spot) → same_spot a b ≡ true → same_spot b a ≡ true
same_spot_sym a b h = grind (arith, nat_tests)

same_spot_false : (a b : Spot) → same_spot a b ≡ false → same_spot b a ≡ false
same_spot_false a b h = grind (arith, nat_tests)

no_first_by : {X : Type 0} (p : X → Bool) (n : ℕ) (x : X) (xs : List X) (b : Bool) → p x ≡ b → (is_some (first_from p (n + 1) xs) ≡ false → Each (λ x. p x ≡ false) xs)
    → is_some (cond b (Some n) (first_from p (n + 1) xs)) ≡ false → Each (λ x. p x ≡ false) (x ∷ xs)
no_first_by p n x xs true e ih h = both_ends true refl h
no_first_by p n x xs false e ih h = each_cons (λ x. p x ≡ false) x xs e (ih h)

no_first : {X : Type 0} (p : X → Bool) (n : ℕ) (xs : List X) → is_some (first_from p n xs) ≡ false → Each (λ x. p x ≡ false) xs
no_first p n [] h = each_none (λ x. p x ≡ false)
no_first p n (x ∷ xs) h = no_first_by p n x xs (p x) refl (no_first p (n + 1) xs) h

no_any_by : {X : Type 0} (p : X → Bool) (x : X) (xs : List X) (b : Bool) → p x ≡ b → (list_any p xs ≡ false → Each (λ x. p x ≡ false) xs)
    → (b || list_any p xs) ≡ false → Each (λ x. p x ≡ false) (x ∷ xs)
no_any_by p x xs true e ih h = both_ends true refl h
no_any_by p x xs false e ih h = each_cons (λ x. p x ≡ false) x xs e (ih h)

no_any : {X : Type 0} (p : X → Bool) (xs : List X) → list_any p xs ≡ false → Each (λ x. p x ≡ false) xs
no_any p [] h = each_none (λ x. p x ≡ false)
no_any p (x ∷ xs) h = no_any_by p x xs (p x) refl (no_any p xs) h

-- where no controller is cascaded at a spot, none is cascaded at a spot that is the same
not_cascaded : (spot : Spot) (cs : List Made) → cascaded_at spot cs ≡ false → (k : ℕ) (c : Made) (s : Spot) → slice_get cs k ≡ Some c → c.parent ≡ At s
    → same_spot s spot ≡ false
not_cascaded spot cs m k c s e p = ap (ends_at spot) (sym p) ∙ no_any (λ (x : Made). ends_at spot x.parent) cs m k c e

-- one route more, where no route before it ends and no controller is cascaded
module _ (rs : List Routed) (cs : List Made) (y : Routed) (a : Apart rs cs) (n : routed_to y.spot rs ≡ false) (m : cascaded_at y.spot cs ≡ false) where
  none_routed : Each (λ (r : Routed). same_spot r.spot y.spot ≡ false) rs
  none_routed = no_first (λ (r : Routed). same_spot r.spot y.spot) 0 rs n

  routes_more : (i j : ℕ) (r s : Routed) → same_spot r.spot s.spot ≡ true
      → (slice_get rs i ≡ Some r) ⊎ ((i ≡ length rs) × (r ≡ y)) → (slice_get rs j ≡ Some s) ⊎ ((j ≡ length rs) × (s ≡ y)) → i ≡ j
  routes_more i j r s h (inl e) (inl f) = a.routes i j r s e f h
  routes_more i j r s h (inl e) (inr f) = both_ends (same_spot r.spot y.spot) (subst (λ (x : Routed). same_spot r.spot x.spot ≡ true) f.1 h) (none_routed i r e)
  routes_more i j r s h (inr e) (inl f) = both_ends (same_spot s.spot y.spot) (same_spot_sym y.spot s.spot (subst (λ (x : Routed). same_spot x.spot s.spot ≡ true) e.1 h)) (none_routed j s f)
  routes_more i j r s h (inr e) (inr f) = e.0 ∙ sym f.0

  free_more : (i k : ℕ) (r : Routed) (c : Made) (s : Spot) → (slice_get rs i ≡ Some r) ⊎ ((i ≡ length rs) × (r ≡ y)) → slice_get cs k ≡ Some c → c.parent ≡ At s
      → same_spot r.spot s ≡ false
  free_more i k r c s (inl e) g q = a.free i k r c s e g q
  free_more i k r c s (inr e) g q =
      subst (λ (x : Routed). same_spot x.spot s ≡ false) (sym e.1) (same_spot_false s y.spot (not_cascaded y.spot cs m k c s g q))

  apart_push : Apart (rs ++ y ∷ []) cs
  apart_push = record {
    routes = λ i j r s p q h. routes_more i j r s h (push_cases rs y i r p) (push_cases rs y j s q);
    free = λ i k r c s p g q. free_more i k r c s (push_cases rs y i r p) g q;
    single = a.single;
  }

-- the one spot of a controller of which one specifier more is read
one_spot : (spot s : Spot) (p : Parent) → parent_with spot p ≡ At s → s ≡ spot
one_spot spot s Root h = let e : spot ≡ s = cc in sym e
one_spot spot s (At t) h = absurd (let o : ◌≡◌ {A = ℕ} 0 1 = cc in omega arith)
one_spot spot s Several h = absurd (let o : ◌≡◌ {A = ℕ} 0 1 = cc in omega arith)

-- one specifier more of a controller, where no route ends and no controller is cascaded
module _ (rs : List Routed) (cs : List Made) (k : ℕ) (spot : Spot) (b : Made) (a : Apart rs cs) (n : routed_to spot rs ≡ false) (m : cascaded_at spot cs ≡ false) where
  abbrev Was : ℕ → Made → Type 0
  Was j c = ((j ≡ k) × (c ≡ with_parent spot b)) ⊎ (slice_get cs j ≡ Some c)

  -- the spot of the controller that has one specifier more
  here : (c : Made) (s : Spot) → c ≡ with_parent spot b → c.parent ≡ At s → s ≡ spot
  here c s e p = one_spot spot s b.parent (ap (λ (x : Made). x.parent) (sym e) ∙ p)

  free_set : (i j : ℕ) (r : Routed) (c : Made) (s : Spot) → slice_get rs i ≡ Some r → Was j c → c.parent ≡ At s → same_spot r.spot s ≡ false
  free_set i j r c s e (inl f) p = subst (λ (x : Spot). same_spot r.spot x ≡ false) (sym (here c s f.1 p)) (no_first (λ (x : Routed). same_spot x.spot spot) 0 rs n i r e)
  free_set i j r c s e (inr f) p = a.free i j r c s e f p

  single_set : (i j : ℕ) (c d : Made) (s t : Spot) → Was i c → Was j d → c.parent ≡ At s → d.parent ≡ At t → same_spot s t ≡ true → i ≡ j
  single_set i j c d s t (inl e) (inl f) p q h = e.0 ∙ sym f.0
  single_set i j c d s t (inl e) (inr f) p q h =
      both_ends (same_spot t spot) (same_spot_sym spot t (subst (λ (x : Spot). same_spot x t ≡ true) (here c s e.1 p) h)) (not_cascaded spot cs m j d t f q)
  single_set i j c d s t (inr e) (inl f) p q h =
      both_ends (same_spot s spot) (subst (λ (x : Spot). same_spot s x ≡ true) (here d t f.1 q) h) (not_cascaded spot cs m i c s e p)
  single_set i j c d s t (inr e) (inr f) p q h = a.single i j c d s t e f p q h

  apart_set : Apart rs (slice_set cs k (with_parent spot b))
  apart_set = record {
    routes = a.routes;
    free = λ i j r c s e g p. free_set i j r c s e (set_cases cs k j (with_parent spot b) c g) p;
    single = λ i j c d s t e f p q h. single_set i j c d s t (set_cases cs k i (with_parent spot b) c e) (set_cases cs k j (with_parent spot b) d f) p q h;
  }

apart_cascaded : (rs : List Routed) (cs : List Made) (k : ℕ) (spot : Spot) (o : Option Made) → Apart rs cs → routed_to spot rs ≡ false → cascaded_at spot cs ≡ false
    → Apart rs (cascaded_by k spot cs o)
apart_cascaded rs cs k spot None a n m = a
apart_cascaded rs cs k spot (Some b) a n m = apart_set rs cs k spot b a n m

-- One specifier more.

none_taken : (t : Bool) (h : Holder) → ◌≡◌ {A = Option Holder} (cond t (Some h) None) None → t ≡ false
none_taken true h e = absurd (none-some h (sym e))
none_taken false h e = refl

noted_none : (d : Drawn) (e : Ended) (o : Option Holder) → noted d e o ≡ None → (o ≡ None) × (taken e.route.spot d ≡ false)
noted_none d e None h = (refl, none_taken (taken e.route.spot d) e.holder h)
noted_none d e (Some x) h = absurd (none-some x (sym h))

both_false : (a b : Bool) → (a || b) ≡ false → (a ≡ false) × (b ≡ false)
both_false true b h = both_ends true refl h
both_false false b h = (refl, h)

one_parent : (P : Spot → Type 0) (spot s : Spot) (p : Parent) → P spot → parent_with spot p ≡ At s → P s
one_parent P spot s p f h = subst P (sym (one_spot spot s p h)) f

-- what holds of the controllers of these kinds
record Cascades (ks : List Sort) (cs : List Made) : Type 0 where
  kinds : kinds cs ≡ ks
  unplaced : Unplaced cs
  parents : (k : ℕ) (c : Made) (s : Spot) → slice_get cs k ≡ Some c → c.parent ≡ At s → Fits ks s

module _ (ks : List Sort) (cs : List Made) (k : ℕ) (spot : Spot) where
  cascades_by : (o : Option Made) → slice_get cs k ≡ o → Cascades ks cs → Fits ks spot → Cascades ks (cascaded_by k spot cs o)
  cascades_by None e g f = g
  cascades_by (Some c) e g f = record {
    kinds = mapped_same (λ (x : Made). x.kind) cs k (with_parent spot c) c e refl ∙ g.kinds;
    unplaced = each_set (λ (x : Made). x.first_line ≡ None) cs k (with_parent spot c) g.unplaced (g.unplaced k c e);
    parents = λ j x s h q. each_set (λ (x : Made). (s : Spot) → x.parent ≡ At s → Fits ks s) cs k (with_parent spot c) (λ i y r t p. g.parents i y t r p) (λ t p. one_parent (Fits ks) spot t c.parent f p) j x h s q;
  }

-- one specifier more of a controller
abbrev deeper : ℕ → Ended → Drawn → Drawn
deeper k e d = with_cascaded k e.route.spot (with_noted e d)

good_deeper : (ks : List Sort) (d : Drawn) (k : ℕ) (e : Ended) → Good ks d → Fits ks e.route.spot → Good ks (deeper k e d)
good_deeper ks d k e g f =
    let c = cascades_by ks d.controllers k e.route.spot (slice_get d.controllers k) refl (record { kinds = g.kinds; unplaced = g.unplaced; parents = g.parents }) f in
    record {
      kinds = c.kinds;
      unplaced = c.unplaced;
      routes = g.routes;
      parents = c.parents;
      apart = λ n.
          let p = noted_none d e d.second n in
          let t = both_false _ _ p.1 in
          apart_cascaded d.routes d.controllers k e.route.spot (slice_get d.controllers k) (g.apart p.0) t.0 t.1;
    }

-- a route more
abbrev longer : Ended → Drawn → Drawn
longer e d = record { controllers = d.controllers; routes = d.routes ++ e.route ∷ []; second = noted d e d.second }

good_longer : (ks : List Sort) (d : Drawn) (e : Ended) → Good ks d → Fits ks e.route.spot → Good ks (longer e d)
good_longer ks d e g f = record {
  kinds = g.kinds;
  unplaced = g.unplaced;
  routes = each_push (λ (r : Routed). Fits ks r.spot) d.routes e.route g.routes f;
  parents = g.parents;
  apart = λ n.
      let p = noted_none d e d.second n in
      let t = both_false _ _ p.1 in
      apart_push d.routes d.controllers e.route (g.apart p.0) t.0 t.1;
}

not_full : {X F : Type 0} (t : Bool) (f : F) (x y : X) → ◌≡◌ {A = Result X F} (cond t (Err f) (Ok x)) (Ok y) → x ≡ y
not_full true f x y h = ok_err y f h
not_full false f x y h = ok_same h

good_by : (ks : List Sort) (d e : Drawn) (x : Ended) (o : Option ℕ) → Good ks d → Fits ks x.route.spot → added_by x (with_noted x d) o ≡ Ok e → Good ks e
good_by ks d e x (Some k) g f h = subst (Good ks) (ok_same h) (good_deeper ks d k x g f)
good_by ks d e x None g f h = subst (Good ks) (not_full (length d.routes == 256) _ (longer x d) e h) (good_longer ks d x g f)

pub good_added : (es : List Listed) (ks : List Sort) (d e : Drawn) (s : Specified) → Good ks d → added es d s ≡ Ok e → Good ks e
good_added es ks d e s g h =
    after_by (end_of es d.controllers s) (λ x. added_by x (with_noted x d) (controller_at s.device.place d.controllers)) e
    (λ x t u. good_by ks d e x (controller_at s.device.place d.controllers) g (subst (λ (l : List Sort). Fits l x.route.spot) g.kinds (end_fits es d.controllers s x t)) u) h

good_node : (es : List Listed) (ks : List Sort) (d e : Drawn) (ss : List (Result Specified RouteFault)) → Good ks d → node_drawn es d ss ≡ Ok e → Good ks e
good_node es ks d e [] g h = subst (Good ks) (ok_same h) g
good_node es ks d e (Err f ∷ ss) g h = ok_err e _ h
good_node es ks d e (Ok s ∷ ss) g h = after_by (added es d s) (λ x. node_drawn es x ss) e (λ x t u. good_node es ks x e ss (good_added es ks d x s g t) u) h

pub good_drawn : (es : List Listed) (ks : List Sort) (d e : Drawn) (ns : List Listed) → Good ks d → drawn_from es d ns ≡ Ok e → Good ks e
good_drawn es ks d e [] g h = subst (Good ks) (ok_same h) g
good_drawn es ks d e (broken f ∷ ns) g h = ok_err e _ h
good_drawn es ks d e (listed n ∷ ns) g h = after_by (node_drawn es d (specifiers_of es n)) (λ x. drawn_from es x ns) e (λ x t u. good_drawn es ks x e ns (good_node es ks d x (specifiers_of es n) g t) u) h
