-- The test keeps_up says exactly whether a device was kept up with.
use Rattle.std.proofs.Common.{◌≡◌, ℕ, Bool, true, cond, List, [], ◌∷◌, ◌++◌, sym, ap, ◌∙◌, arith}
use Rattle.std.proofs.lemmas.Bool.{and_parts, and_from}
use Rattle.search.specs.Exactly.{Exactly}
use Rattle.line.specs.declared.row.Row.{Row}
use Rattle.line.specs.declared.row.Sense.{Sense}
use Rattle.line.specs.Rows.{fresh, rests}
use Rattle.line.specs.Steps.{after}
use Rattle.history.specs.declared.call.Event.{Event}
use Rattle.history.specs.Own.{is_change, step_of, at_most_one, own}
use Rattle.history.specs.Kept.{KeptUp, keeps_from, keeps_up}
use Rattle.history.proofs.Prefixes.{after_++, Along, along}

chosen : (a b : Bool) → cond a b true ≡ true → a ≡ true → b ≡ true
chosen a b t u = grind arith

choose : (a b : Bool) → (a ≡ true → b ≡ true) → cond a b true ≡ true
choose a b f = grind arith

-- where F holds of an event, Q holds of the record just before it
module _ (i : ℕ) (F : Event → Bool) (Q : Row → Bool) where
  pub befores : (r : Row) (h : List Event) → Along (λ x e. F e ≡ true → Q x ≡ true) i r h → (p : List Event) (e : Event) (q : List Event)
      → h ≡ p ++ (e ∷ q) → F e ≡ true → Q (after r (own i p)) ≡ true
  befores r [] t [] e q eq c = absurd cc
  befores r [] t (x ∷ p) e q eq c = absurd cc
  befores r (y ∷ h) t [] e q eq c = let same : e ≡ y = cc in t.0 (ap F (sym same) ∙ c)
  befores r (y ∷ h) t (x ∷ p) e q eq c =
      let same : y ≡ x = cc in
      let rest : h ≡ p ++ (e ∷ q) = cc in
      ap Q (after_++ r (at_most_one (step_of i x)) (own i p) ∙ ap (λ z. after (after r (at_most_one (step_of i z))) (own i p)) (sym same))
      ∙ befores (after r (at_most_one (step_of i y))) h t.1 p e q rest c

abbrev changing : ℕ → Event → Bool
changing i e = is_change i e.call e.answer

abbrev KeptAlong : ℕ → Row → List Event → Type 0
KeptAlong i r h = Along (λ x e. changing i e ≡ true → rests x ≡ true) i r h

tested : (i : ℕ) (r : Row) (h : List Event) → KeptAlong i r h → rests (after r (own i h)) ≡ true → keeps_from i r h ≡ true
tested i r [] k e = e
tested i r (x ∷ h) k e =
    and_from _ _ (choose (changing i x) (rests r) k.0)
    (tested i (after r (at_most_one (step_of i x))) h k.1 (sym (ap rests (after_++ r (at_most_one (step_of i x)) (own i h))) ∙ e))

kept_along : (i : ℕ) (r : Row) (h : List Event) → keeps_from i r h ≡ true → KeptAlong i r h
kept_along i r [] t = tt
kept_along i r (x ∷ h) t =
    let both = and_parts (cond (changing i x) (rests r) true) (keeps_from i (after r (at_most_one (step_of i x))) h) t in
    (chosen (changing i x) (rests r) both.0, kept_along i (after r (at_most_one (step_of i x))) h both.1)

ends : (i : ℕ) (r : Row) (h : List Event) → keeps_from i r h ≡ true → rests (after r (own i h)) ≡ true
ends i r [] t = t
ends i r (x ∷ h) t =
    let both = and_parts (cond (changing i x) (rests r) true) (keeps_from i (after r (at_most_one (step_of i x))) h) t in
    ap rests (after_++ r (at_most_one (step_of i x)) (own i h)) ∙ ends i (after r (at_most_one (step_of i x))) h both.1

pub kept_by_test : (s : Sense) (i : ℕ) (h : List Event) → keeps_up s i h ≡ true → KeptUp s i h
kept_by_test s i h t =
    record { before = befores i (changing i) rests (fresh s) h (kept_along i (fresh s) h t); at_end = ends i (fresh s) h t }

pub test_of_kept : (s : Sense) (i : ℕ) (h : List Event) → KeptUp s i h → keeps_up s i h ≡ true
test_of_kept s i h k = tested i (fresh s) h (along (λ x e. changing i e ≡ true → rests x ≡ true) s i [] h k.before) k.at_end

pub kept_exactly : (s : Sense) (i : ℕ) (h : List Event) (r : Bool) → r ≡ keeps_up s i h → Exactly (r ≡ true) (KeptUp s i h)
kept_exactly s i h r e = record { only = λ t. kept_by_test s i h (sym e ∙ t); every = λ k. e ∙ test_of_kept s i h k }
