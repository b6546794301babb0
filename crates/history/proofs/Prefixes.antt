-- The prefixes of a list of events, and what the own steps of a device make of them.
use Rattle.std.proofs.Common.{◌≡◌, ℕ, Bool, true, false, ◌&&◌, eqb, ◌⊎◌, List, [], ◌∷◌, ◌++◌, sym, refl, ap, ◌∙◌, subst, inl, inr, ⊎_elim, append_assoc, arith}
use Rattle.std.proofs.lemmas.Grind.{common_steps}
use Rattle.line.specs.declared.row.Row.{Row}
use Rattle.line.specs.declared.row.Sense.{Sense}
use Rattle.line.specs.declared.row.Step.{Step}
use Rattle.line.specs.declared.row.Step.TheVariants.{Drive as Driven, Mask as Masked, Sense as Sensed, Claim as Claimed, Complete as Completed, Reset}
use Rattle.line.specs.Steps.{driven, masked, claimed, completed, stepped, after}
use Rattle.history.specs.declared.call.Call.{Call}
use Rattle.history.specs.declared.call.Call.TheVariants.{Drive, Mask, Claim, Complete}
use Rattle.history.specs.declared.call.Answer.{Answer}
use Rattle.history.specs.declared.call.Event.{Event}
use Rattle.history.specs.Own.{accepted, names, is_change, is_claim, where_so, step_by, step_of, at_most_one, own, stands}

pub after_++ : (r : Row) (a b : List Step) → after r (a ++ b) ≡ after (after r a) b
after_++ r [] b = refl
after_++ r (s ∷ a) b = after_++ (stepped s r) a b

pub own_++ : (i : ℕ) (h k : List Event) → own i (h ++ k) ≡ own i h ++ own i k
own_++ i [] k = refl
own_++ i (e ∷ h) k =
    ap (λ t. at_most_one (step_of i e) ++ t) (own_++ i h k) ∙ sym (append_assoc (at_most_one (step_of i e)) (own i h) (own i k))

-- one event more
pub after_own : (r : Row) (i : ℕ) (h : List Event) (e : Event) → after r (own i (h ++ (e ∷ []))) ≡ after (after r (own i h)) (at_most_one (step_of i e))
after_own r i h e = grind (arith, common_steps, own_++, after_++)

module _ {X : Type 0} where
  -- with one element more, a place is the last one, or one of the others
  pub last_split : (h : List X) (e : X) (p : List X) (c : X) (q : List X) → h ++ (e ∷ []) ≡ p ++ (c ∷ q)
      → ((p ≡ h) × (c ≡ e)) ⊎ ((r : List X) × (h ≡ p ++ (c ∷ r)))
  last_split [] e [] c q eq = inl (refl, cc)
  last_split [] e (y ∷ []) c q eq = absurd cc
  last_split [] e (y ∷ (z ∷ p)) c q eq = absurd cc
  last_split (x ∷ h) e [] c q eq = let k : x ≡ c = cc in inr (h, cc)
  last_split (x ∷ h) e (y ∷ p) c q eq =
      let k : x ≡ y = cc in
      let t : h ++ (e ∷ []) ≡ p ++ (c ∷ q) = cc in
      ⊎_elim (λ b. inl (let b0 = b.0 in cc, b.1)) (λ b. inr (b.0, let b1 = b.1 in cc)) (last_split h e p c q t)

-- Q holds of the record just before each event, and of that event
abbrev pub Along : (Row → Event → Type 0) → ℕ → Row → List Event → Type 0
Along Q i r [] = Unit {0}
Along Q i r (e ∷ h) = Q r e × Along Q i (after r (at_most_one (step_of i e))) h

pub along : (Q : Row → Event → Type 0) (s : Sense) (i : ℕ) (p h : List Event)
    → ((a : List Event) (e : Event) (b : List Event) → p ++ h ≡ a ++ (e ∷ b) → Q (stands s i a) e) → Along Q i (stands s i p) h
along Q s i p [] f = tt
along Q s i p (e ∷ h) f =
    (f p e h refl, subst (λ (r : Row). Along Q i r h) (after_own _ i p e) (along Q s i (p ++ (e ∷ [])) h (λ a d b eq. f a d b (sym (append_assoc p (e ∷ []) h) ∙ eq))))

-- over the steps of a device: A just before each drive and mask change, C just before each claim
abbrev pub Met : (Row → Type 0) → (Row → Type 0) → Row → List Step → Type 0
Met A C r [] = Unit {0}
Met A C r (Driven high ∷ ss) = A r × Met A C (driven high r) ss
Met A C r (Masked on ∷ ss) = A r × Met A C (masked on r) ss
Met A C r (Sensed s ∷ ss) = ⊥
Met A C r (Claimed ∷ ss) = C r × Met A C (claimed r) ss
Met A C r (Completed ∷ ss) = Met A C (completed r) ss
Met A C r (Reset ∷ ss) = ⊥

module _ (A C : Row → Type 0) (i : ℕ) where
  abbrev pub Both : Row → Event → Type 0
  Both r e = (is_change i e.call e.answer ≡ true → A r) × (is_claim i e.call e.answer ≡ true → C r)

  on_drive : (b high : Bool) (r : Row) (t : List Step) → (b ≡ true → A r) → Met A C (after r (at_most_one (where_so b (Driven high)))) t
      → Met A C r (at_most_one (where_so b (Driven high)) ++ t)
  on_drive true high r t f k = (f refl, k)
  on_drive false high r t f k = k

  on_mask : (b on : Bool) (r : Row) (t : List Step) → (b ≡ true → A r) → Met A C (after r (at_most_one (where_so b (Masked on)))) t
      → Met A C r (at_most_one (where_so b (Masked on)) ++ t)
  on_mask true on r t f k = (f refl, k)
  on_mask false on r t f k = k

  on_claim : (b : Bool) (r : Row) (t : List Step) → (b ≡ true → C r) → Met A C (after r (at_most_one (where_so b Claimed))) t
      → Met A C r (at_most_one (where_so b Claimed) ++ t)
  on_claim true r t f k = (f refl, k)
  on_claim false r t f k = k

  on_complete : (b : Bool) (r : Row) (t : List Step) → Met A C (after r (at_most_one (where_so b Completed))) t
      → Met A C r (at_most_one (where_so b Completed) ++ t)
  on_complete true r t k = k
  on_complete false r t k = k

  on_call : (c : Call) (a : Answer) (r : Row) (t : List Step) → (is_change i c a ≡ true → A r) → (is_claim i c a ≡ true → C r)
      → Met A C (after r (at_most_one (step_by i c a))) t → Met A C r (at_most_one (step_by i c a) ++ t)
  on_call (Drive j high) a r t f g k = on_drive (accepted a && eqb i j) high r t f k
  on_call (Mask j on) a r t f g k = on_mask (accepted a && eqb i j) on r t f k
  on_call Claim a r t f g k = on_claim (names i a) r t g k
  on_call (Complete j) a r t f g k = on_complete (accepted a && eqb i j) r t k

  pub by_steps : (r : Row) (h : List Event) → Along Both i r h → Met A C r (own i h)
  by_steps r [] k = tt
  by_steps r (e ∷ h) k =
      on_call e.call e.answer r (own i h) k.0.0 k.0.1 (by_steps (after r (at_most_one (step_of i e))) h k.1)
