-- A clean board, one turn more, and the law of two boards.
use Rattle.std.proofs.Common.{◌≡◌, ℕ, ◌<◌, true, List, [], ◌∷◌, ◌++◌, sym, refl, ap, ◌∙◌, subst, inl, inr, ⊎_elim, arith}
use Rattle.std.proofs.lemmas.Bool.{false≢true}
use Rattle.std.proofs.lemmas.Bool.Decides.{nat_tests}
use Rattle.line.specs.declared.row.Row.{Row}
use Rattle.line.specs.declared.row.Sense.{Sense}
use Rattle.line.specs.Rows.{fresh, waits}
use Rattle.line.specs.Steps.{after}
use Rattle.history.specs.declared.call.Call.{Call}
use Rattle.history.specs.declared.call.Call.TheVariants.{Drive, Mask, Claim, Complete}
use Rattle.history.specs.declared.call.Answer.{Answer}
use Rattle.history.specs.declared.call.Event.{Event}
use Rattle.history.specs.Own.{names, is_claim, step_by, at_most_one, own, stands}
use Rattle.history.specs.Kept.{ClaimsWait}
use Rattle.history.specs.Law.{answered, ClaimedWell, Fair, After, CleanLaw, ExtendLaw, TwoBoardsLaw}
use Rattle.history.proofs.Prefixes.{after_own, last_split}
use Rattle.history.proofs.Counting.{claims_by_changes}

-- whether an answer is fair depends on the records of the n devices only
same_claimed : (n : ℕ) (row row' : ℕ → Row) (a : Answer) → ((i : ℕ) → i < n → row i ≡ row' i) → ClaimedWell n row a → ClaimedWell n row' a
same_claimed n row row' a same w = record {
  names = ⊎_elim inl (λ t. inr (t.0, t.1, t.2, sym (ap waits (same t.0 t.2)) ∙ t.3)) w.names;
  idle = λ q.
      let e = w.idle (λ i lt. ap (λ r. r.service) (same i lt) ∙ q i lt) in
      record {
        only = λ a i lt. sym (ap waits (same i lt)) ∙ e.only a i lt;
        every = λ f. e.every (λ i lt. ap waits (same i lt) ∙ f i lt);
      };
}

pub same_fair : (n : ℕ) (row row' : ℕ → Row) (c : Call) (a : Answer) → ((i : ℕ) → i < n → row i ≡ row' i) → Fair n row c a → Fair n row' c a
same_fair n row row' (Drive i high) a same f = f
same_fair n row row' (Mask i on) a same f = f
same_fair n row row' Claim a same f = same_claimed n row row' a same f
same_fair n row row' (Complete i) a same f =
    (λ lt e. f.0 lt (ap (λ r. r.service) (same i lt) ∙ e), λ lt e. f.1 lt (ap (λ r. r.service) (same i lt) ∙ e), f.2)

pub extend : ExtendLaw
extend n sense row row' h c a was turn = record {
  stand = λ i lt.
      turn.steps i lt ∙ ap (λ r. after r (at_most_one (step_by i c a))) (was.stand i lt) ∙ sym (after_own (fresh (sense i)) i h (answered c a));
  answers = λ p d b q eq. ⊎_elim (here p d b) (λ t. was.answers p d b t.0 t.1) (last_split h (answered c a) p (answered d b) q eq);
}
  where
    here : (p : List Event) (d : Call) (b : Answer) → (p ≡ h) × (answered d b ≡ answered c a) → Fair n (λ i. stands (sense i) i p) d b
    here p d b e =
        let fair : Fair n (λ i. stands (sense i) i h) c a = same_fair n row (λ i. stands (sense i) i h) c a was.stand turn.fair in
        subst (λ (x : Event). Fair n (λ i. stands (sense i) i p) x.call x.answer) (sym e.1)
        (subst (λ (x : List Event). Fair n (λ i. stands (sense i) i x) c a) (sym e.0) fair)

pub clean : CleanLaw
clean n sense row f = record { stand = f; answers = λ p c a q eq. nowhere p c a q eq }
  where
    nowhere : (p : List Event) (c : Call) (a : Answer) (q : List Event) → [] ≡ p ++ (answered c a ∷ q) → Fair n (λ i. stands (sense i) i p) c a
    nowhere [] c a q eq = absurd cc
    nowhere (e ∷ p) c a q eq = absurd cc

-- a fair claim that names a device finds it waiting
named_waits : (n : ℕ) (row : ℕ → Row) (i : ℕ) (a : Answer) → ClaimedWell n row a → names i a ≡ true → waits (row i) ≡ true
named_waits n row i a w t = grind (arith, nat_tests)

-- on every board each claim finds the named device waiting
pub claims_wait : (n : ℕ) (sense : ℕ → Sense) (row : ℕ → Row) (h : List Event) → After n sense row h → (i : ℕ) → ClaimsWait (sense i) i h
claims_wait n sense row h was i p e q eq t = by_call e.call e.answer refl eq t
  where
    by_call : (c : Call) (a : Answer) → e ≡ answered c a → h ≡ p ++ (e ∷ q) → is_claim i c a ≡ true → waits (stands (sense i) i p) ≡ true
    by_call (Drive j high) a same k u = absurd (false≢true u)
    by_call (Mask j on) a same k u = absurd (false≢true u)
    by_call (Complete j) a same k u = absurd (false≢true u)
    by_call Claim a same k u =
        named_waits n (λ i. stands (sense i) i p) i a (was.answers p Claim a q (k ∙ ap (λ x. p ++ (x ∷ q)) same)) u

pub two_boards : TwoBoardsLaw
two_boards n sense row h n' sense' row' h' old new = record {
  old = old;
  new = new;
  alike = λ i j lt lt' s e. old.stand i lt ∙ ap (λ t. after (fresh t) (own i h)) s ∙ ap (after (fresh (sense' j))) e ∙ sym (new.stand j lt');
  counts = λ i j lt lt' s s' same k k'.
      claims_by_changes i h j h' same
      (subst (λ (t : Sense). ClaimsWait t i h) s (claims_wait n sense row h old i))
      (subst (λ (t : Sense). ClaimsWait t j h') s' (claims_wait n' sense' row' h' new j)) k k';
}
