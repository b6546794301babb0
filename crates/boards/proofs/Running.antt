-- The calls of a list, one after another.
use Rattle.std.proofs.Common.{◌≡◌, ℕ, zero, suc, ◌+◌, ◌<◌, List, [], ◌∷◌, ◌++◌, get_or, length, set, take, sym, refl, ap, ◌∙◌, append_assoc}
use Rattle.std.proofs.lemmas.List.{take_more_set}
use Rattle.history.specs.declared.call.Answer.{Answer}
use Rattle.history.specs.declared.call.Call.{Call}
use Rattle.history.specs.declared.call.Event.{Event}
use Rattle.controller.specs.Meaning.{Meaning}
use Rattle.boards.specs.Seats.{Seat}
use Rattle.boards.specs.Devices.{Ran, none, more, Turns, answer_of, calls_in}

-- an event's answer is no part of its call
pub calls_set : (es : List Event) (i : ℕ) (d : Event) (a : Answer) → calls_in (set es i (record { call = (get_or es i d).call; answer = a })) ≡ calls_in es
calls_set [] i d a = refl
calls_set (e ∷ es) zero d a = refl
calls_set (e ∷ es) (suc i) d a = ap (λ (cs : List Call). e.call ∷ cs) (calls_set es i d a)

-- one event more
pub one_more : (h es : List Event) (i : ℕ) (e : Event) → i < length es → (h ++ take i es) ++ (e ∷ []) ≡ h ++ take (i + 1) (set es i e)
one_more h es i e lt = append_assoc h (take i es) (e ∷ []) ∙ ap (λ (t : List Event). h ++ t) (sym (take_more_set es i e lt))

-- an event after those that ran
ran_next : (ds : List Seat) (m n l : Meaning) (es : List Event) (e : Event) → Ran ds m es n → e.answer ≡ answer_of n ds e.call → Turns ds e.call n l → Ran ds m (es ++ (e ∷ [])) l
ran_next ds m n l es e (none k) a t = more k l l e [] a t (none l)
ran_next ds m n l es e (more j k i d fs b u r) a t = more j k l d (fs ++ (e ∷ [])) b u (ran_next ds k i l fs e r a t)

pub ran_more : (ds : List Seat) (m n l : Meaning) (es : List Event) (i : ℕ) (e : Event) → i < length es → Ran ds m (take i es) n → e.answer ≡ answer_of n ds e.call → Turns ds e.call n l
    → Ran ds m (take (i + 1) (set es i e)) l
ran_more ds m n l es i e lt r a t = rw (take_more_set es i e lt) (ran_next ds m n l (take i es) e r a t)
