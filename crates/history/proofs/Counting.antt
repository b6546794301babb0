-- The claims of an edge device that is kept up with, each claim finding it waiting, follow from its changes.
use Rattle.std.proofs.Common.{◌≡◌, ℕ, ◌+◌, Bool, true, false, cond, not, ◌&&◌, ◌||◌, List, [], ◌∷◌, ◌++◌, count_by, sym, refl, ap, ◌∙◌, arith}
use Rattle.std.proofs.lemmas.Bool.{false≢true}
use Rattle.std.proofs.lemmas.List.Recursion.{is_count_by}
use Rattle.line.specs.declared.row.Row.{Row}
use Rattle.line.specs.declared.row.Sense.TheVariants.{Edge}
use Rattle.line.specs.declared.row.Step.{Step}
use Rattle.line.specs.declared.row.Step.TheVariants.{Drive as Driven, Mask as Masked, Sense as Sensed, Claim as Claimed, Complete as Completed, Reset}
use Rattle.line.specs.Rows.{row, fresh, rests, waits}
use Rattle.line.specs.Steps.{drive_request, after}
use Rattle.history.specs.declared.call.Call.{Call}
use Rattle.history.specs.declared.call.Answer.{Answer}
use Rattle.history.specs.declared.call.Event.{Event}
use Rattle.history.specs.Own.{is_claim, step_by, at_most_one, own, changes_in, changes, one, claims}
use Rattle.history.specs.Kept.{KeptUp, ClaimsWait}
use Rattle.history.specs.Law.{Counted}
use Rattle.history.proofs.Prefixes.{along, Met, by_steps}

-- a step that is a claim counts one
abbrev claim_step : Step → ℕ
claim_step (Driven high) = 0
claim_step (Masked on) = 0
claim_step (Sensed s) = 0
claim_step Claimed = 1
claim_step Completed = 0
claim_step Reset = 0

abbrev claim_steps : List Step → ℕ
claim_steps [] = 0
claim_steps (s ∷ ss) = claim_step s + claim_steps ss

-- the claims are counted by the test of an event
counts : (b : Bool) (n : ℕ) → one b + n ≡ cond b (1 + n) n
counts true n = refl
counts false n = omega arith

pub claims_count : (i : ℕ) (h : List Event) → claims i h ≡ count_by (λ e. is_claim i e.call e.answer) h
claims_count i h = is_count_by (claims i) (λ e. is_claim i e.call e.answer) refl (λ e t. counts _ _) h

in_call : (i : ℕ) (c : Call) (a : Answer) (t : List Step) → claim_steps (at_most_one (step_by i c a) ++ t) ≡ one (is_claim i c a) + claim_steps t
in_call i c a t = grind arith

claims_own : (i : ℕ) (h : List Event) → claims i h ≡ claim_steps (own i h)
claims_own i [] = refl
claims_own i (e ∷ h) = let rest = claims_own i h in let first = in_call i e.call e.answer (own i h) in omega arith

abbrev Rests : Row → Type 0
Rests r = rests r ≡ true

abbrev Waits : Row → Type 0
Waits r = waits r ≡ true

-- an unmasked request is due to be claimed before the next change
abbrev due : Bool → Bool → ℕ
due q m = one (q && not m)

-- the claims of an edge line that stands so and is kept up with over these changes
abbrev owed : Bool → Bool → Bool → List Step → ℕ
owed l q m [] = due q m
owed l q m (Driven high ∷ cs) = due q m + owed high (drive_request Edge l high false (q && m)) m cs
owed l q m (Masked on ∷ cs) = due q m + owed l (q && m) on cs
owed l q m (Sensed s ∷ cs) = due q m
owed l q m (Claimed ∷ cs) = due q m
owed l q m (Completed ∷ cs) = due q m
owed l q m (Reset ∷ cs) = due q m

rests_due : (q v m : Bool) → (m || (not q && not v)) ≡ true → due q m ≡ 0
rests_due q v m t = grind arith

rests_keeps : (q v m : Bool) → (m || (not q && not v)) ≡ true → q ≡ (q && m)
rests_keeps q v m t = grind arith

rests_idle : (q v m : Bool) → (m || (not q && not v)) ≡ true → (m ≡ true → v ≡ false) → v ≡ false
rests_idle q v m t k = grind arith

edge_drive : (l high v q : Bool) → drive_request Edge l high v q ≡ drive_request Edge l high false q
edge_drive l high v q = grind arith

owed_one : (l : Bool) (cs : List Step) → owed l true false cs ≡ 1 + owed l false false cs
owed_one l [] = refl
owed_one l (Driven high ∷ cs) = omega arith
owed_one l (Masked on ∷ cs) = omega arith
owed_one l (Sensed s ∷ cs) = refl
owed_one l (Claimed ∷ cs) = refl
owed_one l (Completed ∷ cs) = refl
owed_one l (Reset ∷ cs) = refl

-- a masked line that is kept up with is not in service
count : (l q v m : Bool) (ss : List Step) → (m ≡ true → v ≡ false) → Met Rests Waits (row Edge l q v m) ss
    → Rests (after (row Edge l q v m) ss) → claim_steps ss ≡ owed l q m (changes_in ss)
count l q v m [] k w e = sym (rests_due q v m e)
count l q v m (Driven high ∷ ss) k w e =
    let ih = count high (drive_request Edge l high v q) v m ss k w.1 e in
    let d = rests_due q v m w.0 in
    let p : drive_request Edge l high v q ≡ drive_request Edge l high false (q && m) =
    edge_drive l high v q ∙ ap (drive_request Edge l high false) (rests_keeps q v m w.0) in
    let x = ap (λ z. owed high z m (changes_in ss)) p in
    omega (arith, ih, d, x)
count l q v m (Masked on ∷ ss) k w e =
    let ih = count l q v on ss (λ _. rests_idle q v m w.0 k) w.1 e in
    let d = rests_due q v m w.0 in
    let x = ap (λ z. owed l z on (changes_in ss)) (rests_keeps q v m w.0) in
    omega (arith, ih, d, x)
count l q v m (Sensed s ∷ ss) k w e = absurd w
count l true false false (Claimed ∷ ss) k w e =
    let ih = count l false true false ss (λ t. absurd (false≢true t)) w.1 e in
    let x = owed_one l (changes_in ss) in
    omega (arith, ih, x)
count l true false true (Claimed ∷ ss) k w e = absurd (false≢true w.0)
count l true true m (Claimed ∷ ss) k w e = absurd (false≢true w.0)
count l false v m (Claimed ∷ ss) k w e = absurd (false≢true w.0)
count l q v m (Completed ∷ ss) k w e = let ih = count l q false m ss (λ _. refl) w e in omega (arith, ih)
count l q v m (Reset ∷ ss) k w e = absurd w

counted : (i : ℕ) (h : List Event) → ClaimsWait Edge i h → KeptUp Edge i h → claims i h ≡ owed false false true (changes i h)
counted i h w k =
    claims_own i h
    ∙ count false false false true (own i h) (λ _. refl)
    (by_steps Rests Waits i (fresh Edge) h (along _ Edge i [] h (λ a e b eq. (k.before a e b eq, w a e b eq)))) k.at_end

-- equal changes give equal claims
pub claims_by_changes : (i : ℕ) (h : List Event) → Counted Edge i h (claims i h)
claims_by_changes i h j k same wi wj ki kj = counted i h wi ki ∙ ap (owed false false true) same ∙ sym (counted j k wj kj)

-- and equal counts of the test
pub counts_by_changes : (i : ℕ) (h : List Event) (j : ℕ) (k : List Event) → changes i h ≡ changes j k → ClaimsWait Edge i h → ClaimsWait Edge j k → KeptUp Edge i h → KeptUp Edge j k
    → count_by (λ e. is_claim i e.call e.answer) h ≡ claims j k
counts_by_changes i h j k same wi wj ki kj = sym (claims_count i h) ∙ claims_by_changes i h j k same wi wj ki kj
