-- What a reset makes of a parent and a child.
use Rattle.std.proofs.Common.{◌≡◌, ℕ, ◌+◌, ◌<◌, ◌≤◌, false, List, [], ◌∷◌, ◌++◌, length, set, Some, None, Option, Result, sym, refl, ap, ◌∙◌, arith}
use Rattle.std.proofs.lemmas.Grind.{common_steps}
use Rattle.std.proofs.lemmas.Bool.Decides.{nat_tests}
use Rattle.std.proofs.lemmas.List.{length-set, get_or-map, map-set, map-append, get_or-set_same, set-set}
use Rattle.std.specs.Result.{is_err}
use Rattle.line.specs.declared.row.Row.{Row}
use Rattle.line.specs.declared.row.Sense.TheVariants.{Following}
use Rattle.line.specs.declared.row.Step.TheVariants.{Reset}
use Rattle.line.specs.Steps.{reset, sensed, masked}
use Rattle.controller.specs.declared.call.CallFault.{CallFault}
use Rattle.controller.specs.declared.call.Change.{Change}
use Rattle.controller.specs.declared.call.Change.TheVariants.{Mask, Sense}
use Rattle.controller.specs.Calls.{guard, outcome, step_of}
use Rattle.controller.specs.Meaning.{Meaning, Changed, at, moved, all_reset}
use Rattle.controller.proofs.Resets.{reset_again}
use Rattle.cascade.specs.declared.fault.CascadeFault.{CascadeFault}
use Rattle.cascade.specs.Pairs.{pair_lines, pair, used, busy, Linked, Tied, Bound, Settled}
use Rattle.cascade.specs.Questions.{question_of, made_lines, wired_by, made_wired}
use Rattle.cascade.specs.Places.{within}
use Rattle.cascade.proofs.Serving.{accepted_at}

unused_reset : (x : Option Row) → used (moved Reset x) ≡ 0
unused_reset x = grind arith

busy_reset : (ls : List (Option Row)) → busy (all_reset ls) ≡ 0
busy_reset [] = refl
busy_reset (x ∷ xs) = omega (arith, unused_reset x, busy_reset xs)

-- the record of an open line after a change that it takes
taken_at : {X : Type 0} (ch : Change) (k : ℕ) (p p' : Meaning) (row : Row) (r : Result X CallFault) → at p.lines k ≡ Some row → guard ch row ≡ None → Changed ch k p p' r → p'.lines ≡ set p.lines k (moved (step_of ch) (Some row))
taken_at ch k p p' row r s ok a = accepted_at ch k p p' row r s ok a ∙ ap (λ (y : Option Row). set p.lines k (moved (step_of ch) y)) s

-- the parent p, reset, with k following and unmasked
pub record Restarted (p p₃ c : Meaning) (k : ℕ) : Type 0 where
  pub link : Linked p₃ c k
  pub others : set p₃.lines k None ≡ set (all_reset p.lines) k None

restarts_at : {X Y : Type 0} (p p₂ p₃ c : Meaning) (row : Row) (k : ℕ) (r : Result X CallFault) (s : Result Y CallFault) → at p.lines k ≡ Some row → length p.lines + length c.lines ≤ 256 → p.lines ≡ all_reset p.lines → c.lines ≡ all_reset c.lines → Changed (Sense Following) k p p₂ r → Changed (Mask false) k p₂ p₃ s → Restarted p p₃ c k
restarts_at p p₂ p₃ c row k r s slot room ep ec x y =
    let h : k < length p.lines = within p.lines k row slot in
    let r₁ : Row = reset row in
    let r₂ : Row = sensed Following r₁ in
    let r₃ : Row = masked false r₂ in
    let a₁ : at p.lines k ≡ Some r₁ = ap (λ (ls : List (Option Row)). at ls k) ep ∙ get_or-map (moved Reset) p.lines k None None h ∙ ap (moved Reset) slot in
    let e₂ : p₂.lines ≡ set p.lines k (Some r₂) = taken_at (Sense Following) k p p₂ r₁ r a₁ refl x in
    let n₂ : length p₂.lines ≡ length p.lines = ap (length {A = Option Row}) e₂ ∙ length-set p.lines k (Some r₂) in
    let a₂ : at p₂.lines k ≡ Some r₂ = ap (λ (ls : List (Option Row)). at ls k) e₂ ∙ get_or-set_same p.lines k (Some r₂) None h in
    let e₃ : p₃.lines ≡ set p₂.lines k (Some r₃) = taken_at (Mask false) k p₂ p₃ r₂ s a₂ refl y in
    let n₃ : length p₃.lines ≡ length p₂.lines = ap (length {A = Option Row}) e₃ ∙ length-set p₂.lines k (Some r₃) in
    let a₃ : at p₃.lines k ≡ Some r₃ = ap (λ (ls : List (Option Row)). at ls k) e₃ ∙ get_or-set_same p₂.lines k (Some r₃) None (omega arith) in
    record {
      link = record {
        row = r₃;
        slot = a₃;
        follows = refl;
        unmasked = refl;
        service = ap busy ec ∙ busy_reset c.lines;
        room = omega (arith, n₂, n₃, room);
      };
      others = ap (λ (ls : List (Option Row)). set ls k None) e₃ ∙ set-set p₂.lines k (Some r₃) None
          ∙ ap (λ (ls : List (Option Row)). set ls k None) e₂ ∙ set-set p.lines k (Some r₂) None
          ∙ ap (λ (ls : List (Option Row)). set ls k None) ep;
    }

-- the lines of a pair whose parts were reset
pair_reset : (ps cs : List (Option Row)) (k : ℕ) → pair_lines k (all_reset ps) (all_reset cs) ≡ all_reset (pair_lines k ps cs)
pair_reset ps cs k = grind (arith, map-set, map-append)

-- a question whose answer is no error has no refusal
pub no_refusal : (r : Result (Unit {0}) CascadeFault) (u : Option CascadeFault) → r ≡ outcome u → false ≡ is_err r → u ≡ None
no_refusal r u e n = grind arith

-- where the question has no refusal, k is open and there is room
allowed_at : (ps cs : List (Option Row)) (k : ℕ) → question_of ps cs k ≡ None → (r : Row) × (at ps k ≡ Some r) × (length ps + length cs ≤ 256)
allowed_at ps cs k e = grind (arith, nat_tests)

-- a parent p and a child c as resets leave them, k made following and unmasked, then driven
module _ (p p₂ p₃ p₄ c : Meaning) (k : ℕ) (ep : p.lines ≡ all_reset p.lines) (ec : c.lines ≡ all_reset c.lines) where
  pub rest_link : {X Y : Type 0} (r : Result X CallFault) (s : Result Y CallFault) → question_of p.lines c.lines k ≡ None → Changed (Sense Following) k p p₂ r → Changed (Mask false) k p₂ p₃ s → Restarted p p₃ c k
  rest_link r s u x y = let j = allowed_at p.lines c.lines k u in restarts_at p p₂ p₃ c j.0 k r s j.1 j.2 ep ec x y

  pub rest_lines : Restarted p p₃ c k → Settled p₃ p₄ c k → pair_lines k p₄.lines c.lines ≡ all_reset (pair_lines k p.lines c.lines)
  rest_lines d s =
      ap (λ (ls : List (Option Row)). ls ++ c.lines) (s.others ∙ d.others)
      ∙ ap (λ (ls : List (Option Row)). pair_lines k (all_reset p.lines) ls) ec
      ∙ pair_reset p.lines c.lines k

  pub rest_rests : Restarted p p₃ c k → Settled p₃ p₄ c k → pair_lines k p₄.lines c.lines ≡ all_reset (pair_lines k p₄.lines c.lines)
  rest_rests d s =
      let e = rest_lines d s in
      e ∙ sym (reset_again (pair_lines k p.lines c.lines)) ∙ ap all_reset (sym e)

-- the question is answered alike before and after a reset
question_reset : (ps ps₁ cs cs₁ : List (Option Row)) (k : ℕ) → ps₁ ≡ all_reset ps → cs₁ ≡ all_reset cs → question_of ps₁ cs₁ k ≡ question_of ps cs k
question_reset ps ps₁ cs cs₁ k ep ec = grind (arith, common_steps, nat_tests)

pub made_paired : (ps ps₁ cs cs₁ : List (Option Row)) (k : ℕ) (ls : List (Option Row)) → ps₁ ≡ all_reset ps → cs₁ ≡ all_reset cs → question_of ps₁ cs₁ k ≡ None → ls ≡ all_reset (pair_lines k ps₁ cs₁) → ls ≡ made_lines ps cs (Some k)
made_paired ps ps₁ cs cs₁ k ls ep ec u e =
    let q = question_reset ps ps₁ cs cs₁ k ep ec in
    let r = pair_reset ps cs k in
    let a = reset_again (pair_lines k ps cs) in
    cc

pub wired_as : (ps ps₁ cs cs₁ : List (Option Row)) (k : ℕ) (u : Option CascadeFault) → ps₁ ≡ all_reset ps → cs₁ ≡ all_reset cs → question_of ps₁ cs₁ k ≡ u → wired_by k u ≡ made_wired ps cs (Some k)
wired_as ps ps₁ cs cs₁ k u ep ec q = let r = question_reset ps ps₁ cs cs₁ k ep ec in cc

-- a pair that is tied is allowed
pub still : (p c : Meaning) (k : ℕ) → Tied p c k → question_of p.lines c.lines k ≡ None
still p c k t = grind (arith, common_steps, nat_tests)

pub made_again : (p c : Meaning) (o : Option ℕ) → Bound p c o → made_lines p.lines c.lines o ≡ all_reset (pair p c o).lines
made_again p c o b = grind (arith, still)
