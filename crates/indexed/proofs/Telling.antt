-- A row more tells of one node more.
use Rattle.std.proofs.Common.{◌≡◌, Bool, true, false, cond, eqb, List, [], ◌∷◌, ◌++◌, Some, None, Option, sym, refl, ap, ◌∙◌, arith}
use Rattle.std.specs.Option.{option_or}
use Rattle.std.proofs.lemmas.Bool.Decides.{nat_tests}
use Rattle.std.proofs.lemmas.List.Folds.{find-append}
use Rattle.tree.specs.declared.tree.Tree.{Tree}
use Rattle.indexed.specs.declared.starts.Starts.{Starts}
use Rattle.indexed.specs.Starts.{Told, far_with, needs_at, needs_by}

-- the row found is the one that was added, or one of those before
pub told_more : (t : Tree) (s : Starts) (ss : List Starts) → needs_by t s ≡ needs_at t s.body → Told t ss → Told t (ss ++ s ∷ [])
told_more t s ss same told i r q =
    go (far_with i ss) refl (eqb s.body i) refl (sym (find-append (λ (x : Starts). eqb x.body i) ss (s ∷ [])) ∙ q)
  where
    go : (o : Option Starts) → far_with i ss ≡ o → (b : Bool) → eqb s.body i ≡ b → option_or o (cond b (Some s) None) ≡ Some r
        → needs_by t r ≡ needs_at t i
    go (Some x) e b f q = told i r (e ∙ q)
    go None e true f q =
        let here : s.body ≡ i = grind (arith, nat_tests) in
        let this : s ≡ r = cc in
        ap (needs_by t) (sym this) ∙ same ∙ ap (needs_at t) here
    go None e false f q = cc
