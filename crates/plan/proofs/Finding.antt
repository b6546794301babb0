-- The controllers found so far, and those that are still to come.
use Rattle.std.proofs.Common.{◌≡◌, ℕ, ◌+◌, Bool, true, false, List, [], ◌∷◌, ◌++◌, length, Some, Ok, Err, Result, refl, sym, ap, append_assoc, length-append, arith}
use Rattle.std.specs.Prelude.{cond, ◌||◌, ◌==◌}
use Rattle.std.proofs.lemmas.Bool.Decides.{nat_tests}
use Rattle.fdt.specs.Tokens.{after}
use Rattle.board_faults.specs.declared.BoardFault.{BoardFault}
use Rattle.board_faults.specs.declared.BoardFault.TheVariants as fault
use Rattle.plan.specs.Controllers.{Made, finish, onto, one_to_four}

-- what is made of those before, where these are still to come
abbrev pub finished : Bool → List Made → Result (List Made) BoardFault → Result (List Made) BoardFault
finished more seen r = after r (finish more seen)

too_many : (cs : List Made) (n : ℕ) → length cs ≡ 5 + n → one_to_four cs ≡ Err fault.Controllers
too_many cs n e = grind (arith, nat_tests)

-- those before, with one more
abbrev pub kept : Bool → List Made → Made → List Made
kept full seen c = cond full seen (seen ++ c ∷ [])

one_by : (full more : Bool) (seen : List Made) (c : Made) (r : Result (List Made) BoardFault) → (full ≡ true → length seen ≡ 4)
    → finished (full || more) (kept full seen c) r ≡ finished more seen (onto (Some c) r)
one_by true true seen c (Ok cs) h = refl
one_by true false seen c (Ok cs) h = sym (too_many (seen ++ c ∷ cs) (length cs) (let l = length-append seen (c ∷ cs) in let e : length seen ≡ 4 = h refl in omega arith))
one_by false true seen c (Ok cs) h = refl
one_by false false seen c (Ok cs) h = ap one_to_four (append_assoc seen (c ∷ []) cs)
one_by true more seen c (Err f) h = refl
one_by false more seen c (Err f) h = refl

pub one_added : (more : Bool) (seen : List Made) (c : Made) (r : Result (List Made) BoardFault)
    → finished (length seen == 4 || more) (kept (length seen == 4) seen c) r ≡ finished more seen (onto (Some c) r)
one_added more seen c r = one_by (length seen == 4) more seen c r (λ e. grind (arith, nat_tests))
