-- What `==` says of rows.
use Rattle.std.proofs.Common.{rules, tests, refl, ◌≡◌, Bool, true, false, ◌&&◌}
use Rattle.std.proofs.Math.Bool.{beq}
use Rattle.line.specs.declared.row.Row.{Row}
use Rattle.line.specs.declared.row.Sense.{Sense}
use Rattle.line.specs.contracts.row.RowPartialEq.TheImpl.{eq-value as row_eq}
use Rattle.line.specs.contracts.row.SensePartialEq.TheImpl.{eq-value as sense_eq}
use Rattle.line.specs.Rows.{row}
use Rattle.search.specs.Exactly.{Exactly}

senses : (s t : Sense) → sense_eq.it s t ≡ true → s ≡ t
senses s t e = search (rules, tests)

bits : (a b : Bool) → beq a b ≡ true → a ≡ b
bits true true e = refl
bits true false e = absurd cc
bits false true e = absurd cc
bits false false e = refl

front : (a b : Bool) → (a && b) ≡ true → a ≡ true
front true b e = refl
front false b e = absurd cc

back : (a b : Bool) → (a && b) ≡ true → b ≡ true
back true b e = e
back false b e = absurd cc

-- rows of which no field differs are one row
fields_equal : (s t : Sense) (l l' q q' v v' m m' : Bool)
    → (sense_eq.it s t && (beq l l' && (beq q q' && (beq v v' && beq m m')))) ≡ true → row s l q v m ≡ row t l' q' v' m'
fields_equal s t l l' q q' v v' m m' e =
    let e1 = back _ _ e in let e2 = back _ _ e1 in let e3 = back _ _ e2 in
    let sense = senses s t (front _ _ e) in let level = bits l l' (front _ _ e1) in let request = bits q q' (front _ _ e2) in
    let service = bits v v' (front _ _ e3) in let mask = bits m m' (back _ _ e3) in cc

row_self : (r : Row) → row_eq.it r r ≡ true
row_self r = search (rules, tests)

pub rows_equal : (r q : Row) (so : Bool) → so ≡ row_eq.it r q → Exactly (so ≡ true) (r ≡ q)
rows_equal r q so e = record {
  only = λ t. fields_equal r.sense q.sense r.level q.level r.request q.request r.service q.service r.mask q.mask cc;
  every = λ t. let self = row_self r in cc;
}
