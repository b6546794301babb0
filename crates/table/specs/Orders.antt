-- Lemmas that every order of offering needs: that lines are records, the search for a line, and the laws.
use Rattle.std.proofs.Common.{◌≡◌, ℕ, zero, suc, ◌<◌, ◌≤◌, Bool, true, false, List, [], ◌∷◌, length, map, take, is_some, Some, None, Option, refl, ap, ◌∙◌, ⊎_elim, arith}
use Rattle.std.proofs.lemmas.List.{get_or_past}
use Rattle.std.proofs.lemmas.Bool.{cases_lt}
use Rattle.search.specs.Exactly.{Exactly}
use Rattle.line.specs.declared.row.Row.{Row}
use Rattle.line.specs.Rows.{Legal, made, waits}
use Rattle.line.specs.Made.{made_legal}
use Rattle.controller.specs.Meaning.{Lawful, at}
use Rattle.table.specs.declared.rows.Table.{Table}
use Rattle.table.specs.Tables.{made_line, table_lines}
use Rattle.table.specs.Kinds.{OfferedBy, meaning_by, ready, serving}

pub nothing : {A : Type 0} → ◌≡◌ {A = ℕ} 0 1 → A
nothing z = absurd (let f : ⊥ = omega arith in f)

pub lines_legal : (xs : List Row) (i : ℕ) (r : Row) → at (map made_line xs) i ≡ Some r → Legal r
lines_legal [] i r e = absurd cc
lines_legal (x ∷ xs) zero r e = let q : made x ≡ r = cc in rw (← q) (made_legal x)
lines_legal (x ∷ xs) (suc i) r e = lines_legal xs i r e

pub ready_waits : (x : Option Row) → ready x ≡ true → (r : Row) × (x ≡ Some r) × (waits r ≡ true)
ready_waits None e = absurd cc
ready_waits (Some r) e = (r, refl, e)

pub waits_ready : (x : Option Row) (r : Row) → x ≡ Some r → waits r ≡ true → ready x ≡ true
waits_ready x r e w = ap ready e ∙ w

pub serving_serves : (x : Option Row) → serving x ≡ true → (r : Row) × (x ≡ Some r) × (r.service ≡ true)
serving_serves None e = absurd cc
serving_serves (Some r) e = (r, refl, e)

pub serves_serving : (x : Option Row) (r : Row) → x ≡ Some r → r.service ≡ true → serving x ≡ true
serves_serving x r e w = ap serving e ∙ w

-- a test that a line passes only if it is there
pub there : (test : Option Row → Bool) → test None ≡ false → (ls : List (Option Row)) (i : ℕ) → test (at ls i) ≡ true → i < length ls
there test n ls i e =
    ⊎_elim (λ (h : i < length ls). h)
    (λ (h : length ls ≤ i).
    let p : test (at ls i) ≡ test None = ap test (get_or_past ls i None h) in
    absurd cc)
    (cases_lt i (length ls))

module _ (offered : List (Option Row) → Option ℕ) where
  -- the laws, of an order that offers only lines that wait, and some line if any waits and none is in service
  pub lawful_by : (t : Table) → ((i : ℕ) → offered (table_lines t) ≡ Some i → ready (at (table_lines t) i) ≡ true)
      → (((i : ℕ) → serving (at (table_lines t) i) ≡ false) → (i : ℕ) → ready (at (table_lines t) i) ≡ true → is_some (offered (table_lines t)) ≡ true)
      → Lawful (meaning_by offered (table_lines t))
  lawful_by t wait eager =
      let ls = table_lines t in
      record {
        legal = lines_legal (take t.wide t.rows);
        waiting = λ i e. ready_waits (at ls i) (wait i e);
        eager = λ idle i w. eager (λ k. unserved (at ls k) (λ r e. idle k r e)) i (waits_ready (at ls i) w.0 w.1 w.2);
      }
    where
      unserved : (x : Option Row) → ((r : Row) → x ≡ Some r → r.service ≡ false) → serving x ≡ false
      unserved None h = refl
      unserved (Some r) h = h r refl

-- an order that offers exactly the lines of which P holds offers none exactly if it holds of none
pub offered_by : (P : ℕ → Type 0) (r : Option ℕ) → ((i : ℕ) → Exactly (r ≡ Some i) (P i)) → OfferedBy P r
offered_by P r both =
    record {
      line = both;
      none = record {
        only = λ e i p. let q : r ≡ Some i = (both i).every p in absurd cc;
        every = λ n. nowhere r (λ i e. n i ((both i).only e));
      };
    }
  where
    nowhere : (o : Option ℕ) → ((i : ℕ) → o ≡ Some i → ⊥) → o ≡ None
    nowhere None h = refl
    nowhere (Some i) h = absurd (h i refl)
