-- A parent and a child cascaded at the parent's line k: what the pair means, and the tie.
use Rattle.std.specs.Prelude.{◌≡◌, ℕ, ◌+◌, ◌≤◌, true, false, cond, List, [], ◌∷◌, ◌++◌, length, is_some, Some, None, Option, ◌==◌, slice_set}
use Rattle.std.specs.Option.{option_map}
use Rattle.line.specs.declared.row.Row.{Row}
use Rattle.line.specs.declared.row.Sense.TheVariants.{Following}
use Rattle.line.specs.declared.row.Step.TheVariants as step
use Rattle.controller.specs.declared.call.Change.{Change}
use Rattle.controller.specs.declared.call.Change.TheVariants.{Drive, Mask, Sense, Complete}
use Rattle.controller.specs.Meaning.{Meaning, at, step_at}

-- the pair's offer from the parent's and the child's: the parent's, unless that is k; then the child's, plus the
-- parent's width w
abbrev pub pair_offer : ℕ → ℕ → Option ℕ → Option ℕ → Option ℕ
pair_offer k w None c = None
pair_offer k w (Some i) c = cond (i == k) (option_map (λ d. w + d) c) (Some i)

-- the pair's lines: the parent's, of which k is wired, then the child's
abbrev pub pair_lines : ℕ → List (Option Row) → List (Option Row) → List (Option Row)
pair_lines k ps cs = slice_set ps k None ++ cs

abbrev pub cascaded : Meaning → Meaning → ℕ → Meaning
cascaded p c k = record { lines = pair_lines k p.lines c.lines; offer = pair_offer k (length p.lines) p.offer c.offer }

-- what a parent and a child mean with a wired line; the parent alone where none is wired
abbrev pub pair : Meaning → Meaning → Option ℕ → Meaning
pair p c None = p
pair p c (Some k) = cascaded p c k

-- 1 for a line in service, else 0
abbrev pub used : Option Row → ℕ
used None = 0
used (Some r) = cond r.service 1 0

-- how many open lines are in service
abbrev pub busy : List (Option Row) → ℕ
busy [] = 0
busy (x ∷ xs) = used x + busy xs

-- the tie but for the level of k: k is open at the parent, following and unmasked; it is in service exactly while one
-- line of the child is, and otherwise none is; the two have at most 256 lines
pub record Linked (p c : Meaning) (k : ℕ) : Type 0 where
  pub row : Row
  pub slot : at p.lines k ≡ Some row
  pub follows : row.sense ≡ Following
  pub unmasked : row.mask ≡ false
  pub service : busy c.lines ≡ used (Some row)
  pub room : length p.lines + length c.lines ≤ 256

-- the tie: k is high exactly while the child has an offer
pub record Tied (p c : Meaning) (k : ℕ) : Type 0 where
  pub link : Linked p c k
  pub level : link.row.level ≡ is_some c.offer

-- the tie where a line is wired
abbrev pub Bound : Meaning → Meaning → Option ℕ → Type 0
Bound p c None = Unit {0}
Bound p c (Some k) = Tied p c k

-- k was driven to whether the child has an offer; the parent may differ at k only
pub record Settled (p p' c : Meaning) (k : ℕ) : Type 0 where
  pub tied : Tied p' c k
  pub sized : length p'.lines ≡ length p.lines
  pub others : slice_set p'.lines k None ≡ slice_set p.lines k None

-- what a change of the child's does at k, before k is driven: a completion completes k if it is in service
abbrev pub Released : Change → ℕ → Meaning → Meaning → Type 0
Released (Drive high) k p p' = p' ≡ p
Released (Mask on) k p p' = p' ≡ p
Released (Sense s) k p p' = p' ≡ p
Released Complete k p p' = (r : Row) → at p.lines k ≡ Some r → r.service ≡ true → p'.lines ≡ step_at step.Complete p.lines k
