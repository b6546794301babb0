-- What a PLIC offers.
use Rattle.std.specs.Prelude.{◌≡◌, ℕ, ◌+◌, ◌<◌, Bool, true, false, cond, ◌⊎◌, List, [], ◌∷◌, map, drop, replicate, Some, None, Option, ◌≢◌, nat_lt, slice_index, slice_index_or}
use Rattle.line.specs.declared.row.Row.{Row}
use Rattle.line.specs.declared.row.Sense.TheVariants.{Gated}
use Rattle.line.specs.Rows.{fresh}
use Rattle.controller.specs.Meaning.{Meaning, Waits}
use Rattle.table.specs.Tables.{table_lines}
use Rattle.table.specs.Kinds.{meaning_by, ready}
use Rattle.table.specs.declared.one_to.OneTo.{OneTo}
use Rattle.table.specs.declared.over.OverTable.{OverTable}
use Rattle.plic.specs.declared.chip.ByPriority.{ByPriority}

-- the lines of a new PLIC, of a width from 1 to 64
abbrev pub new_lines : OneTo 64 → List (Option Row)
new_lines w = replicate w.number (Some (fresh Gated))

-- the priority of line i
abbrev pub level_of : ByPriority → ℕ → ℕ
level_of x i = slice_index x.levels i

-- the priority of line i that a list gives: the one at i, or 1 past its end
abbrev pub given_level : List (OneTo 7) → ℕ → ℕ
given_level ps i = slice_index_or (map (λ p. p.number) ps) i 1

-- line n, which waits or not, or the best line above it
abbrev pub preferred : (ℕ → ℕ) → ℕ → Bool → Option ℕ → Option ℕ
preferred level n false above = above
preferred level n true None = Some n
preferred level n true (Some j) = cond (nat_lt (level n) (level j)) (Some j) (Some n)

-- the best line of these, of which the first has the number n
abbrev pub top : (ℕ → ℕ) → ℕ → List (Option Row) → Option ℕ
top level n [] = None
top level n (x ∷ xs) = preferred level n (ready x) (top level (n + 1) xs)

-- the best line from n on
abbrev pub top_from : (ℕ → ℕ) → ℕ → List (Option Row) → Option ℕ
top_from level n ls = top level n (drop n ls)

-- the waiting line of greatest priority, among equals the lowest-numbered
abbrev pub plic_offer : (ℕ → ℕ) → List (Option Row) → Option ℕ
plic_offer level ls = top level 0 ls

abbrev pub plic_meaning : OverTable ByPriority → Meaning
plic_meaning x = meaning_by (plic_offer (level_of x.order)) (table_lines x.table)

-- line i waits, and every other waiting line has a smaller priority, or the same one and a higher number
pub record Foremost (level : ℕ → ℕ) (ls : List (Option Row)) (i : ℕ) : Type 0 where
  pub waiting : Waits ls i
  pub others : (j : ℕ) → Waits ls j → (j ≢ i) → (level j < level i) ⊎ ((level j ≡ level i) × (i < j))
