-- Rows in the order of their phandles.
use Rattle.std.specs.Prelude.{◌≡◌, ℕ, ◌<◌, ◌≤◌, List, length, None, slice_index_or}
use Rattle.indexed.specs.declared.row.Row.{Row}

abbrev pub no_row : Row
no_row = record { phandle = 0; place = 0; depth = 0; counts = None }

-- the phandle of the row at an index
abbrev pub handle_at : List Row → ℕ → ℕ
handle_at rs i = let row = slice_index_or rs i no_row in row.phandle

-- the phandles rise, so no two rows have the same
abbrev pub Rising : List Row → Type 0
Rising rs = (i j : ℕ) → i < j → j < length rs → handle_at rs i < handle_at rs j

-- the row at an index has the phandle
pub record IsAt (rs : List Row) (x i : ℕ) : Type 0 where
  pub within : i < length rs
  pub has : handle_at rs i ≡ x

-- a row with the phandle would go in at an index: smaller phandles before it, and greater ones from it on
pub record IsGap (rs : List Row) (x i : ℕ) : Type 0 where
  pub within : i ≤ length rs
  pub smaller : (j : ℕ) → j < i → handle_at rs j < x
  pub greater : (j : ℕ) → i ≤ j → j < length rs → x < handle_at rs j
