-- The header table as recheck takes it: the ranges of the cells that it looks at (docs/INTERFACE.md). That every table
-- that `check` wrote is inside them, with its text, is `header_in_range` (crates/checker/proofs/Header.antt).
use Rattle.std.specs.Prelude.{ℕ, ◌+◌, ◌≤◌, ◌<◌, List, length, get_or}
use Rattle.functions.specs.Columns.{place_at, length_at, line_at, ret_at, type_at, block_count_at, count_at, formal_type_at}
use Rattle.parser.specs.Types as Types
use Rattle.utils.specs.Limits.{most_bytes, most_lines, most_name_bytes, most_functions, most_formals, most_blocks}

-- of a cell: it is at least the one and at most the other
abbrev pub Between : ℕ → ℕ → ℕ → Type 0
Between least most x = (least ≤ x) × (x ≤ most)

pub record RowInRange (text rows : List ℕ) (i : ℕ) : Type 0 where
  -- the name lies in the text
  pub name : get_or rows (place_at i) 0 + get_or rows (length_at i) 0 ≤ length text
  pub place : get_or rows (place_at i) 0 ≤ most_bytes
  pub name_length : Between 2 most_name_bytes (get_or rows (length_at i) 0)
  pub line : Between 1 most_lines (get_or rows (line_at i) 0)
  pub ret : Between Types.int Types.void (get_or rows (ret_at i) 0)
  pub type : get_or rows (type_at i) 0 < most_functions
  pub blocks : Between 1 most_blocks (get_or rows (block_count_at i) 0)
  pub formals : get_or rows (count_at i) 0 ≤ most_formals
  pub types_are : (k : ℕ) → k < get_or rows (count_at i) 0
      → Between Types.int Types.bool (get_or rows (formal_type_at i k) 0)

pub record TableInRange (text rows : List ℕ) : Type 0 where
  pub count : get_or rows 0 0 ≤ most_functions
  pub each : (i : ℕ) → i < get_or rows 0 0 → RowInRange text rows i
