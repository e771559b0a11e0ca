-- 42: "old text over 16,384 bytes, number not below the count, a table shorter than its size, or a stored place, line,
-- count or type outside the ranges docs/ gives". The ranges are those of `TableInRange`
-- (crates/headers/specs/Ranges.antt); here they are tests, and `table_in_range` (proofs/) says that the tests are the
-- ranges.
use Rattle.std.specs.Prelude.{ℕ, zero, suc, ◌+◌, List, Bool, true, false, ltb, leb, length, get_or}
use Rattle.utils.specs.Bytes.{pick}
use Rattle.functions.specs.Columns.{ret_at, type_at, count_at, block_count_at, place_at, length_at, line_at, formal_type_at, table_size}
use Rattle.parser.specs.Types as Types
use Rattle.utils.specs.Limits.{most_bytes, most_lines, most_name_bytes, most_functions, most_formals, most_blocks}

-- a cell is at least the one and at most the other
unfoldable pub between : ℕ → ℕ → ℕ → Bool
between least most x = pick (ltb x least) false (leb x most)

-- the types of n formals of row i, from formal k on
unfoldable pub formals_fit : List ℕ → ℕ → ℕ → ℕ → Bool
formals_fit rows i k zero = true
formals_fit rows i k (suc n) =
    let more = formals_fit rows i (k + 1) n in
    pick (between Types.int Types.bool (get_or rows (formal_type_at i k) 0)) more false

-- the name of row i lies in the old text, and its line is one that a text of that size has
unfoldable pub name_fits : List ℕ → List ℕ → ℕ → Bool
name_fits old rows i =
    let place = get_or rows (place_at i) 0 in
    let len = get_or rows (length_at i) 0 in
    pick (leb place most_bytes)
    (pick (between 2 most_name_bytes len)
    (pick (leb (place + len) (length old)) (between 1 most_lines (get_or rows (line_at i) 0)) false) false) false

-- its result type, its function type's number, how many blocks it has
unfoldable pub type_fits : List ℕ → ℕ → Bool
type_fits rows i =
    pick (between Types.int Types.void (get_or rows (ret_at i) 0))
    (pick (ltb (get_or rows (type_at i) 0) most_functions)
    (between 1 most_blocks (get_or rows (block_count_at i) 0)) false) false

unfoldable pub row_fits : List ℕ → List ℕ → ℕ → Bool
row_fits old rows i =
    let formals = get_or rows (count_at i) 0 in
    pick (name_fits old rows i)
    (pick (type_fits rows i) (pick (leb formals most_formals) (formals_fit rows i 0 formals) false) false) false

-- n rows, from row i on
unfoldable pub rows_fit : List ℕ → List ℕ → ℕ → ℕ → Bool
rows_fit old rows i zero = true
rows_fit old rows i (suc n) =
    let more = rows_fit old rows (i + 1) n in
    pick (row_fits old rows i) more false

-- A header table with its text, and the number of one of its functions. A longer table is read up to its size.
unfoldable pub is_table : List ℕ → List ℕ → ℕ → Bool
is_table old table number =
    let count = get_or table 0 0 in
    let rows = rows_fit old table 0 count in
    pick (ltb most_bytes (length old)) false
    (pick (ltb (length table) table_size) false
    (pick (ltb number count) (pick (leb count most_functions) rows false) false))
