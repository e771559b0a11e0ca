-- The header table (docs/INTERFACE.md): the count, and then a row for each function. Where row i begins, and where its
-- cells stand.
use Rattle.std.specs.Prelude.{ℕ, ◌+◌, ◌*◌, ◌≤◌, ◌<◌, List, length}
use Rattle.utils.specs.Limits.{most_functions}

-- a row's cells, the table's rows, and its cells
abbrev pub row_width : ℕ
row_width = 45

abbrev pub table_size : ℕ
table_size = 2881

-- What contracts ask of rows: the cells are a table's, and i is one of its rows, or it has room for n.
abbrev pub IsRow : List ℕ → ℕ → Type 0
IsRow rows i = (i < most_functions) × (table_size ≤ length rows)

abbrev pub HasRows : List ℕ → ℕ → Type 0
HasRows rows n = (n ≤ most_functions) × (table_size ≤ length rows)

-- the name's token
abbrev pub row_at : ℕ → ℕ
row_at i = 1 + i * row_width

-- the name
abbrev pub name_at : ℕ → ℕ
name_at i = 2 + i * row_width

-- the closing token
abbrev pub close_at : ℕ → ℕ
close_at i = 3 + i * row_width

-- the name's place, its length, its line
abbrev pub place_at : ℕ → ℕ
place_at i = 4 + i * row_width

abbrev pub length_at : ℕ → ℕ
length_at i = 5 + i * row_width

abbrev pub line_at : ℕ → ℕ
line_at i = 6 + i * row_width

-- the result type, the function type's number
abbrev pub ret_at : ℕ → ℕ
ret_at i = 7 + i * row_width

abbrev pub type_at : ℕ → ℕ
type_at i = 8 + i * row_width

-- the first item, and how many items there are
abbrev pub first_item_at : ℕ → ℕ
first_item_at i = 9 + i * row_width

abbrev pub item_count_at : ℕ → ℕ
item_count_at i = 10 + i * row_width

-- the first block, and how many blocks there are
abbrev pub first_block_at : ℕ → ℕ
first_block_at i = 11 + i * row_width

abbrev pub block_count_at : ℕ → ℕ
block_count_at i = 12 + i * row_width

-- how many formals there are, where they begin, a name and a type each, and where formal k's type stands
abbrev pub count_at : ℕ → ℕ
count_at i = 13 + i * row_width

abbrev pub formals_at : ℕ → ℕ
formals_at i = 14 + i * row_width

abbrev pub formal_type_at : ℕ → ℕ → ℕ
formal_type_at i k = 15 + i * row_width + k * 2

-- The same cells of one row alone, counted from its first: those by which a function's records are found.
abbrev pub token_cell : ℕ
token_cell = 0

abbrev pub close_cell : ℕ
close_cell = 2

abbrev pub place_cell : ℕ
place_cell = 3

abbrev pub first_item_cell : ℕ
first_item_cell = 8

abbrev pub item_count_cell : ℕ
item_count_cell = 9

abbrev pub first_block_cell : ℕ
first_block_cell = 10

abbrev pub block_count_cell : ℕ
block_count_cell = 11

abbrev pub count_cell : ℕ
count_cell = 12
