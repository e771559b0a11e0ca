-- "a function's reading is all that check writes for it from its name to its closing brace, compared by spelling, with
-- token numbers and starts of runs counted from its own first" (document 01, "Recheck"): its row of the header table,
-- its tokens, items, arguments, blocks and predecessors, cell by cell (docs/INTERFACE.md). No cell of these records is
-- left out; a column says how the cell is counted.
use Rattle.std.specs.Prelude.{ℕ, zero, suc, ◌+◌, ◌*◌, ◌-◌, List, [], ◌∷◌, get_or, take, drop}
use Rattle.utils.specs.Bytes.{pick}
use Rattle.lexer.specs.Decoded.{is_name, name_of}
use Rattle.lexer.specs.Sizes.{token_width}
use Rattle.body.specs.Room.{item_width}
use Rattle.link.specs.Steps.{block_width}
use Rattle.functions.specs.Columns.{row_width, row_at, token_cell, close_cell, place_cell, first_item_cell, item_count_cell}
use Rattle.functions.specs.Columns.{first_block_cell, block_count_cell, count_cell}
use Rattle.elaborate.specs.Types.{is_call}
use Rattle.checker.specs.Check.{Checking}

-- How a cell is counted. --------------------------------------------------------------------------------------------

pub data Column : Type 0 where
  -- as it is: a kind, a type, a count, an integer's bits, a block's number in its function
  plain : Column
  -- a name's number, by what it spells
  spelled : Column
  -- a number among all of a text, from the function's own first; and so those that follow, but that a line is counted
  -- from a given one
  token : Column
  line : Column
  place : Column
  item : Column
  argument : Column
  block : Column
  predecessor : Column

-- what the names spell, the function's own first of each, and the line to count from
pub record Firsts : Type 0 where
  pub spells : ℕ → List ℕ
  pub token : ℕ
  pub line : ℕ
  pub place : ℕ
  pub item : ℕ
  pub argument : ℕ
  pub block : ℕ
  pub predecessor : ℕ

pub data Seen : Type 0 where
  number : ℕ → Seen
  word : List ℕ → Seen

-- No cell of a function is below its own first, so that nothing is cut off.
abbrev pub seen_as : Firsts → ℕ → Column → Seen
seen_as o x Column.plain = number x
seen_as o x Column.spelled = word (o.spells x)
seen_as o x Column.token = number (x - o.token)
seen_as o x Column.line = number (x - o.line)
seen_as o x Column.place = number (x - o.place)
seen_as o x Column.item = number (x - o.item)
seen_as o x Column.argument = number (x - o.argument)
seen_as o x Column.block = number (x - o.block)
seen_as o x Column.predecessor = number (x - o.predecessor)

-- a record by its columns; cells behind the last column are as they are
unfoldable pub seen : Firsts → List Column → List ℕ → List Seen
seen o columns [] = []
seen o [] (x ∷ cells) = number x ∷ seen o [] cells
seen o (col ∷ columns) (x ∷ cells) = seen_as o x col ∷ seen o columns cells

-- The columns of each record. ---------------------------------------------------------------------------------------

-- A formal, and so an argument: its name and its type.
abbrev pub variable_columns : List Column
variable_columns = spelled ∷ plain ∷ []

unfoldable pub formal_columns : ℕ → List Column
formal_columns zero = []
formal_columns (suc n) = spelled ∷ plain ∷ formal_columns n

-- A row: the name's token, the name, the closing token, the name's place, length and line, the result type, the
-- function type's number, the first item, how many, the first block, how many, how many formals, and the formals.
abbrev pub row_columns : ℕ → List Column
row_columns formals =
    token ∷ spelled ∷ token ∷ place ∷ plain ∷ line ∷ plain ∷ plain ∷ item ∷ plain ∷ block ∷ plain ∷ plain
    ∷ formal_columns formals

-- A token: its kind, what it carries, its line, its place.
abbrev pub token_columns : ℕ → List Column
token_columns kind = plain ∷ pick (is_name kind) spelled plain ∷ line ∷ place ∷ []

-- An item: its kind, its token, then by the kind: the result and its type, the left operand, the callee or the
-- condition and its type, and the last two cells.
abbrev item_as : Column → Column → Column → Column → List Column
item_as result left third fourth = plain ∷ token ∷ result ∷ plain ∷ left ∷ plain ∷ third ∷ fourth ∷ []

unfoldable pub item_table : List (List Column)
item_table =
    -- no kind
    []
    -- a label
    ∷ item_as plain plain spelled plain
    -- a binary and a unary operation, `const`
    ∷ item_as spelled spelled spelled plain
    ∷ item_as spelled spelled plain plain
    ∷ item_as spelled plain plain plain
    -- a call, without and with a result
    ∷ item_as plain spelled argument plain
    ∷ item_as spelled spelled argument plain
    -- `print`, `nop`, `jmp`, `br`
    ∷ item_as plain spelled plain plain
    ∷ item_as plain plain plain plain
    ∷ item_as plain plain spelled plain
    ∷ item_as plain spelled spelled spelled
    -- `ret`, without and with a value
    ∷ item_as plain plain plain plain
    ∷ item_as plain spelled plain plain
    ∷ []

abbrev pub item_columns : ℕ → List Column
item_columns kind = get_or item_table kind []

-- A block: its first operation, how many, how many successors and the pair of them, where its predecessors begin, how
-- many, the dead mark.
abbrev pub block_columns : List Column
block_columns = item ∷ plain ∷ plain ∷ plain ∷ plain ∷ predecessor ∷ plain ∷ plain ∷ []

-- The function's own records. ---------------------------------------------------------------------------------------

-- the first n records of w cells
unfoldable pub records : ℕ → ℕ → List ℕ → List (List ℕ)
records w zero cells = []
records w (suc n) cells = take w cells ∷ records w n (drop w cells)

-- .. from a record on
abbrev pub records_from : ℕ → ℕ → ℕ → List ℕ → List (List ℕ)
records_from w first n cells = records w n (drop (first * w) cells)

-- Where the arguments of items begin, and how many they are: each call has its own run, the first call's is the first.
unfoldable pub first_argument : List (List ℕ) → ℕ
first_argument [] = 0
first_argument (r ∷ rs) =
    let more = first_argument rs in
    pick (is_call (get_or r 0 0)) (get_or r 6 0) more

unfoldable pub arguments_of : List (List ℕ) → ℕ
arguments_of [] = 0
arguments_of (r ∷ rs) =
    let more = arguments_of rs in
    pick (is_call (get_or r 0 0)) (get_or r 7 0 + more) more

-- .. and the predecessors of blocks
abbrev pub first_predecessor : List (List ℕ) → ℕ
first_predecessor [] = 0
first_predecessor (r ∷ rs) = get_or r 5 0

unfoldable pub predecessors_of : List (List ℕ) → ℕ
predecessors_of [] = 0
predecessors_of (r ∷ rs) = get_or r 6 0 + predecessors_of rs

pub record Own : Type 0 where
  pub row : List ℕ
  pub tokens : List (List ℕ)
  pub items : List (List ℕ)
  pub arguments : List (List ℕ)
  pub blocks : List (List ℕ)
  pub predecessors : List (List ℕ)

-- the records of function j, by its row: its name's token to its closing one, its items, and so on
abbrev pub own_of : Checking → ℕ → Own
own_of given j =
    let row = take row_width (drop (row_at j) given.unit.functions) in
    let items = records_from item_width (get_or row first_item_cell 0) (get_or row item_count_cell 0) given.unit.items in
    let blocks = records_from block_width (get_or row first_block_cell 0) (get_or row block_count_cell 0) given.unit.blocks in
    record {
      row = row;
      tokens =
          records_from token_width (get_or row token_cell 0) (get_or row close_cell 0 + 1 - get_or row token_cell 0)
          given.tokens;
      items = items;
      arguments = records_from 2 (first_argument items) (arguments_of items) given.unit.arguments;
      blocks = blocks;
      predecessors = records_from 1 (first_predecessor blocks) (predecessors_of blocks) given.unit.predecessors;
    }

-- The reading. ------------------------------------------------------------------------------------------------------

pub record ReadingOf : Type 0 where
  pub row : List Seen
  pub tokens : List (List Seen)
  pub items : List (List Seen)
  pub arguments : List (List Seen)
  pub blocks : List (List Seen)
  pub predecessors : List (List Seen)

-- each record by its columns, which for tokens and items depend on its first cell, the kind
unfoldable pub seen_each : Firsts → (ℕ → List Column) → List (List ℕ) → List (List Seen)
seen_each o columns [] = []
seen_each o columns (r ∷ rs) = seen o (columns (get_or r 0 0)) r ∷ seen_each o columns rs

abbrev pub firsts_of : (ℕ → List ℕ) → ℕ → Own → Firsts
firsts_of spells first own =
    record {
      spells = spells;
      token = get_or own.row token_cell 0;
      line = first;
      place = get_or own.row place_cell 0;
      item = get_or own.row first_item_cell 0;
      argument = first_argument own.items;
      block = get_or own.row first_block_cell 0;
      predecessor = first_predecessor own.blocks;
    }

abbrev pub seen_own : Firsts → Own → ReadingOf
seen_own o own =
    record {
      row = seen o (row_columns (get_or own.row count_cell 0)) own.row;
      tokens = seen_each o token_columns own.tokens;
      items = seen_each o item_columns own.items;
      arguments = seen_each o (λ _. variable_columns) own.arguments;
      blocks = seen_each o (λ _. block_columns) own.blocks;
      predecessors = seen_each o (λ _. plain ∷ []) own.predecessors;
    }

-- Function j of a text that was accepted as `given`, its lines counted from a given one.
abbrev pub reading_from : ℕ → List ℕ → Checking → ℕ → ReadingOf
reading_from first text given j =
    let own = own_of given j in
    seen_own (firsts_of (name_of text given.names) first own) own

-- THE READING: lines as they are.
unfoldable pub reading_of : List ℕ → Checking → ℕ → ReadingOf
reading_of text given j = reading_from 0 text given j

-- The same with lines, too, counted from the function's own first.
unfoldable pub moved_reading : List ℕ → Checking → ℕ → ReadingOf
moved_reading text given j = reading_from (get_or (own_of given j).row 5 0) text given j
