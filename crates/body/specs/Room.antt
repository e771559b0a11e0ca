-- Room: how many items, arguments and blocks so many tokens make. A text has at most 4,096 tokens, so these are the
-- sizes of the slices (docs/INTERFACE.md), and no refusal exists for lack of room.
use Rattle.std.specs.Prelude.{ℕ, ◌+◌, ◌*◌, ◌≤◌, ◌≡◌, List, [], ◌∷◌, Bool, true, false}
use Rattle.utils.specs.Bytes.{pick}
use Rattle.lexer.specs.Decoded.{Tok, token_at}
use Rattle.pieces.specs.Kinds as T
use Rattle.body.specs.Shapes.{Shape, name, operation}

-- an item's cells
abbrev pub item_width : ℕ
item_width = 8

-- the slices' cells: 3,072 items, and 3,464 arguments
abbrev pub items_size : ℕ
items_size = 24576

abbrev pub arguments_size : ℕ
arguments_size = 6928

-- The end token is one of the first 4,096, and this index is not behind it.
pub record Within (ts : List Tok) (at : ℕ) : Type 0 where
  pub last : ℕ
  pub ends : (token_at ts last).kind ≡ T.end_of_file
  pub reached : at ≤ last
  pub few : last ≤ 4095

-- The blocks that have an operation: each has a first one, which stands behind a label or behind the body's brace.
unfoldable pub filled : Bool → List Shape → ℕ
filled first [] = 0
filled first (name l ∷ ps) = filled true ps
filled first (operation w goes ∷ ps) = pick first 1 0 + filled false ps

-- From one token to the next index: an item takes two tokens, and four tokens, an operation and a label, make three
-- items where a `ret` is added; a call of sixteen arguments takes nineteen tokens; a block takes four, its label and an
-- operation.
pub record Bounds (at next items arguments blocks : ℕ) : Type 0 where
  pub items_few : at * 3 + items * 4 ≤ next * 3
  pub arguments_few : at * 16 + arguments * 19 ≤ next * 16
  pub blocks_few : at + blocks * 4 ≤ next + 1
