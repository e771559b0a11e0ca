-- The functions of an accepted text and the rows of its header table, as `check` leaves it and recheck takes it.
use Rattle.std.specs.Prelude.{ℕ, ◌+◌, ◌-◌, ◌≡◌, List, [], ◌∷◌, ◌++◌, length, get_or}
use Rattle.utils.specs.Bytes.{pad_to}
use Rattle.lexer.specs.Decoded.{Tok, tokens_of, token_at, name_of}
use Rattle.parser.specs.Runs.{type_cell}
use Rattle.functions.specs.Known.{signature, formal_types}
use Rattle.functions.specs.Functions.{Function}
use Rattle.functions.specs.Columns.{row_at, name_at, type_at, place_at, line_at, close_at}
use Rattle.functions.specs.Rows.{signed_at}
use Rattle.sema.specs.Typing.{global}
use Rattle.sema.specs.Globals.{row_global}
use Rattle.checker.specs.Check.{check_of}
use Rattle.headers.specs.Spelled.{row_name}

-- the tokens of a text that is accepted, its names' cells, and its header table in a slice of so many cells
abbrev pub tokens_read : List ℕ → List Tok
tokens_read text = tokens_of (check_of text).tokens

abbrev pub names_read : List ℕ → List ℕ
names_read text = (check_of text).names

abbrev pub table_in : ℕ → List ℕ → List ℕ
table_in long text = pad_to long (check_of text).unit.functions

-- Row i is that of the function f.
pub record RowOf (text : List ℕ) (ts : List Tok) (names table : List ℕ) (i : ℕ) (f : Function) : Type 0 where
  pub token : get_or table (row_at i) 0 ≡ f.token
  pub number : get_or table (name_at i) 0 ≡ f.head.name.0
  pub close : get_or table (close_at i) 0 ≡ f.next - 1
  pub place : get_or table (place_at i) 0 ≡ (token_at ts f.token).place
  pub line : get_or table (line_at i) 0 ≡ (token_at ts f.token).line.0
  pub type : get_or table (type_at i) 0 ≡ f.head.type
  pub signed : signed_at table i ≡ signature f.head.ret f.head.formals
  pub called : row_global table i ≡ global (type_cell f.head.ret) (formal_types f.head.formals)
  pub name : row_name text table i ≡ name_of text names f.head.name.0

-- the rows from row i on
abbrev pub RowsOf : List ℕ → List Tok → List ℕ → List ℕ → ℕ → List Function → Type 0
RowsOf text ts names table i [] = Unit
RowsOf text ts names table i (f ∷ fs) = RowOf text ts names table i f × RowsOf text ts names table (i + 1) fs

-- a function's name stands at its token
abbrev pub NamedAt : List Tok → Function → Type 0
NamedAt ts f = ((token_at ts f.token).kind ≡ 2) × ((token_at ts f.token).name ≡ f.head.name)

-- function k of these, and those before and behind it
pub record Split (fs : List Function) (k : ℕ) : Type 0 where
  pub before : List Function
  pub function : Function
  pub behind : List Function
  pub all : fs ≡ before ++ (function ∷ behind)
  pub counted : length before ≡ k
