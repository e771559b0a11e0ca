-- The promise of `pitchsleet_check`: the answer by value, the cells as bytes.
use Rattle.std.specs.Prelude.{ℕ, ◌*◌, ◌≡◌, List, ◌++◌, ltb, length, take}
use Rattle.utils.specs.Bytes.{pick, pad_to}
use Rattle.functions.specs.Answer.{Slices}
use Rattle.checker.specs.Check.{Checking, check_refusal, check_of}
use Rattle.functions.specs.Columns.{table_size}
use Rattle.body.specs.Room.{items_size, arguments_size}
use Rattle.link.specs.Steps.{blocks_size, predecessors_size}
use Rattle.lexer.specs.Sizes.{token_width, name_width, tokens_size, names_size}
use Rattle.utils.specs.Limits.{message_size}
use Rattle.unit.specs.Outcome.{as_long}
use Rattle.checker.specs.Promise.{fronts_of}
use Rattle.checker.specs.declared.CheckAnswer.{CheckAnswer}
use Rattle.exports.specs.Bytes.{le32s}

-- the cells of seven slices, one slice after the other
unfoldable pub cell_bytes : List ℕ → List ℕ → Slices → List ℕ
cell_bytes t n u =
    le32s t ++ (le32s n ++ (le32s u.functions ++ (le32s u.items ++ (le32s u.arguments
    ++ (le32s u.blocks ++ le32s u.predecessors)))))

-- the bytes that check fills, and recheck
abbrev pub check_size : ℕ
check_size = 252228

-- 4,096 token records of 16 bytes from 0, 1,024 name records of 8 bytes from 65,536, the count and 64 function rows of
-- 180 bytes from 73,728, 3,072 item records of 32 bytes from 85,252, 3,464 argument records of 8 bytes from 183,556,
-- 1,024 block records of 32 bytes from 211,268, 2,048 predecessors of 4 bytes from 244,036: 252,228 bytes
abbrev pub sized_unit : Slices → Slices
sized_unit u =
    record {
      functions = pad_to table_size u.functions;
      items = pad_to items_size u.items;
      arguments = pad_to arguments_size u.arguments;
      blocks = pad_to blocks_size u.blocks;
      predecessors = pad_to predecessors_size u.predecessors;
    }

abbrev pub bytes_of : Checking → List ℕ
bytes_of o = cell_bytes (pad_to tokens_size o.tokens) (pad_to names_size o.names) (sized_unit o.unit)

-- the bytes of the cells that an answer counts, with the zeros that follow in each slice
abbrev pub front_bytes : CheckAnswer → List ℕ → List ℕ → Slices → List ℕ
front_bytes r t n u =
    cell_bytes (pad_to (length t) (take (r.tokens * token_width) t)) (pad_to (length n) (take (r.names * name_width) n))
    (as_long u (fronts_of r u))

-- the answer, and the slices
pub record Export : Type 0 where
  pub answer : CheckAnswer
  pub out : List ℕ
  pub message : List ℕ

abbrev pub export : CheckAnswer → List ℕ → List ℕ → Export
export r o m = record { answer = r; out = o; message = m }

-- a check in slices as long as o and m; zeros follow
abbrev pub exported : List ℕ → List ℕ → Checking → Export
exported o m x = export x.answer (pad_to (length o) (bytes_of x)) (pad_to (length m) x.message)

-- The answer and the slices at exit, for the answer x of any text; o and m are the slices at entry. 30 is given exactly
-- when one of them is shorter than its size, and then nothing is written.
abbrev pub gated : List ℕ → List ℕ → Checking → Export
gated o m x =
    let short = export (check_refusal 30 0 0) o m in
    pick (ltb (length o) check_size) short (pick (ltb (length m) message_size) short (exported o m x))

unfoldable pub export_def : List ℕ → List ℕ → List ℕ → Export
export_def text o m = gated o m (check_of text)

-- the seven slices have exactly their sizes
pub record Sizes (t n : List ℕ) (u : Slices) : Type 0 where
  pub tokens : length t ≡ tokens_size
  pub names : length n ≡ names_size
  pub functions : length u.functions ≡ table_size
  pub items : length u.items ≡ items_size
  pub arguments : length u.arguments ≡ arguments_size
  pub blocks : length u.blocks ≡ blocks_size
  pub predecessors : length u.predecessors ≡ predecessors_size

-- what a definition's answer d permits, by parts with names
pub record Gives (d : Export) (r : CheckAnswer) (o m : List ℕ) : Type 0 where
  pub answer : r ≡ d.answer
  pub out : o ≡ d.out
  pub message : m ≡ d.message

-- THE PROMISE: the answer and both slices at exit, of the text and the slices at entry.
abbrev pub Exports : List ℕ → List ℕ → List ℕ → CheckAnswer → List ℕ → List ℕ → Type 0
Exports text o₀ m₀ r o m = Gives (export_def text o₀ m₀) r o m
