-- All that check writes for one function, from its name to its closing brace (docs/INTERFACE.md), and what it is in two
-- readings: the same but for names renamed, tokens, lines and places moved, and the starts of runs, which are counted
-- from the function's own first.
use Rattle.std.specs.Prelude.{ℕ, ◌+◌, ◌*◌, ◌<◌, ◌≡◌, List, [], ◌∷◌, get_or}
use Rattle.lexer.specs.Decoded.{Tok}
use Rattle.parser.specs.Moved.{Move, SimNumber}
use Rattle.link.specs.Cells.{block_cells}
use Rattle.functions.specs.Functions.{Function, blocks_in}
use Rattle.functions.specs.Rows.{row_cells}
use Rattle.functions.specs.Answer.{edges_in, predecessors_in}
use Rattle.functions.specs.declared.Counts.{Counts}
use Rattle.sema.specs.Typing.{Global}
use Rattle.sema.specs.Program.{function_typed}
use Rattle.elaborate.specs.Types.{typed_items_cells, typed_arguments_cells}
use Rattle.unit.specs.Outcome.{untyped}
use Rattle.related.specs.Records.{SimItemCells, SimArgumentCells}

-- the function's part of each of the five slices (`unit_slices`, crates/unit/specs/Outcome.antt)
pub record Written : Type 0 where
  pub row : List ℕ
  pub items : List ℕ
  pub arguments : List ℕ
  pub blocks : List ℕ
  pub predecessors : List ℕ

-- behind those functions that are counted, of the table of names that its typing left
abbrev pub written_with : List Tok → List ℕ → (ℕ → ℕ) → List ℕ → Counts → Function → Written
written_with ts names callees table n f =
    let is = f.items in
    record {
      row = row_cells ts names f n.items n.blocks;
      items = typed_items_cells table callees n.arguments is;
      arguments = typed_arguments_cells table is;
      blocks = block_cells n.items n.predecessors 0 (edges_in is) (edges_in is) (blocks_in is);
      predecessors = predecessors_in is;
    }

-- typed against `globals`
abbrev pub written_of : List Tok → List ℕ → (ℕ → Global) → (ℕ → ℕ) → Counts → Function → Written
written_of ts names globals callees n f =
    written_with ts names callees (function_typed ts globals f untyped).table n f

-- A row: the name's token and the closing one are moved, the name is renamed, place and line are moved; the first item
-- and the first block are counted from the function's own.
pub data SimRow (m : Move) (items blocks : ℕ) : List ℕ → List ℕ → Type 0 where
  row : (token last place length line ret type first count base many formals : ℕ) {x x' : ℕ} {cells cells' : List ℕ}
      → SimNumber m x x'
      → SimArgumentCells m cells cells'
      → SimRow m items blocks
      ((m.by + token) ∷ x ∷ (m.by + last) ∷ (m.on + place) ∷ length ∷ (m.down + line) ∷ ret ∷ type ∷ (items + first)
      ∷ count
      ∷ (blocks + base) ∷ many ∷ formals ∷ cells)
      (token ∷ x' ∷ last ∷ place ∷ length ∷ line ∷ ret ∷ type ∷ first ∷ count ∷ base ∷ many ∷ formals ∷ cells')

-- Blocks: their first item, how many, the successors, where their predecessors begin, how many, the dead mark.
pub data SimBlockCells (items predecessors : ℕ) : List ℕ → List ℕ → Type 0 where
  none : SimBlockCells items predecessors [] []
  more : (first count goes one two from many dead : ℕ) {cells cells' : List ℕ}
      → SimBlockCells items predecessors cells cells'
      → SimBlockCells items predecessors
      ((items + first) ∷ count ∷ goes ∷ one ∷ two ∷ (predecessors + from) ∷ many ∷ dead ∷ cells)
      (first ∷ count ∷ goes ∷ one ∷ two ∷ from ∷ many ∷ dead ∷ cells')

-- the first reading behind n, the second counted from its own first
pub record SimWritten (m : Move) (n : Counts) (w w' : Written) : Type 0 where
  pub rows : SimRow m n.items n.blocks w.row w'.row
  pub items : SimItemCells m n.arguments w.items w'.items
  pub arguments : SimArgumentCells m w.arguments w'.arguments
  pub blocks : SimBlockCells n.items n.predecessors w.blocks w'.blocks
  pub predecessors : w.predecessors ≡ w'.predecessors

-- a renamed name is as long
pub record SameLengths (m : Move) (names names' : List ℕ) : Type 0 where
  pub same : (x : ℕ) → x < m.names → get_or names (m.name x * 2 + 1) 0 ≡ get_or names' (x * 2 + 1) 0
