-- What the slices hold of a list of functions: one function's cells behind the other's, each behind those that are
-- counted. Items and arguments stand here without the types of operands, which typing writes.
use Rattle.std.specs.Prelude.{ℕ, ◌+◌, ◌≤◌, ◌<◌, List, [], ◌∷◌, ◌++◌, length}
use Rattle.utils.specs.Bytes.{pad_to}
use Rattle.lexer.specs.Decoded.{Tok}
use Rattle.body.specs.Records.{items_cells, arguments_cells, arguments_count}
use Rattle.link.specs.Cells.{block_cells}
use Rattle.utils.specs.Limits.{most_functions, most_formals, most_blocks}
use Rattle.functions.specs.Columns.{row_width}
use Rattle.functions.specs.Functions.{Function, Program, blocks_in}
use Rattle.functions.specs.Rows.{row_cells}
use Rattle.functions.specs.Answer.{edges_in, predecessors_in, counts, counts_with}
use Rattle.functions.specs.declared.Counts.{Counts}

unfoldable pub rows_cells : List Tok → List ℕ → Counts → List Function → List ℕ
rows_cells ts names n [] = []
rows_cells ts names n (f ∷ fs) =
    pad_to row_width (row_cells ts names f n.items n.blocks) ++ rows_cells ts names (counts_with n f) fs

unfoldable pub untyped_items : Counts → List Function → List ℕ
untyped_items n [] = []
untyped_items n (f ∷ fs) = items_cells n.arguments f.items ++ untyped_items (counts_with n f) fs

unfoldable pub untyped_arguments : List Function → List ℕ
untyped_arguments [] = []
untyped_arguments (f ∷ fs) = arguments_cells f.items ++ untyped_arguments fs

unfoldable pub all_blocks : Counts → List Function → List ℕ
all_blocks n [] = []
all_blocks n (f ∷ fs) =
    let is = f.items in
    block_cells n.items n.predecessors 0 (edges_in is) (edges_in is) (blocks_in is) ++ all_blocks (counts_with n f) fs

unfoldable pub all_predecessors : List Function → List ℕ
all_predecessors [] = []
all_predecessors (f ∷ fs) = predecessors_in f.items ++ all_predecessors fs

-- A function behind those that are counted is inside document 01's limits, and its records inside the slices' sizes.
pub record Fits (n : Counts) (f : Function) : Type 0 where
  pub functions_few : n.functions < most_functions
  pub type_few : f.head.type ≤ most_functions
  pub formals_few : length f.head.formals ≤ most_formals
  pub items_few : n.items + length f.items ≤ 3072
  pub arguments_few : n.arguments + arguments_count f.items ≤ 3464
  pub blocks_few : n.blocks + length (blocks_in f.items) ≤ 1024
  pub few_blocks : length (blocks_in f.items) ≤ most_blocks
  pub predecessors_few : n.predecessors + length (predecessors_in f.items) ≤ 2048

unfoldable pub FitsFrom : Counts → List Function → Type 0
FitsFrom n [] = Unit
FitsFrom n (f ∷ fs) = Fits n f × FitsFrom (counts_with n f) fs

-- All functions that were read fit, whether or not a refusal came then.
abbrev pub AllFit : Program → Type 0
AllFit u = FitsFrom (counts 0 0 0 0 0) u.functions
