-- What `parse` answers and writes.
use Rattle.functions.specs.declared.Body.{Body}
use Rattle.functions.specs.declared.UnitSlices.{UnitSlices}
use Rattle.parser.specs.declared.Refusal.{Refusal}
use Rattle.std.specs.Prelude.{ℕ, ◌+◌, ◌*◌, ◌≤◌, ◌<◌, ◌≡◌, List, [], ◌∷◌, ◌++◌, length, set, Err, Ok, Result}
use Rattle.std.proofs.lemmas.List.Edits.{sets}
use Rattle.utils.specs.Bytes.{pad_to}
use Rattle.lexer.specs.Decoded.{Tok}
use Rattle.parser.specs.Step.{then_at}
use Rattle.body.specs.Body.{Item}
use Rattle.link.specs.Edges.{successors}
use Rattle.link.specs.Steps.{blocks_size, predecessors_size}
use Rattle.utils.specs.Limits.{most_blocks, most_functions, most_formals}
use Rattle.body.specs.Records.{items_cells, arguments_cells, arguments_count}
use Rattle.body.specs.Room.{Within, items_size, arguments_size}
use Rattle.link.specs.Cells.{block_cells, predecessor_cells}
use Rattle.functions.specs.Known.{types_after}
use Rattle.functions.specs.Functions.{Function, Program, blocks_in, BuiltAt, built, not_built, known_of}
use Rattle.functions.specs.Functions.{FunctionAt, function, no_function}
use Rattle.functions.specs.Columns.{row_width, row_at}
use Rattle.functions.specs.Rows.{row_cells, known_from}
use Rattle.functions.specs.declared.FunctionRead.{FunctionRead}
use Rattle.functions.specs.declared.Counts.{Counts}

-- a function's successors, block by block, and its predecessors
abbrev pub edges_in : List Item → List (List ℕ)
edges_in is = successors (blocks_in is) (blocks_in is)

abbrev pub predecessors_in : List Item → List ℕ
predecessors_in is = predecessor_cells 0 (edges_in is) (blocks_in is)

-- how much of each slice is used
abbrev pub counts : ℕ → ℕ → ℕ → ℕ → ℕ → Counts
counts f i a b p = record { functions = f; items = i; arguments = a; blocks = b; predecessors = p }

-- one function more, by its items
abbrev pub counts_after : Counts → List Item → Counts
counts_after n is =
    counts (n.functions + 1) (n.items + length is) (n.arguments + arguments_count is)
    (n.blocks + length (blocks_in is)) (n.predecessors + length (predecessors_in is))

abbrev pub counts_with : Counts → Function → Counts
counts_with n f = counts_after n f.items

-- A body with its blocks and edges: where to go on and how much it takes, or the refusal.
abbrev pub build_read : BuiltAt → Result Body Refusal
build_read (built is next) =
    Ok (record {
      next = next;
      items = length is;
      arguments = arguments_count is;
      blocks = length (blocks_in is);
      predecessors = length (predecessors_in is);
    })
build_read (not_built e) = Err e

-- The tokens so far have room for what is counted (crates/body/specs/Room.antt).
pub record Room (ts : List Tok) (at : ℕ) (n : Counts) : Type 0 where
  pub within : Within ts at
  pub items_few : n.items * 4 ≤ at * 3
  pub arguments_few : n.arguments * 19 ≤ at * 16
  pub blocks_few : n.blocks * 4 ≤ at
  pub predecessors_few : n.predecessors ≤ n.blocks * 2

-- the least lengths of the slices of items, arguments, blocks and predecessors
pub record Long (items arguments blocks preds : List ℕ) : Type 0 where
  pub items_long : items_size ≤ length items
  pub arguments_long : arguments_size ≤ length arguments
  pub blocks_long : blocks_size ≤ length blocks
  pub predecessors_long : predecessors_size ≤ length preds

unfoldable pub counts_from : Counts → List Function → Counts
counts_from n [] = n
counts_from n (f ∷ fs) = counts_from (counts_with n f) fs

unfoldable pub program_read : Program → Result Counts Refusal
program_read u = then_at Err u.end (λ next. Ok (counts_from (counts 0 0 0 0 0) u.functions))

-- A body's records stand behind those that are counted. A refusal says nothing of the slices.
pub record Built (ts : List Tok) (n : Counts) (is : List Item) (next : ℕ)
    (items₀ items arguments₀ arguments blocks₀ blocks preds₀ preds : List ℕ) : Type 0 where
  pub items_are : items ≡ sets items₀ (n.items * 8) (items_cells n.arguments is)
  pub arguments_are : arguments ≡ sets arguments₀ (n.arguments * 2) (arguments_cells is)
  pub blocks_are : blocks ≡ sets blocks₀ (n.blocks * 8)
      (block_cells n.items n.predecessors 0 (edges_in is) (edges_in is) (blocks_in is))
  pub predecessors_are : preds ≡ sets preds₀ n.predecessors (predecessors_in is)
  pub room : Room ts next (counts_after n is)
  pub few_blocks : length (blocks_in is) ≤ most_blocks
  pub on : 1 ≤ next

abbrev pub BuildHeld : (ts : List Tok) (n : Counts)
    (items₀ items arguments₀ arguments blocks₀ blocks preds₀ preds : List ℕ) → BuiltAt → Type 0
BuildHeld ts n items₀ items arguments₀ arguments blocks₀ blocks preds₀ preds (built is next) =
    Built ts n is next items₀ items arguments₀ arguments blocks₀ blocks preds₀ preds
BuildHeld ts n items₀ items arguments₀ arguments blocks₀ blocks preds₀ preds (not_built e) = Unit

-- The five slices.
pub record Slices : Type 0 where
  pub functions : List ℕ
  pub items : List ℕ
  pub arguments : List ℕ
  pub blocks : List ℕ
  pub predecessors : List ℕ

abbrev pub slices : List ℕ → List ℕ → List ℕ → List ℕ → List ℕ → Slices
slices f i a b p = record { functions = f; items = i; arguments = a; blocks = b; predecessors = p }

-- what they hold, as they are lent together
abbrev pub held : UnitSlices → Slices
held u = slices u.functions.now u.items.now u.arguments.now u.blocks.now u.predecessors.now

abbrev pub LongSlices : UnitSlices → Type 0
LongSlices u = Long u.items.now u.arguments.now u.blocks.now u.predecessors.now

-- the references are the ones that were lent, to slices of the same lengths
pub record SameSlices (u v : UnitSlices) : Type 0 where
  pub functions : u.functions.ghost_name ≡ v.functions.ghost_name
  pub items : u.items.ghost_name ≡ v.items.ghost_name
  pub arguments : u.arguments.ghost_name ≡ v.arguments.ghost_name
  pub blocks : u.blocks.ghost_name ≡ v.blocks.ghost_name
  pub predecessors : u.predecessors.ghost_name ≡ v.predecessors.ghost_name
  pub functions_long : length v.functions.now ≡ length u.functions.now
  pub items_long : length v.items.now ≡ length u.items.now
  pub arguments_long : length v.arguments.now ≡ length u.arguments.now
  pub blocks_long : length v.blocks.now ≡ length u.blocks.now
  pub predecessors_long : length v.predecessors.now ≡ length u.predecessors.now

-- One function's row and records, stored behind those that are counted.
abbrev pub stored_function : List Tok → List ℕ → Counts → Slices → Function → Slices
stored_function ts names n s f =
    let is = f.items in
    slices
    (sets s.functions (row_at n.functions) (pad_to row_width (row_cells ts names f n.items n.blocks)))
    (sets s.items (n.items * 8) (items_cells n.arguments is))
    (sets s.arguments (n.arguments * 2) (arguments_cells is))
    (sets s.blocks (n.blocks * 8)
    (block_cells n.items n.predecessors 0 (edges_in is) (edges_in is) (blocks_in is)))
    (sets s.predecessors n.predecessors (predecessors_in is))

-- a function that was read: where to go on, how many types there are, and how much is used; or the refusal
abbrev pub function_read : ℕ → Counts → FunctionAt → Result FunctionRead Refusal
function_read types n (function f) = Ok (record {
  next = f.next;
  types = (types_after types f.head.type);
  counts =
      (counts_with n f);
})
function_read types n (no_function e) = Err e

-- It stands in the slices, later headers see it, and there is room to go on.
pub record Taken (ts : List Tok) (names : List ℕ) (n : Counts) (f : Function) (s₀ s : Slices) : Type 0 where
  pub few : n.functions < most_functions
  pub stored : s ≡ stored_function ts names n s₀ f
  pub seen : known_from s.functions 0 (n.functions + 1)
      ≡ known_from s₀.functions 0 n.functions ++ (known_of f.head ∷ [])
  pub room : Room ts f.next (counts_with n f)
  pub formals_few : length f.head.formals ≤ most_formals
  pub few_blocks : length (blocks_in f.items) ≤ most_blocks

abbrev pub FunctionHeld : (ts : List Tok) (names : List ℕ) (n : Counts) (s₀ s : Slices) → FunctionAt → Type 0
FunctionHeld ts names n s₀ s (function f) = Taken ts names n f s₀ s
FunctionHeld ts names n s₀ s (no_function e) = Unit

unfoldable pub stored_from : List Tok → List ℕ → Counts → Slices → List Function → Slices
stored_from ts names n s [] = s
stored_from ts names n s (f ∷ fs) = stored_from ts names (counts_with n f) (stored_function ts names n s f) fs

-- the count before the rows
abbrev pub with_count : ℕ → Slices → Slices
with_count n s = slices (set s.functions 0 n) s.items s.arguments s.blocks s.predecessors

-- All functions are stored one behind the other. A refusal says nothing of the slices: the caller clears them.
abbrev pub Held : List Tok → List ℕ → List Function → Slices → Slices → Result ℕ Refusal → Type 0
Held ts names fs s₀ s (Ok next) = s ≡ with_count (length fs) (stored_from ts names (counts 0 0 0 0 0) s₀ fs)
Held ts names fs s₀ s (Err e) = Unit
