-- Blocks, functions, and all functions (document 01, "Typing"; Sema::analyze of parser.rs).
use Rattle.std.specs.Prelude.{ℕ, zero, suc, ◌+◌, List, [], ◌∷◌, length, get_or}
use Rattle.utils.specs.Bytes.{pick, pad_to}
use Rattle.graph.specs.Walk.{block_order}
use Rattle.graph.specs.Records.{block_at, recorded, at_most256}
use Rattle.lexer.specs.Decoded.{Tok}
use Rattle.parser.specs.Step.{refusal}
use Rattle.parser.specs.Runs.{type_cell}
use Rattle.body.specs.Body.{Item, is_terminator, item_token}
use Rattle.parser.specs.declared.Variable.{Variable}
use Rattle.body.specs.Records.{named}
use Rattle.functions.specs.Columns.{row_at, ret_at, first_block_at, block_count_at, count_at, formals_at}
use Rattle.functions.specs.Rows.{at_most16}
use Rattle.sema.specs.Symbols.{Typed, on, stop, then_typed, enter_d}
use Rattle.sema.specs.Typing.{Global, type_item_d}
use Rattle.sema.specs.Items.{typed, item_at}
use Rattle.sema.specs.Globals.{globals_in}

-- The items of `count` records from record `first` on. Nothing is asked of the cells: a cell past the end is 0.
unfoldable pub items_at : List ℕ → List ℕ → ℕ → ℕ → List Item
items_at items args first zero = []
items_at items args first (suc count) = item_at items args first ∷ items_at items args (first + 1) count

-- one after the other, up to the first refusal
unfoldable pub type_items_d : List Tok → (ℕ → Global) → ℕ → List ℕ → List Item → Typed
type_items_d ts globals ret t [] = on t
type_items_d ts globals ret t (i ∷ is) =
    then_typed (type_item_d ts globals ret t i) (λ t1. type_items_d ts globals ret t1 is)

-- "A block without terminator: void function gets a `ret` with its last operation's token; otherwise 21." The `ret`s
-- stand among the items already (crates/body/specs/Body.antt, closed_items).
unfoldable pub type_end_d : List ℕ → List Item → Typed
type_end_d t [] = on t
type_end_d t (i ∷ []) = pick (is_terminator i) (on t) (stop t (refusal 21 (item_token i) 0))
type_end_d t (i ∷ j ∷ is) = type_end_d t (j ∷ is)

unfoldable pub type_block_d : List Tok → (ℕ → Global) → ℕ → List ℕ → List Item → Typed
type_block_d ts globals ret t is = then_typed (type_items_d ts globals ret t is) (λ t1. type_end_d t1 is)

-- Functions. ---------------------------------------------------------------------------------------------------------

-- "Formals are entered first." Their token is the function's name.
unfoldable pub enter_formals_d : List ℕ → ℕ → List Variable → Typed
enter_formals_d t token [] = on t
enter_formals_d t token (v ∷ vs) = then_typed (enter_d t token v.id (type_cell v.ty)) (λ t1. enter_formals_d t1 token vs)

-- one block after the other, up to the first refusal
unfoldable pub type_blocks_d : List Tok → (ℕ → Global) → ℕ → List ℕ → List (List Item) → Typed
type_blocks_d ts globals ret t [] = on t
type_blocks_d ts globals ret t (b ∷ bs) = then_typed (type_block_d ts globals ret t b) (λ t1. type_blocks_d ts globals ret t1
    bs)

-- a function: its result type, its name's token, its formals, and its blocks in the order in which they are typed
unfoldable pub type_function_d : List Tok → (ℕ → Global) → ℕ → ℕ → List Variable → List (List Item) → List ℕ → Typed
type_function_d ts globals ret token formals blocks t =
    then_typed (enter_formals_d t token formals) (λ t1. type_blocks_d ts globals ret t1 blocks)

-- What the cells hold. -----------------------------------------------------------------------------------------------

-- n formals, a name and a type each
unfoldable pub formals_from : List ℕ → ℕ → ℕ → List Variable
formals_from rows at zero = []
formals_from rows at (suc n) = typed (named (get_or rows at 0)) (get_or rows (at + 1) 0) ∷ formals_from rows (at + 2) n

abbrev pub formals_in : List ℕ → ℕ → List Variable
formals_in rows i = formals_from rows (formals_at i) (at_most16 (get_or rows (count_at i) 0))

-- the items of a block's record
abbrev pub block_items : List ℕ → List ℕ → List ℕ → ℕ → List Item
block_items items args blocks k = items_at items args (block_at blocks k).first (block_at blocks k).operations

-- the blocks of these numbers, counted from the record `first`
unfoldable pub blocks_at : List ℕ → List ℕ → List ℕ → ℕ → List ℕ → List (List Item)
blocks_at items args blocks first [] = []
blocks_at items args blocks first (v ∷ vs) =
    block_items items args blocks (first + v) ∷ blocks_at items args blocks first vs

-- the blocks of a function in the walk's order
abbrev pub in_order : List ℕ → List ℕ → List ℕ → ℕ → ℕ → List (List Item)
in_order items args blocks first count =
    blocks_at items args blocks first (block_order (recorded blocks first) (at_most256 count))

-- The function of row i, among n, in a table that is cleared first.
abbrev pub type_row_d : List Tok → List ℕ → ℕ → List ℕ → List ℕ → List ℕ → ℕ → List ℕ → Typed
type_row_d ts rows n items args blocks i t =
    type_function_d ts (globals_in rows n) (get_or rows (ret_at i) 0) (get_or rows (row_at i) 0) (formals_in rows i)
    (in_order items args blocks (get_or rows (first_block_at i) 0) (get_or rows (block_count_at i) 0)) (pad_to (length t) [])
