-- Document 01's cases marked *, of check and of recheck: one table with one claim, shown by computation. A row is what
-- a text gives: a refusal's number, line, place and message; or how many tokens and functions it has, its items (with
-- the `ret`s that are added) and its blocks with their edges.
use Rattle.std.specs.Prelude.{ℕ, zero, suc, ◌*◌, ◌≡◌, refl, List, [], ◌∷◌, ◌++◌, Bool, true, false, length, get_or, take, drop}
use Prim.Native.String.{String}
use Rattle.utils.specs.Bytes.{pick, pad_to, bytes, same_bytes}
use Rattle.parser.specs.Runs.{variables_cells}
use Rattle.body.specs.Records.{operation_record, record_of}
use Rattle.link.specs.Cells.{block_cells, predecessor_cells}
use Rattle.functions.specs.Answer.{counts_from}
use Rattle.messages.specs.Opened as messages
use Rattle.sema.specs.Opened as typing
use Rattle.functions.specs.Rows.{types_at}
use Rattle.functions.specs.Laid.{rows_cells, all_blocks, all_predecessors}
use Rattle.elaborate.specs.Types.{callee_in, is_call, typed_last, typed_record, typed_items_cells, typed_variables}
use Rattle.elaborate.specs.Types.{typed_arguments_cells}
use Rattle.unit.specs.Outcome.{unit_d, tables_of, all_items, all_arguments}
use Rattle.checker.specs.Check.{Checking, check_of}
use Rattle.headers.specs.Table.{between, formals_fit, name_fits, type_fits, row_fits, rows_fit, is_table}
use Rattle.headers.specs.Spelled.{row_name, row_spelled}
use Rattle.headers.specs.Kept.{is_whole, keeps_behind, keeps}
use Rattle.recheck.specs.Recheck.{alone_d, function_alone, recheck_of}

-- To unfold this is to unfold the whole definition.
unfoldable pub opened : ℕ
unfolding
    typing.opened messages.opened operation_record record_of block_cells predecessor_cells counts_from is_call typed_last
    typed_record unit_d tables_of callee_in typed_items_cells typed_variables typed_arguments_cells rows_cells all_items
    all_arguments all_blocks all_predecessors check_of variables_cells types_at between formals_fit name_fits type_fits row_fits
    rows_fit is_table row_name row_spelled is_whole keeps_behind keeps alone_d function_alone recheck_of
opened = 0

-- Records of eight cells (docs/INTERFACE.md), as a row of the table gives them. --------------------------------------

-- n records
eights : ℕ → List ℕ → List (List ℕ)
eights zero cells = []
eights (suc n) cells = take 8 cells ∷ eights n (drop 8 cells)

-- an item: its kind, and the types of its result, its left and its right operand. In the last place a call has how many
-- arguments it has, a `br` its second label's name
abbrev item : ℕ → ℕ → ℕ → ℕ → List ℕ
item kind result left right = kind ∷ result ∷ left ∷ right ∷ []

abbrev label : List ℕ
label = item 1 0 0 0

abbrev nop : List ℕ
nop = item 8 0 0 0

abbrev ret : List ℕ
ret = item 11 0 0 0

abbrev ret_value : List ℕ
ret_value = item 12 0 0 0

-- a block: how many operations it has, its successors, its predecessors and its dead mark
abbrev block : ℕ → List ℕ → List ℕ → ℕ → List ℕ
block operations goes from dead = operations ∷ length goes ∷ (goes ++ (length from ∷ (from ++ (dead ∷ []))))

items_in : List (List ℕ) → List ℕ
items_in [] = []
items_in (r ∷ rs) = item (get_or r 0 0) (get_or r 3 0) (get_or r 5 0) (get_or r 7 0) ++ items_in rs

blocks_in : List ℕ → List (List ℕ) → List ℕ
blocks_in preds [] = []
blocks_in preds (r ∷ rs) =
    block (get_or r 1 0) (take (get_or r 2 0) (get_or r 3 0 ∷ get_or r 4 0 ∷ []))
    (take (get_or r 6 0) (drop (get_or r 5 0) preds)) (get_or r 7 0)
    ++ blocks_in preds rs

-- The table. --------------------------------------------------------------------------------------------------------

-- number, line, place, how many tokens, functions, items and blocks, the cells of the last two; then items and blocks
numbers : Checking → List ℕ
numbers k =
    let a = k.answer in
    let u = k.unit in
    a.number ∷ a.line ∷ a.place ∷ a.tokens ∷ a.functions
    ∷ a.items ∷ length u.items ∷ a.blocks ∷ length u.blocks
    ∷ (items_in (eights a.items u.items) ++ blocks_in u.predecessors (eights a.blocks u.blocks))

pub record Case : Type 0 where
  pub given : Checking
  pub gives : List ℕ
  pub says : String

joined : List (List ℕ) → List ℕ
joined [] = []
joined (r ∷ rs) = r ++ joined rs

-- refused with this number, line, place and message
abbrev refused : Checking → ℕ → ℕ → ℕ → String → Case
refused k number line place m =
    record { given = k; gives = number ∷ line ∷ place ∷ 0 ∷ 0 ∷ 0 ∷ 0 ∷ 0 ∷ 0 ∷ []; says = m }

-- accepted, with so many tokens and functions, these items and these blocks
abbrev accepted : Checking → ℕ → ℕ → List (List ℕ) → List (List ℕ) → Case
accepted k tokens functions items blocks =
    let is = length items in
    let bs = length blocks in
    record {
      given = k;
      gives = 0 ∷ 0 ∷ 0 ∷ tokens ∷ functions ∷ is ∷ is * 8 ∷ bs ∷ bs * 8 ∷ (joined items ++ joined blocks);
      says = "";
    }

-- The rows of a check, and of a recheck of a text's first function.
abbrev refuses : String → ℕ → ℕ → ℕ → String → Case
refuses s number line place m = refused (check_of (bytes s)) number line place m

abbrev accepts : String → ℕ → ℕ → List (List ℕ) → List (List ℕ) → Case
accepts s tokens functions items blocks = accepted (check_of (bytes s)) tokens functions items blocks

rechecked : String → String → Checking
rechecked old new =
    recheck_of (bytes old) (pad_to 2881 (check_of (bytes old)).unit.functions) 0 (bytes new)

unfoldable cases : List Case
cases =
    accepts "" 1 0 [] []
    ∷ accepts "@f { nop; }" 6 1 (nop ∷ ret ∷ []) (block 2 [] [] 0 ∷ [])
    ∷ refuses "@f { }" 22 1 0 "[line 1] Error : empty block."
    ∷ accepts "@f { .a: .b: nop; }" 10 1 (label ∷ label ∷ nop ∷ ret ∷ []) (block 2 [] [] 0 ∷ [])
    ∷ refuses "@f { nop; .a: .b: nop; }" 22 1 0 "[line 1] Error : empty block."
    ∷ refuses "@f { ret; nop; }" 12 1 10 "[line 1] Error at 'nop': Basic block must start with a label."
    ∷ accepts "@f { .a: br q .a .a; }" 11 1 (label ∷ item 10 0 0 1 ∷ [])
    (block 1 (0 ∷ 0 ∷ []) (0 ∷ 0 ∷ []) 0 ∷ [])
    -- the call's result is an `int`, and its callee has function type 1
    ∷ accepts "@f { x: int = call @g x; } @g(a: int): int { ret a; }" 25 2 (item 6 1 5 1 ∷ ret ∷ ret_value ∷ [])
    (block 2 [] [] 0 ∷ block 1 [] [] 0 ∷ [])
    ∷ refuses "@f { x: int = const true; }" 17 1 20 "[line 1] Error at 'true': 'int' type expected; 'bool' found"
    ∷ refuses "@f: int { nop; }" 21 1 10 "[line 1] Error at 'nop': Block terminator expected to be jump, br, or ret."
    -- by document 01 the first is 10 and the second accepted; document 02, A2: both "answer the new number"
    ∷ refuses "@f { x: int = const 2147483648; }" 43 1 20 "[line 1] Error : Number out of range."
    ∷ refuses "@f { nop 2147483648; }" 43 1 9 "[line 1] Error : Number out of range."
    ∷ accepted (rechecked "@f { nop; }" "@f { ret; }") 6 1 (ret ∷ []) (block 1 [] [] 0 ∷ [])
    ∷ refused (rechecked "@f { nop; }" "@f: int { nop; }") 41 1 0 "[line 1] Error : header changed."
    ∷ []

-- a message ends with a newline
abbrev pub line : List ℕ → List ℕ
line [] = []
line (b ∷ bs) = (b ∷ bs) ++ (10 ∷ [])

right : List Case → Bool
right [] = true
right (c ∷ cs) =
    let more = right cs in
    let k = c.given in
    pick (same_bytes (numbers k) c.gives) (pick (same_bytes k.message (line (bytes c.says))) more false) false

-- THE CLAIM
all_right : right cases ≡ true
unfolding opened eights items_in blocks_in numbers joined rechecked cases right
all_right = refl
