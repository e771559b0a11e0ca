-- What tells readings apart, and what doesn't: a table of pairs of accepted texts with one claim, shown by
-- computation.
use Rattle.std.specs.Prelude.{ℕ, ◌≡◌, refl, List, [], ◌∷◌, Bool, true, false, eqb}
use Prim.Native.String.{String}
use Rattle.utils.specs.Bytes.{pick, bytes, same_bytes}
use Rattle.parser.specs.Runs.{variables_cells}
use Rattle.body.specs.Records.{operation_record, record_of, arguments_count}
use Rattle.link.specs.Cells.{block_cells, predecessor_cells}
use Rattle.functions.specs.Answer.{counts_from}
use Rattle.messages.specs.Opened as messages
use Rattle.sema.specs.Opened as typing
use Rattle.functions.specs.Laid.{rows_cells, all_blocks, all_predecessors}
use Rattle.elaborate.specs.Types.{callee_in, is_call, typed_last, typed_record, typed_items_cells, typed_variables}
use Rattle.elaborate.specs.Types.{typed_arguments_cells}
use Rattle.unit.specs.Outcome.{unit_d, tables_of, all_items, all_arguments}
use Rattle.checker.specs.Check.{check_of}
use Rattle.edited.specs.Reading.{Seen, number, word, seen, formal_columns, item_table, records, first_argument}
use Rattle.edited.specs.Reading.{arguments_of, predecessors_of, ReadingOf, seen_each, reading_of, moved_reading}

-- To unfold this is to unfold the whole definition.
unfoldable opened : ℕ
unfolding
    typing.opened messages.opened operation_record record_of arguments_count block_cells predecessor_cells counts_from is_call
    typed_last typed_record unit_d tables_of callee_in typed_items_cells typed_variables typed_arguments_cells rows_cells all_items
    all_arguments all_blocks all_predecessors check_of variables_cells seen formal_columns item_table records first_argument
    arguments_of predecessors_of seen_each reading_of moved_reading
opened = 0

-- Whether two readings are the same. --------------------------------------------------------------------------------

same_seen : Seen → Seen → Bool
same_seen (number x) (number y) = eqb x y
same_seen (number x) (word w) = false
same_seen (word w) (number x) = false
same_seen (word v) (word w) = same_bytes v w

same_record : List Seen → List Seen → Bool
same_record [] [] = true
same_record [] (y ∷ ys) = false
same_record (x ∷ xs) [] = false
same_record (x ∷ xs) (y ∷ ys) = let more = same_record xs ys in pick (same_seen x y) more false

same_records : List (List Seen) → List (List Seen) → Bool
same_records [] [] = true
same_records [] (r ∷ rs) = false
same_records (r ∷ rs) [] = false
same_records (r ∷ rs) (s ∷ ss) = let more = same_records rs ss in pick (same_record r s) more false

-- the kinds of records in which two readings differ
abbrev row : ℕ
row = 1

abbrev tokens : ℕ
tokens = 2

abbrev items : ℕ
items = 3

abbrev arguments : ℕ
arguments = 4

abbrev blocks : ℕ
blocks = 5

abbrev preds : ℕ
preds = 6

unlike : ℕ → List (List Seen) → List (List Seen) → List ℕ → List ℕ
unlike kind rs ss more = pick (same_records rs ss) more (kind ∷ more)

differing : ReadingOf → ReadingOf → List ℕ
differing a b =
    unlike row (a.row ∷ []) (b.row ∷ [])
    (unlike tokens a.tokens b.tokens
    (unlike items a.items b.items
    (unlike arguments a.arguments b.arguments
    (unlike blocks a.blocks b.blocks
    (unlike preds a.predecessors b.predecessors [])))))

-- The table. --------------------------------------------------------------------------------------------------------

-- its text's number, 0 where it is accepted, and the reading of a function
pub record Read : Type 0 where
  pub number_is : ℕ
  pub reading : ReadingOf

-- with lines as they are, and counted from the function's own
reads : String → ℕ → Read
reads s j =
    let k = check_of (bytes s) in
    record { number_is = k.answer.number; reading = reading_of (bytes s) k j }

moves : String → ℕ → Read
moves s j =
    let k = check_of (bytes s) in
    record { number_is = k.answer.number; reading = moved_reading (bytes s) k j }

pub record Pair : Type 0 where
  pub one : Read
  pub other : Read
  -- the kinds of records in which they differ, those and no others
  pub in_kinds : List ℕ

abbrev differ : String → String → List ℕ → Pair
differ s t kinds = record { one = reads s 0; other = reads t 0; in_kinds = kinds }

abbrev apart : Read → Read → List ℕ → Pair
apart r q kinds = record { one = r; other = q; in_kinds = kinds }

abbrev agree : Read → Read → Pair
agree r q = apart r q []

unfoldable pairs : List Pair
pairs =
    -- an operator, a constant, the order of operands
    differ "@f(a: int) { b: int = add a a; }" "@f(a: int) { b: int = mul a a; }" (tokens ∷ [])
    ∷ differ "@f { a: int = const 1; }" "@f { a: int = const 2; }" (tokens ∷ [])
    ∷ differ "@f(a: int, b: int) { a: int = sub a b; }" "@f(a: int, b: int) { a: int = sub b a; }" (tokens ∷ items ∷ [])
    -- an edge, by a `jmp` and by a `br`; the order of edges
    ∷ differ "@f { jmp .a; .a: ret; .b: ret; }" "@f { jmp .b; .a: ret; .b: ret; }" (tokens ∷ items ∷ blocks ∷ [])
    ∷ differ "@f { .a: br q .a .b; .b: jmp .a; }" "@f { .a: br q .a .b; .b: jmp .b; }"
    (tokens ∷ items ∷ blocks ∷ preds ∷ [])
    ∷ differ "@f(c: bool) { br c .a .b; .a: ret; .b: ret; }" "@f(c: bool) { br c .b .a; .a: ret; .b: ret; }"
    (tokens ∷ items ∷ blocks ∷ [])
    -- where a block ends
    ∷ differ "@f { nop; nop; jmp .a; .a: ret; }" "@f { nop; jmp .a; .a: nop; ret; }" (tokens ∷ items ∷ blocks ∷ [])
    -- where a block begins: behind one label, and behind two
    ∷ differ "@f { .a: nop; }" "@f { .a: .b: nop; }" (row ∷ tokens ∷ items ∷ blocks ∷ [])
    -- a type, a formal's type, a formal's name, the function's name
    ∷ differ "@f { a: int = const 1; }" "@f { a: bool = const true; }" (tokens ∷ items ∷ [])
    ∷ differ "@f(a: int) { nop; }" "@f(a: bool) { nop; }" (row ∷ tokens ∷ [])
    ∷ differ "@f(a: int) { nop; }" "@f(b: int) { nop; }" (row ∷ tokens ∷ [])
    ∷ differ "@f { nop; }" "@g { nop; }" (row ∷ tokens ∷ [])
    -- a callee, an argument, its type, a label's name
    ∷ differ "@f { call @g; } @g { nop; } @h { nop; }" "@f { call @h; } @g { nop; } @h { nop; }" (tokens ∷ items ∷ [])
    ∷ differ "@f(a: int, b: int) { call @f a a; }" "@f(a: int, b: int) { call @f a b; }" (tokens ∷ arguments ∷ [])
    ∷ differ "@f(a: int) { call @f a; }" "@f(a: bool) { call @f a; }" (row ∷ tokens ∷ arguments ∷ [])
    ∷ differ "@f { .a: nop; }" "@f { .b: nop; }" (tokens ∷ items ∷ [])
    -- the same tokens, but the number of the function's type, and of its callee's
    ∷ apart (reads "@f { nop; }" 0) (reads "@g(a: int) { nop; } @f { nop; }" 1) (row ∷ [])
    ∷ differ "@f { a: int = const 1; call @g a; } @g(a: int) { nop; }"
    "@f { a: int = const 1; call @g a; } @h(a: bool) { nop; } @g(a: int) { nop; }" (items ∷ [])
    -- an operation more, a place, a line
    ∷ differ "@f { nop; }" "@f { nop; nop; }" (row ∷ tokens ∷ items ∷ blocks ∷ [])
    ∷ differ "@f { nop; }" "@f {  nop; }" (tokens ∷ [])
    ∷ differ "@f { nop; }" "\n@f { nop; }" (row ∷ tokens ∷ [])
    -- what stands before and behind: blanks, comments, functions with names of their own
    ∷ agree (reads "@f { nop; }" 0) (reads "  @f { nop; }" 0)
    ∷ agree (reads "@f { nop; }" 0) (reads "/* before */ @f { nop; } # behind" 0)
    ∷ agree (reads "@f(a: int) { b: int = id a; call @f b; }" 0)
    (reads "@g(b: int) { c: int = add b b; call @g c; } @f(a: int) { b: int = id a; call @f b; }" 1)
    ∷ agree (reads "@f(c: bool) { br c .a .b; .a: ret; .b: ret; }" 0)
    (reads "@f(c: bool) { br c .a .b; .a: ret; .b: ret; } @g { .b: jmp .b; }" 0)
    -- with lines counted from the function's own
    ∷ agree (moves "@f { nop; }" 0) (moves "\n\n@f { nop; }" 0)
    ∷ agree (moves "@f {\n nop; }" 0) (moves "@g { nop; }\n@f {\n nop; }" 1)
    ∷ []

right : List Pair → Bool
right [] = true
right (p ∷ ps) =
    let more = right ps in
    pick (same_bytes (p.one.number_is ∷ p.other.number_is ∷ []) (0 ∷ 0 ∷ []))
    (pick (same_bytes (differing p.one.reading p.other.reading) p.in_kinds) more false) false

-- THE CLAIM
all_right : right pairs ≡ true
unfolding opened same_seen same_record same_records unlike differing reads moves pairs right
all_right = refl
