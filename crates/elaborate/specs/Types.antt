-- Once a function is typed, the operands of its operations get their types: those that their names have in the table of
-- names, and a callee its function type. The operand kept in `ret`, `print`, `br` stays of placeholder type. The table
-- is the one that the function's typing leaves; it may stand for the table at each visit, since it has the type that
-- was found there for every name looked up (`Final`, crates/sema/specs/Visits.antt).
use Rattle.std.specs.Prelude.{ℕ, zero, suc, ◌+◌, ◌*◌, ◌≡◌, List, [], ◌∷◌, ◌++◌, Bool, true, eqb, length, get_or}
use Rattle.std.specs.Prelude.{set, None, Option, Some}
use Rattle.std.proofs.lemmas.List.Edits.{sets}
use Rattle.utils.specs.Bytes.{pick}
use Rattle.body.specs.Body.{Item, arguments_in}
use Rattle.body.specs.Kinds as K
use Rattle.parser.specs.Types as Types
use Rattle.parser.specs.declared.Variable.{Variable}
use Rattle.body.specs.Records.{item_record, record_of, record_at, record_cells, items_cells, arguments_cells}
use Rattle.body.specs.declared.ItemRecord.{ItemRecord}
use Rattle.body.specs.declared.Last.{Last}
use Rattle.body.specs.declared.Last.TheVariants as L
use Rattle.functions.specs.Functions.{Function}
use Rattle.functions.specs.Columns.{type_at}
use Rattle.functions.specs.Rows.{row_from}

-- a name's type
abbrev pub type_of : List ℕ → ℕ → ℕ
type_of table name = get_or table name 0

-- a callee's type: a function type's cell
unfoldable pub callee_in : List Function → ℕ → ℕ
callee_in [] name = 0
callee_in (f ∷ fs) name =
    let more = callee_in fs name in
    pick (eqb f.head.name.0 name) (f.head.type + Types.function) more

unfoldable pub is_call : ℕ → Bool
is_call kind = pick (eqb kind K.call) true (eqb kind K.call_into)

-- a right operand with its type
unfoldable pub typed_last : List ℕ → Last → Last
typed_last table (L.Name x t) = L.Name x (type_of table x.0)
typed_last table (L.Labels l m) = L.Labels l m
typed_last table (L.Run first count) = L.Run first count

-- `callees` gives a callee's type.
unfoldable pub typed_record : List ℕ → (ℕ → ℕ) → ItemRecord → ItemRecord
typed_record table callees r =
    let k = r.kind in
    let left = type_of table r.left.0 in
    let right = typed_last table r.last in
    let callee = callees r.left.0 in
    pick (eqb k K.binary) (item_record k r.token r.dest r.dty r.left left right)
    (pick (eqb k K.unary) (item_record k r.token r.dest r.dty r.left left r.last)
    (pick (is_call k) (item_record k r.token r.dest r.dty r.left callee r.last)
    r))

-- items with the types of their operands, and arguments with theirs
unfoldable pub typed_items_cells : List ℕ → (ℕ → ℕ) → ℕ → List Item → List ℕ
typed_items_cells table callees used [] = []
typed_items_cells table callees used (i ∷ is) =
    record_cells (typed_record table callees (record_of used i))
    ++ typed_items_cells table callees (used + length (arguments_in i)) is

unfoldable pub typed_variables : List ℕ → List Variable → List ℕ
typed_variables table [] = []
typed_variables table (v ∷ vs) = v.id.0 ∷ type_of table v.id.0 ∷ typed_variables table vs

unfoldable pub typed_arguments_cells : List ℕ → List Item → List ℕ
typed_arguments_cells table [] = []
typed_arguments_cells table (i ∷ is) = typed_variables table (arguments_in i) ++ typed_arguments_cells table is

-- What `elaborate` does to cells that hold `count` items from the item `first` on, and their arguments: they hold them
-- with the types of their operands afterwards, and the cells before and behind are as they were.
pub record Elaborated (table : List ℕ) (callees : ℕ → ℕ) (first count : ℕ)
    (items₀ items arguments₀ arguments : List ℕ) : Type 0
  where
    pub items_are : (is : List Item) (used : ℕ) (before behind : List ℕ) → length is ≡ count → length before ≡ first * 8
        → items₀ ≡ before ++ (items_cells used is ++ behind)
        → items ≡ before ++ (typed_items_cells table callees used is ++ behind)
    pub arguments_are : (is : List Item) (used : ℕ) (before behind front back : List ℕ) → length is ≡ count
        → length before ≡ first * 8 → items₀ ≡ before ++ (items_cells used is ++ behind)
        → length front ≡ used * 2 → arguments₀ ≡ front ++ (arguments_cells is ++ back)
        → arguments ≡ front ++ (typed_arguments_cells table is ++ back)

-- The same on any cells, whatever they hold. ------------------------------------------------------------------------

-- a callee's type, by the rows of the header table: the cell of the type of the row that was found
abbrev pub type_cell_of : List ℕ → Option ℕ → ℕ
type_cell_of rows (Some i) = get_or rows (type_at i) 0 + Types.function
type_cell_of rows None = 0

abbrev pub callee_of : List ℕ → ℕ → ℕ → ℕ
callee_of rows n name = type_cell_of rows (row_from rows 0 n name)

-- the arguments of a call: so many from the argument `at` on
unfoldable pub typed_run : List ℕ → List ℕ → ℕ → ℕ → List ℕ
typed_run table cells at zero = cells
typed_run table cells at (suc n) =
    typed_run table (set cells (at * 2 + 1) (type_of table (get_or cells (at * 2) 0))) (at + 1) n

abbrev pub typed_in : List ℕ → List ℕ → Last → List ℕ
typed_in table cells (L.Name x t) = cells
typed_in table cells (L.Labels l m) = cells
typed_in table cells (L.Run first count) = typed_run table cells first count

-- those of a record, if it is a call
abbrev pub typed_arguments : List ℕ → List ℕ → ItemRecord → List ℕ
typed_arguments table cells r = typed_in table cells r.last

-- the items of a function, and their arguments
unfoldable pub typed_items : List ℕ → (ℕ → ℕ) → List ℕ → ℕ → ℕ → List ℕ
typed_items table callees cells first zero = cells
typed_items table callees cells first (suc count) =
    typed_items table callees
    (sets cells (first * 8) (record_cells (typed_record table callees (record_at cells first)))) (first + 1) count

unfoldable pub typed_calls : List ℕ → List ℕ → List ℕ → ℕ → ℕ → List ℕ
typed_calls table items cells first zero = cells
typed_calls table items cells first (suc count) =
    typed_calls table items (typed_arguments table cells (record_at items first)) (first + 1) count
