-- Items as records of eight cells (docs/INTERFACE.md): the kind, the token, the result and its type, the left operand
-- and its type, and two cells by the kind: the right operand and its type; of a call its first argument's number among
-- all arguments and how many it has; of a `br` its two labels; of a `jmp` and a label the label. A call has its callee
-- on the left, and `br` its condition. Cells that a kind has no use for are 0, and so is an operand's type until typing
-- writes it.
use Rattle.std.specs.Prelude.{ℕ, zero, suc, ◌+◌, ◌*◌, List, [], ◌∷◌, ◌++◌, eqb, length, get_or}
use Rattle.utils.specs.Bytes.{pick}
use Rattle.body.specs.Kinds as K
use Rattle.pieces.specs.declared.Identifier.{Identifier}
use Rattle.parser.specs.Runs.{type_cell, variables_cells}
use Rattle.body.specs.Body.{Item, label, plain, call, call_into, operation_token, arguments_in}
use Rattle.body.specs.Shapes.{Shape, name, operation}
use Rattle.parser.specs.declared.Operation.{Operation}
use Rattle.parser.specs.declared.Operation.TheVariants as O
use Rattle.body.specs.declared.ItemRecord.{ItemRecord}
use Rattle.body.specs.declared.Last.{Last}
use Rattle.body.specs.declared.Last.TheVariants as L

abbrev pub named : ℕ → Identifier
named n = record { 0 = n }

abbrev pub none : Identifier
none = named 0

abbrev pub item_record : ℕ → ℕ → Identifier → ℕ → Identifier → ℕ → Last → ItemRecord
item_record k w d dt l lt z = record { kind = k; token = w; dest = d; dty = dt; left = l; lty = lt; last = z }

-- no right operand
abbrev pub nothing : Last
nothing = L.Name none 0

-- an operation whose token's cell is w
abbrev pub record_by : Operation → ℕ → ItemRecord
record_by (O.BinaryOp _ v x y) w = item_record K.binary w v.id (type_cell v.ty) x 0 (L.Name y 0)
record_by (O.UnaryOp _ v x) w = item_record K.unary w v.id (type_cell v.ty) x 0 nothing
record_by (O.Const _ v) w = item_record K.const w v.id (type_cell v.ty) none 0 nothing
record_by (O.Print _ x) w = item_record K.print w none 0 x 0 nothing
record_by (O.Nop _) w = item_record K.nop w none 0 none 0 nothing
record_by (O.Jump _ l) w = item_record K.jump w none 0 none 0 (L.Name l 0)
record_by (O.Branch _ x l m) w = item_record K.branch w none 0 x 0 (L.Labels l m)
record_by (O.Ret _) w = item_record K.ret w none 0 none 0 nothing
record_by (O.RetValue _ x) w = item_record K.ret_value w none 0 x 0 nothing

unfoldable pub operation_record : Operation → ItemRecord
operation_record o = record_by o (operation_token o)

-- an item whose arguments, if it has any, begin at `used`
unfoldable pub record_of : ℕ → Item → ItemRecord
record_of used (label w l) = item_record K.label w none 0 none 0 (L.Name l 0)
record_of used (plain o) = operation_record o
record_of used (call w g xs) = item_record K.call w none 0 g 0 (L.Run used (length xs))
record_of used (call_into w v g xs) = item_record K.call_into w v.id (type_cell v.ty) g 0 (L.Run used (length xs))

-- the last two cells
abbrev pub first_cell : Last → ℕ
first_cell (L.Name x t) = x.0
first_cell (L.Labels l m) = l.0
first_cell (L.Run first count) = first

abbrev pub second_cell : Last → ℕ
second_cell (L.Name x t) = t
second_cell (L.Labels l m) = m.0
second_cell (L.Run first count) = count

abbrev pub record_cells : ItemRecord → List ℕ
record_cells r =
    r.kind ∷ r.token ∷ r.dest.0 ∷ r.dty ∷ r.left.0 ∷ r.lty ∷ first_cell r.last ∷ second_cell r.last ∷ []

-- the cells of items whose arguments begin at `used`, and those of the arguments
unfoldable pub items_cells : ℕ → List Item → List ℕ
items_cells used [] = []
items_cells used (i ∷ is) = record_cells (record_of used i) ++ items_cells (used + length (arguments_in i)) is

unfoldable pub arguments_cells : List Item → List ℕ
arguments_cells [] = []
arguments_cells (i ∷ is) = variables_cells (arguments_in i) ++ arguments_cells is

-- how many arguments there are
unfoldable pub arguments_count : List Item → ℕ
arguments_count [] = 0
arguments_count (i ∷ is) = length (arguments_in i) + arguments_count is

-- What cells hold. --------------------------------------------------------------------------------------------------

-- what two cells hold, by the kind of their record
unfoldable pub last_of : ℕ → ℕ → ℕ → Last
last_of kind first second =
    pick (eqb kind K.call) (L.Run first second)
    (pick (eqb kind K.call_into) (L.Run first second)
    (pick (eqb kind K.branch) (L.Labels (named first) (named second))
    (L.Name (named first) second)))

-- the record at an index
abbrev pub record_at : List ℕ → ℕ → ItemRecord
record_at cells i =
    item_record
    (get_or cells (i * 8) 0)
    (get_or cells (i * 8 + 1) 0)
    (named (get_or cells (i * 8 + 2) 0))
    (get_or cells (i * 8 + 3) 0)
    (named (get_or cells (i * 8 + 4) 0))
    (get_or cells (i * 8 + 5) 0)
    (last_of (get_or cells (i * 8) 0) (get_or cells (i * 8 + 6) 0) (get_or cells (i * 8 + 7) 0))

-- what blocks and edges need of a record: a label's name, or an operation's token and the labels that it goes to
unfoldable pub goes_by : ℕ → Last → List ℕ
goes_by kind (L.Name l t) = pick (eqb kind K.jump) (l.0 ∷ []) []
goes_by kind (L.Labels l m) = l.0 ∷ m.0 ∷ []
goes_by kind (L.Run first count) = []

abbrev pub goes_of : ItemRecord → List ℕ
goes_of r = goes_by r.kind r.last

unfoldable pub record_part : ItemRecord → Shape
record_part r = pick (eqb r.kind K.label) (name (first_cell r.last)) (operation r.token (goes_of r))

-- the parts of `count` records from the index `first` on
unfoldable pub parts_at : List ℕ → ℕ → ℕ → List Shape
parts_at cells first zero = []
parts_at cells first (suc count) = record_part (record_at cells first) ∷ parts_at cells (first + 1) count
