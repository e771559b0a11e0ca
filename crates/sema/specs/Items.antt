-- The items that cells hold (crates/body/specs/Records.antt), for those who read them: a record and, for a call, the
-- run of its arguments.
use Rattle.std.specs.Prelude.{ℕ, zero, suc, ◌+◌, ◌*◌, ◌-◌, List, [], ◌∷◌, eqb, get_or}
use Rattle.utils.specs.Bytes.{pick}
use Rattle.body.specs.Kinds as K
use Rattle.parser.specs.Types as Types
use Rattle.pieces.specs.declared.Identifier.{Identifier}
use Rattle.body.specs.Body.{Item, label, plain, call, call_into}
use Rattle.parser.specs.declared.Ty.{Ty}
use Rattle.parser.specs.declared.Ty.TheVariants as Y
use Rattle.parser.specs.declared.Variable.{Variable}
use Rattle.parser.specs.declared.Operation.{Operation}
use Rattle.parser.specs.declared.Operation.TheVariants as O
use Rattle.body.specs.Records.{named, record_at}
use Rattle.body.specs.declared.ItemRecord.{ItemRecord}
use Rattle.body.specs.declared.Last.{Last}
use Rattle.body.specs.declared.Last.TheVariants as L

-- a type by its cell
unfoldable pub ty_of : ℕ → Ty
ty_of n =
    pick (eqb n Types.placeholder) Y.Placeholder
    (pick (eqb n Types.int) Y.Int
    (pick (eqb n Types.bool) Y.Bool (pick (eqb n Types.void) Y.Void (Y.Fn (n - Types.function)))))

abbrev pub typed : Identifier → ℕ → Variable
typed name type = record { id = name; ty = ty_of type }

-- the run of so many variables
unfoldable pub variables_at : List ℕ → ℕ → ℕ → List Variable
variables_at cells at zero = []
variables_at cells at (suc n) =
    typed (named (get_or cells (at * 2) 0)) (get_or cells (at * 2 + 1) 0) ∷ variables_at cells (at + 1) n

-- the operation of a record that is no label, with the name in its last two cells
unfoldable pub operation_of : ItemRecord → Identifier → Operation
operation_of r x =
    let k = r.kind in
    let w = r.token in
    pick (eqb k K.binary) (O.BinaryOp w (typed r.dest r.dty) r.left x)
    (pick (eqb k K.unary) (O.UnaryOp w (typed r.dest r.dty) r.left)
    (pick (eqb k K.const) (O.Const w (typed r.dest r.dty))
    (pick (eqb k K.print) (O.Print w r.left)
    (pick (eqb k K.jump) (O.Jump w x)
    (pick (eqb k K.ret) (O.Ret w)
    (pick (eqb k K.ret_value) (O.RetValue w r.left)
    (O.Nop w)))))))

-- the item of a record, by what its last two cells hold
unfoldable pub item_by : ItemRecord → List ℕ → Last → Item
item_by r args (L.Name x t) = pick (eqb r.kind K.label) (label r.token x) (plain (operation_of r x))
item_by r args (L.Labels l m) = plain (O.Branch r.token r.left l m)
item_by r args (L.Run first count) =
    let w = r.token in
    let xs = variables_at args first count in
    pick (eqb r.kind K.call_into) (call_into w (typed r.dest r.dty) r.left xs) (call w r.left xs)

unfoldable pub item_of : ItemRecord → List ℕ → Item
item_of r args = item_by r args r.last

abbrev pub item_at : List ℕ → List ℕ → ℕ → Item
item_at items args i = item_of (record_at items i) args
