-- One operation's typing (document 01, "Typing"; Sema of parser.rs), in exactly its order of look-ups, entries and
-- comparisons.
use Rattle.std.specs.Prelude.{ℕ, List, [], ◌∷◌, eqb, leb, length, get_or}
use Rattle.utils.specs.Bytes.{pick}
use Rattle.lexer.specs.Decoded.{Tok, token_at}
use Rattle.parser.specs.Types.{int, bool, void}
use Rattle.pieces.specs.declared.Identifier.{Identifier}
use Rattle.pieces.specs.Kinds as T
use Rattle.parser.specs.Step.{refusal}
use Rattle.parser.specs.Runs.{type_cell}
use Rattle.body.specs.Body.{Item, label, plain, call, call_into}
use Rattle.parser.specs.declared.Variable.{Variable}
use Rattle.parser.specs.declared.Operation.{Operation}
use Rattle.parser.specs.declared.Operation.TheVariants as O
use Rattle.sema.specs.Symbols.{Typed, on, stop, then_typed, facts, no_name, enter_d, then_look, then_same}

-- result type, left, right compared
unfoldable pub then_three : List ℕ → ℕ → ℕ → ℕ → ℕ → ℕ → ℕ → Typed
then_three t token result left right wanted_result wanted_operands =
    then_same t token result wanted_result
    (then_same t token left wanted_operands
    (then_same t token right wanted_operands (on t)))

-- What is compared: result type, left, right; `eq`: right against left, then result. The kind is that of the operator's
-- word, and they stand in this order (crates/pieces/specs/Kinds.antt): `add` `mul` `sub` `div` `mod`, then `eq`, then
-- `lt` `gt` `le` `ge`, then `and` `or`.
unfoldable pub operands_d : List ℕ → ℕ → ℕ → ℕ → ℕ → ℕ → Typed
operands_d t kind token result left right =
    pick (leb kind T.«mod») (then_three t token result left right int int)
    (pick (eqb kind T.eq) (then_same t token right left (then_same t token result bool (on t)))
    (pick (leb kind T.ge) (then_three t token result left right bool int)
    (then_three t token result left right bool bool)))

-- Binary: left, right looked up; result entered; then compared.
unfoldable pub type_binary_d : List ℕ → ℕ → ℕ → Identifier → ℕ → Identifier → Identifier → Typed
type_binary_d t kind token result type x y =
    then_look t token x (λ left.
    then_look t token y (λ right.
    then_typed (enter_d t token result type) (λ t1. operands_d t1 kind token type left right)))

-- What is compared: `id`: operand against result; `not`: result, operand.
unfoldable pub operand_d : List ℕ → ℕ → ℕ → ℕ → ℕ → Typed
operand_d t kind token type operand =
    pick (eqb kind T.id) (then_same t token operand type (on t))
    (then_same t token type bool (then_same t token operand bool (on t)))

-- Unary: operand looked up; result entered; then compared.
unfoldable pub type_unary_d : List ℕ → ℕ → ℕ → Identifier → ℕ → Identifier → Typed
type_unary_d t kind token result type x =
    then_look t token x (λ operand.
    then_typed (enter_d t token result type) (λ t1. operand_d t1 kind token type operand))

-- `const`: type against result, then entered.
unfoldable pub type_const_d : List ℕ → ℕ → ℕ → Identifier → ℕ → Typed
type_const_d t kind token result type =
    then_same t token (pick (eqb kind T.integer) int bool) type (enter_d t token result type)

-- `ret x`: x looked up, void 18, type. `ret`: 19.
unfoldable pub type_ret_value_d : List ℕ → ℕ → ℕ → Identifier → Typed
type_ret_value_d t ret token x =
    then_look t token x (λ found.
    pick (eqb ret void) (stop t (refusal 18 token 0)) (then_same t token found ret (on t)))

unfoldable pub type_ret_d : List ℕ → ℕ → ℕ → Typed
type_ret_d t ret token = pick (eqb ret void) (on t) (stop t (refusal 19 token 0))

-- Calls. ------------------------------------------------------------------------------------------------------------

-- A function's type as calls see it: its result and its formals' types; absent where no function has the name.
pub data Global : Type 0 where
  absent : Global
  global : ℕ → List ℕ → Global

-- arguments looked up
unfoldable pub present_d : List ℕ → ℕ → List Variable → Typed
present_d t token [] = on t
present_d t token (x ∷ xs) = let more = present_d t token xs in then_look t token x.id (λ type. more)

unfoldable pub types_of : List ℕ → List Variable → List ℕ
types_of t [] = []
types_of t (x ∷ xs) = get_or t x.id.0 0 ∷ types_of t xs

-- then compared
unfoldable pub same_all : List ℕ → ℕ → List ℕ → List ℕ → Typed
same_all t token [] wanted = on t
same_all t token (f ∷ fs) [] = on t
same_all t token (f ∷ fs) (w ∷ ws) = let more = same_all t token fs ws in then_same t token f w more

-- count 20; then arguments looked up; then compared
unfoldable pub type_arguments_d : List ℕ → ℕ → List ℕ → List Variable → Typed
type_arguments_d t token formals xs =
    pick (eqb (length formals) (length xs))
    (then_typed (present_d t token xs) (λ t1. same_all t1 token (types_of t1 xs) formals))
    (stop t (facts 20 token (length formals) (length xs) no_name))

-- callee looked up
unfoldable pub then_global : List ℕ → ℕ → Identifier → Global → (ℕ → List ℕ → Typed) → Typed
then_global t token callee absent k = stop t (facts 16 token 0 0 callee)
then_global t token callee (global ret formals) k = k ret formals

-- `call` without a result: callee looked up; non-void 19; then the arguments.
unfoldable pub type_call_d : List ℕ → Global → ℕ → Identifier → List Variable → Typed
type_call_d t g token callee xs =
    then_global t token callee g (λ ret formals.
    pick (eqb ret void) (type_arguments_d t token formals xs) (stop t (refusal 19 token 0)))

-- `call` with a result: callee looked up; void callee 18, type 17, result entered; then the arguments. So the result is
-- entered before the arguments are looked up.
unfoldable pub type_call_into_d : List ℕ → Global → ℕ → Identifier → ℕ → Identifier → List Variable → Typed
type_call_into_d t g token result type callee xs =
    then_global t token callee g (λ ret formals.
    pick (eqb ret void) (stop t (refusal 18 token 0))
    (then_same t token type ret
    (then_typed (enter_d t token result type) (λ t1. type_arguments_d t1 token formals xs))))

-- An operation that calls nothing, by its form. `ret` is the result type of the function it stands in. `print` operands
-- and `br` conditions are never looked up.
unfoldable pub type_plain_d : List Tok → ℕ → List ℕ → Operation → Typed
type_plain_d ts ret t (O.BinaryOp w v x y) = type_binary_d t (token_at ts w).kind w v.id (type_cell v.ty) x y
type_plain_d ts ret t (O.UnaryOp w v x) = type_unary_d t (token_at ts w).kind w v.id (type_cell v.ty) x
type_plain_d ts ret t (O.Const w v) = type_const_d t (token_at ts w).kind w v.id (type_cell v.ty)
type_plain_d ts ret t (O.Jump w l) = on t
type_plain_d ts ret t (O.Branch w x l m) = on t
type_plain_d ts ret t (O.Ret w) = type_ret_d t ret w
type_plain_d ts ret t (O.RetValue w x) = type_ret_value_d t ret w x
type_plain_d ts ret t (O.Print w x) = on t
type_plain_d ts ret t (O.Nop w) = on t

-- An item by its form; `globals` gives the functions by name.
unfoldable pub type_item_d : List Tok → (ℕ → Global) → ℕ → List ℕ → Item → Typed
type_item_d ts globals ret t (label w l) = on t
type_item_d ts globals ret t (plain o) = type_plain_d ts ret t o
type_item_d ts globals ret t (call w g xs) = type_call_d t (globals g.0) w g xs
type_item_d ts globals ret t (call_into w v g xs) = type_call_into_d t (globals g.0) w v.id (type_cell v.ty) g xs
