-- Runs: the formals of a header and the arguments of a call, each as the list that was read and where it ended. The
-- bound is document 01's limit, so that the one too many is refused once its local is read (36, 37).
use Rattle.std.specs.Prelude.{Err, Ok, Result, ℕ, zero, suc, ◌+◌, List, [], ◌∷◌, Bool, true, false, eqb, length}
use Rattle.utils.specs.Bytes.{pick}
use Rattle.lexer.specs.Decoded.{Tok, token_at}
use Rattle.utils.specs.Limits.{most_formals, most_arguments}
use Rattle.parser.specs.Types as Types
use Rattle.pieces.specs.declared.Identifier.{Identifier}
use Rattle.pieces.specs.Kinds as T
use Rattle.parser.specs.Step.{refusal, look, then_at, then_named, then_type, then_defined}
use Rattle.parser.specs.Grammar.{consume_d, local_d, global_d, type_d}
use Rattle.parser.specs.declared.Refusal.{Refusal}
use Rattle.parser.specs.declared.Ty.{Ty}
use Rattle.parser.specs.declared.Ty.TheVariants as Y
use Rattle.parser.specs.declared.Variable.{Variable}
use Rattle.parser.specs.declared.Called.{Called}
use Rattle.parser.specs.declared.Run.{Run}

-- a type's cell
abbrev pub type_cell : Ty → ℕ
type_cell Y.Placeholder = Types.placeholder
type_cell Y.Int = Types.int
type_cell Y.Bool = Types.bool
type_cell Y.Void = Types.void
type_cell (Y.Fn n) = n + Types.function

-- a variable's two cells
abbrev pub variable_cells : Variable → List ℕ
variable_cells v = v.id.0 ∷ type_cell v.ty ∷ []

unfoldable pub variables_cells : List Variable → List ℕ
variables_cells [] = []
variables_cells (v ∷ vs) = v.id.0 ∷ type_cell v.ty ∷ variables_cells vs

pub record Variables : Type 0 where
  pub list : List Variable
  pub end : Result ℕ Refusal

abbrev pub ended : Result ℕ Refusal → Variables
ended e = record { list = []; end = e }

abbrev pub stopped : Refusal → Variables
stopped e = ended (Err e)

abbrev pub and_then : Variable → Variables → Variables
and_then v r = record { list = v ∷ r.list; end = r.end }

-- how many there are and where to go on, or the refusal
unfoldable pub run_of : Variables → Result Run Refusal
run_of r = then_at Err r.end (λ i. Ok (record { count = (length r.list); next = i }))

abbrev pub variable : Identifier → Ty → Variable
variable x t = record { id = x; ty = t }

-- One formal, `x: type`. Where there is no more room its local is read, and refused.
unfoldable pub formal_d : List Tok → Bool → ℕ → Result (Variable × ℕ) Refusal
formal_d ts full at =
    then_named Err (local_d ts at) (λ x at1.
    pick full (Err (refusal 36 at 0))
    (then_at Err (consume_d ts at1 T.colon) (λ at2.
    then_type Err (type_d ts at2) (λ t at3.
    Ok ((variable x t), at3)))))

-- Formals, more after a comma, to the closing parenthesis. Without room the formal is always refused, so that nothing
-- follows it.
unfoldable pub formals_from_d : List Tok → ℕ → ℕ → Variables
formals_from_d ts zero at = then_defined stopped (formal_d ts true at) (λ v at1. stopped (refusal 36 at 0))
formals_from_d ts (suc room) at =
    then_defined stopped (formal_d ts false at) (λ v at1.
    and_then v
    (look (token_at ts at1) (λ k next.
    pick (eqb k T.comma) (formals_from_d ts room next) (ended (consume_d ts at1 T.right_paren)))))

-- the closing parenthesis behind n formals
unfoldable pub closed_d : List Tok → ℕ → ℕ → Result Run Refusal
closed_d ts at n = then_at Err (consume_d ts at T.right_paren) (λ i. Ok (record { count = n; next = i }))

-- From after the opening parenthesis.
unfoldable pub formals_d : List Tok → ℕ → Variables
formals_d ts at =
    look (token_at ts at) (λ k next. pick (eqb k T.right_paren) (ended (Ok next)) (formals_from_d ts most_formals at))

-- Arguments, locals up to the semicolon. Their types are not known yet.
unfoldable pub arguments_d : List Tok → ℕ → ℕ → Variables
arguments_d ts zero at =
    look (token_at ts at) (λ k next.
    pick (eqb k T.semicolon) (ended (Ok next))
    (then_named stopped (local_d ts at) (λ x at1. stopped (refusal 37 at 0))))
arguments_d ts (suc room) at =
    look (token_at ts at) (λ k next.
    pick (eqb k T.semicolon) (ended (Ok next))
    (then_named stopped (local_d ts at) (λ x at1. and_then (variable x Y.Placeholder) (arguments_d ts room at1))))

-- A call from its word: the callee, and the arguments behind it.
pub record Calling : Type 0 where
  pub callee : Identifier
  pub arguments : Variables

abbrev pub calling : Identifier → Variables → Calling
calling g r = record { callee = g; arguments = r }

abbrev pub uncalled : Refusal → Calling
uncalled e = calling (record { 0 = 0 }) (stopped e)

unfoldable pub call_d : List Tok → ℕ → Calling
call_d ts word =
    then_at uncalled (consume_d ts word T.call) (λ at.
    then_named uncalled (global_d ts at) (λ g at1.
    calling g (arguments_d ts most_arguments at1)))

-- the callee, how many arguments there are and where to go on, or the refusal
unfoldable pub called_of : Calling → Result Called Refusal
called_of c = then_at Err c.arguments.end (λ i. Ok (record { callee = c.callee; count = (length c.arguments.list); next = i }))
