-- Document 01, "Functions, labels, edges": "A text is any number of functions: global; optionally formals in
-- parentheses; optionally colon and type; `{` body `}`."
use Rattle.std.specs.Prelude.{ℕ, zero, suc, List, [], ◌∷◌, ◌++◌, Bool, true, false, eqb, Err, Ok, Result}
use Rattle.utils.specs.Bytes.{pick}
use Rattle.lexer.specs.Decoded.{Tok, token_at}
use Rattle.parser.specs.Types as Types
use Rattle.utils.specs.Limits.{most_functions}
use Rattle.pieces.specs.declared.Identifier.{Identifier}
use Rattle.pieces.specs.Kinds as T
use Rattle.parser.specs.Step.{refusal, look, then_at, then_named, then_type}
use Rattle.parser.specs.Grammar.{consume_d, global_d, type_d}
use Rattle.parser.specs.Runs.{Variables, ended, type_cell, formals_d}
use Rattle.body.specs.Body.{Item, closed_items}
use Rattle.link.specs.Blocks.{Block, blocks_of}
use Rattle.body.specs.Shapes.{shapes_of}
use Rattle.link.specs.Edges.{Resolved, fine, refused, resolve_d}
use Rattle.parser.specs.declared.Refusal.{Refusal}
use Rattle.parser.specs.declared.Ty.{Ty}
use Rattle.parser.specs.declared.Ty.TheVariants as Y
use Rattle.parser.specs.declared.Variable.{Variable}
use Rattle.body.specs.Answer.{function_body}
use Rattle.functions.specs.Known.{Known, signature, type_number, types_after, expected_type, unexpected}

-- The header: the name, the formals, the result type, the function type's number.
pub record Header : Type 0 where
  pub name : Identifier
  pub formals : List Variable
  pub ret : Ty
  pub type : ℕ

pub data HeaderAt : Type 0 where
  header : Header → ℕ → HeaderAt
  no_header : Refusal → HeaderAt

unfoldable pub then_header : {A : Type 0} → (Refusal → A) → HeaderAt → (Header → ℕ → A) → A
then_header fail (header h at) k = k h at
then_header fail (no_header e) k = fail e

unfoldable pub then_formals : {A : Type 0} → (Refusal → A) → Variables → (List Variable → ℕ → A) → A
then_formals fail r k = then_at fail r.end (λ at. k r.list at)

-- optionally formals in parentheses
unfoldable pub optional_formals : List Tok → ℕ → Variables
optional_formals ts at =
    look (token_at ts at) (λ kind next. pick (eqb kind T.left_paren) (formals_d ts next) (ended (Ok at)))

-- optionally colon and type
unfoldable pub optional_type : List Tok → ℕ → Result (Ty × ℕ) Refusal
optional_type ts at = look (token_at ts at) (λ kind next. pick (eqb kind T.colon) (type_d ts next) (Ok (Y.Void, at)))

-- The name is entered with its function type, after the type and before `{`.
unfoldable pub entered_d : List Tok → List Known → ℕ → ℕ → Identifier → List ℕ → ℕ → Result (ℕ × ℕ) Refusal
entered_d ts known types token name signed at =
    let type = type_number known signed types in
    let expected = expected_type known name.0 type in
    pick (eqb expected type) (then_at Err (consume_d ts at T.left_brace) (λ next. Ok (type, next)))
    (Err (unexpected token name))

unfoldable pub then_entered : {A : Type 0} → (Refusal → A) → Result (ℕ × ℕ) Refusal → (ℕ → ℕ → A) → A
then_entered fail (Ok p) k = k p.0 p.1
then_entered fail (Err e) k = fail e

-- what stands behind the name
unfoldable pub signature_d : List Tok → List Known → ℕ → ℕ → Identifier → ℕ → HeaderAt
signature_d ts known types token name at =
    then_formals no_header (optional_formals ts at) (λ formals at1.
    then_type no_header (optional_type ts at1) (λ ret at2.
    then_entered no_header (entered_d ts known types token name (signature ret formals) at2) (λ type next.
    header (record { name = name; formals = formals; ret = ret; type = type }) next)))

-- 35 comes once the name token is read; `full`: there are 64 functions already.
unfoldable pub header_d : List Tok → Bool → List Known → ℕ → ℕ → HeaderAt
header_d ts full known types at =
    then_named no_header (global_d ts at) (λ g at1.
    pick full (no_header (refusal 35 at 0)) (signature_d ts known types at g at1))

-- The items of a body, with the added `ret`s in a void function, and the index behind its closing brace, once its
-- blocks were taken in order.
pub data BuiltAt : Type 0 where
  built : List Item → ℕ → BuiltAt
  not_built : Refusal → BuiltAt

unfoldable pub then_built : {A : Type 0} → (Refusal → A) → BuiltAt → (List Item → ℕ → A) → A
then_built fail (built is next) k = k is next
then_built fail (not_built e) k = fail e

abbrev pub blocks_in : List Item → List Block
blocks_in is = blocks_of (shapes_of is)

-- the blocks stand fine, or give 22 or 14
abbrev pub resolved_items : List Item → ℕ → Resolved → BuiltAt
resolved_items is next fine = built is next
resolved_items is next (refused e) = not_built e

-- from after the opening brace; `name` is the function's name token
unfoldable pub built_d : List Tok → Bool → ℕ → ℕ → BuiltAt
built_d ts void name at =
    let body = function_body ts at in
    let is = closed_items void body.items in
    then_at not_built body.end (λ next. resolved_items is next (resolve_d name (blocks_in is)))

-- A function: its name's token, its header, its items, and the index behind its closing brace.
pub record Function : Type 0 where
  pub token : ℕ
  pub head : Header
  pub items : List Item
  pub next : ℕ

pub data FunctionAt : Type 0 where
  function : Function → FunctionAt
  no_function : Refusal → FunctionAt

unfoldable pub then_function : {A : Type 0} → (Refusal → A) → FunctionAt → (Function → A) → A
then_function fail (function f) k = k f
then_function fail (no_function e) k = fail e

abbrev pub is_void : Ty → Bool
is_void ret = eqb (type_cell ret) Types.void

unfoldable pub function_d : List Tok → Bool → List Known → ℕ → ℕ → FunctionAt
function_d ts full known types at =
    then_header no_function (header_d ts full known types at) (λ h at1.
    then_built no_function (built_d ts (is_void h.ret) at at1) (λ is next.
    function (record { token = at; head = h; items = is; next = next })))

-- All functions that were read, and where the text ended or why it was refused.
pub record Program : Type 0 where
  pub functions : List Function
  pub end : Result ℕ Refusal

abbrev pub program_end : Result ℕ Refusal → Program
program_end e = record { functions = []; end = e }

abbrev pub program_stop : Refusal → Program
program_stop e = program_end (Err e)

abbrev pub program_then : Function → Program → Program
program_then f u = record { functions = f ∷ u.functions; end = u.end }

-- a header as later ones see it
abbrev pub known_of : Header → Known
known_of h = record { name = h.name.0; type = h.type; signed = signature h.ret h.formals }

-- Functions up to the end token; `room` more are allowed. Without room the header is always refused, so that nothing
-- follows it.
unfoldable pub functions_d : List Tok → ℕ → List Known → ℕ → ℕ → Program
functions_d ts zero known types at =
    look (token_at ts at) (λ kind next.
    pick (eqb kind T.end_of_file) (program_end (Ok at))
    (then_function program_stop (function_d ts true known types at) (λ f. program_stop (refusal 35 at 0))))
functions_d ts (suc room) known types at =
    look (token_at ts at) (λ kind next.
    pick (eqb kind T.end_of_file) (program_end (Ok at))
    (then_function program_stop (function_d ts false known types at) (λ f.
    program_then f
    (functions_d ts room (known ++ (known_of f.head ∷ [])) (types_after types f.head.type) f.next))))

-- 64 functions at most, from the first token on.
abbrev pub program_d : List Tok → Program
program_d ts = functions_d ts most_functions [] 0 0
