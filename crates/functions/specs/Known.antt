-- The functions so far: "After the type and before `{` the name is entered with its function type: the same name again
-- with an equal type passes, with another is 15." Function types are numbered in text order, equal types sharing a
-- number (the Rust's add_function_type).
use Rattle.std.specs.Prelude.{ℕ, ◌+◌, List, [], ◌∷◌, eqb, length}
use Rattle.utils.specs.Bytes.{pick, same_bytes}
use Rattle.parser.specs.Types as Types
use Rattle.pieces.specs.declared.Identifier.{Identifier}
use Rattle.parser.specs.Runs.{type_cell}
use Rattle.parser.specs.declared.Refusal.{Refusal}
use Rattle.parser.specs.declared.Ty.{Ty}
use Rattle.parser.specs.declared.Variable.{Variable}

-- a function type: the result, how many formals, and their types
unfoldable pub formal_types : List Variable → List ℕ
formal_types [] = []
formal_types (v ∷ vs) = type_cell v.ty ∷ formal_types vs

abbrev pub signature : Ty → List Variable → List ℕ
signature ret formals = type_cell ret ∷ length formals ∷ formal_types formals

-- a function's name, its function type's number, and that type
pub record Known : Type 0 where
  pub name : ℕ
  pub type : ℕ
  pub signed : List ℕ

-- The number of a function type: that of the first function so far with an equal one, or the next, after as many types
-- as there are so far.
unfoldable pub type_number : List Known → List ℕ → ℕ → ℕ
type_number [] signed types = types
type_number (k ∷ ks) signed types =
    let more = type_number ks signed types in
    pick (same_bytes k.signed signed) k.type more

-- how many types there are once this number is given
unfoldable pub types_after : ℕ → ℕ → ℕ
types_after types number = pick (eqb number types) (types + 1) types

-- The type that a name has already, or this one if the name is new.
unfoldable pub expected_type : List Known → ℕ → ℕ → ℕ
expected_type [] name type = type
expected_type (k ∷ ks) name type =
    let more = expected_type ks name type in
    pick (eqb k.name name) k.type more

-- Unexpected type .. Expected .. (15), with the name's token. Of both types the message says that they are function
-- types, whose cells are 4 and more.
abbrev pub unexpected : ℕ → Identifier → Refusal
unexpected token name =
    record { number = 15; token = token; wanted = Types.function; found = Types.function; name = name }
