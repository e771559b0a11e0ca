-- A function read with nothing known, and what the functions known before it change: the number of its function type,
-- where its name may be entered.
use Rattle.std.specs.Prelude.{Ok, ℕ, ◌≡◌, List}
use Rattle.lexer.specs.Decoded.{Tok}
use Rattle.pieces.specs.declared.Identifier.{Identifier}
use Rattle.parser.specs.Grammar.{global_d}
use Rattle.parser.specs.declared.Ty.{Ty}
use Rattle.parser.specs.declared.Variable.{Variable}
use Rattle.functions.specs.Known.{Known, signature, type_number, expected_type}
use Rattle.functions.specs.Functions.{Header, HeaderAt, header, no_header, FunctionAt, function, no_function}
use Rattle.functions.specs.Functions.{optional_formals, optional_type}
use Rattle.recheck.specs.Recheck.{retyped}

-- with another number of its function type
abbrev pub retyped_head : ℕ → Header → Header
retyped_head type h = record { name = h.name; formals = h.formals; ret = h.ret; type = type }

abbrev pub retyped_header : ℕ → HeaderAt → HeaderAt
retyped_header type (header h next) = header (retyped_head type h) next
retyped_header type (no_header e) = no_header e

abbrev pub retyped_function_at : ℕ → FunctionAt → FunctionAt
retyped_function_at type (function f) = function (retyped type f)
retyped_function_at type (no_function e) = no_function e

-- a header as far as it is read before its name is entered: the name, the formals, the result type
pub record UpToEntry (ts : List Tok) (at : ℕ) (g : Identifier) (vs : List Variable) (ret : Ty) : Type 0 where
  pub at1 : ℕ
  pub named : global_d ts at ≡ Ok (g, at1)
  pub at2 : ℕ
  pub listed : (optional_formals ts at1).list ≡ vs
  pub closed : (optional_formals ts at1).end ≡ Ok at2
  pub at3 : ℕ
  pub typed : optional_type ts at2 ≡ Ok (ret, at3)

-- the name may be entered, and its function type has this number
pub record Enters (known : List Known) (types type : ℕ) (g : Identifier) (vs : List Variable) (ret : Ty) : Type 0 where
  pub number : type_number known (signature ret vs) types ≡ type
  pub expected : expected_type known g.0 type ≡ type
