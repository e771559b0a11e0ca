-- Function types are numbered from 0, and there are no more of them than functions.
use Rattle.std.specs.Prelude.{Err, Ok, Result}
use Rattle.parser.specs.declared.Refusal.{Refusal}
use Rattle.parser.specs.declared.Ty.{Ty}
use Prim.Native.Nat.{ℕ, ◌+◌, ◌≤◌}
use mathlib.Core.Path.{◌≡◌, refl, subst}
use mathlib.Core.Bool.{Bool, true, false}
use mathlib.Core.List.{List, [], ◌∷◌, ◌++◌}
use native.Mathlib.Omega.{arith}
use lib.Dec.{eqb}
use Rattle.utils.specs.Bytes.{pick, same_bytes}
use Rattle.lexer.specs.Decoded.{Tok}
use Rattle.pieces.specs.declared.Identifier.{Identifier}
use Rattle.parser.specs.Step.{refusal, then_at, then_named, then_type}
use Rattle.parser.specs.Grammar.{consume_d, global_d}
use Rattle.functions.specs.Known.{Known, signature, type_number, types_after, expected_type, unexpected}
use Rattle.functions.specs.Functions.{Header, HeaderAt, header, no_header, then_header, then_formals, then_entered}
use Rattle.functions.specs.Functions.{optional_formals}
use Rattle.functions.specs.Functions.{optional_type, entered_d, signature_d, header_d, BuiltAt, built, not_built}
use Rattle.functions.specs.Functions.{then_built, built_d}
use Rattle.functions.specs.Functions.{is_void, Function, FunctionAt, function, no_function, function_d}

-- no number among these is above `types`
abbrev pub TypesFew : ℕ → List Known → Type 0
TypesFew types [] = Unit
TypesFew types (k ∷ ks) = (k.type ≤ types) × TypesFew types ks

pub more-types : (types types' : ℕ) (ks : List Known) (k : Known) → types ≤ types' → k.type ≤ types' → TypesFew types
    ks
    → TypesFew types' (ks ++ (k ∷ []))
more-types types types' [] k h g w = (g, tt)
more-types types types' (x ∷ ks) k h g w = (omega (arith, w.0), more-types types types' ks k h g w.1)

pub types_after_up : (types type : ℕ) → types ≤ types_after types type
unfolding types_after pick
types_after_up types type = by (eqb type types)
  where
    by : (b : Bool) → types ≤ pick b (types + 1) types
    by true = omega arith
    by false = omega arith

number-few : (ks : List Known) (signed : List ℕ) (types : ℕ) → TypesFew types ks → type_number ks signed types ≤ types
unfolding type_number pick
number-few [] signed types w = omega arith
number-few (k ∷ ks) signed types w = by (same_bytes k.signed signed) (number-few ks signed types w.1)
  where
    by : (b : Bool) → type_number ks signed types ≤ types → pick b k.type (type_number ks signed types) ≤ types
    by true g = w.0
    by false g = g

abbrev HeaderTyped : ℕ → HeaderAt → Type 0
HeaderTyped types (header h next) = h.type ≤ types
HeaderTyped types (no_header e) = Unit

module _ (ts : List Tok) (known : List Known) (types : ℕ) (w : TypesFew types known) where
  typed-entered : (name : Identifier) (signed : List ℕ) (token at : ℕ) (k : ℕ → Header)
      → ((type : ℕ) → (k type).type ≡ type)
      → HeaderTyped types (then_entered no_header (entered_d ts known types token name signed at)
      (λ type next. header (k type) next))
  unfolding entered_d then_entered then_at pick
  typed-entered name signed token at k e =
      by (eqb (expected_type known name.0 (type_number known signed types)) (type_number known signed types))
      (consume_d ts at 27)
    where
      by : (b : Bool) (x : Result ℕ Refusal)
          → HeaderTyped types (then_entered no_header
          (pick b (then_at Err x (λ next. Ok ((type_number known signed types), next)))
          (Err (unexpected token name))) (λ type next. header (k type) next))
      by true (Ok next) = rw (e (type_number known signed types)) (number-few known signed types w)
      by true (Err r) = tt
      by false x = tt

  header-typed : (full : Bool) (at : ℕ) → HeaderTyped types (header_d ts full known types at)
  unfolding header_d signature_d then_named then_formals then_type then_at pick
  header-typed full at = named (global_d ts at) full
    where
      typed : (g : Identifier) (at1 : ℕ) (x : Result (Ty × ℕ) Refusal)
          → HeaderTyped types (then_type no_header x (λ ret at2.
          then_entered no_header (entered_d ts known types at g (signature ret (optional_formals ts at1).list) at2)
          (λ type next.
          header (record { name = g; formals = (optional_formals ts at1).list; ret = ret; type = type }) next)))
      typed g at1 (Ok (ret, at2)) =
          typed-entered g (signature ret (optional_formals ts at1).list) at at2 (λ type. record {
            name = g;
            formals = (optional_formals ts at1).list;
            ret = ret;
            type = type;
          }) (λ type. refl)
      typed g at1 (Err e) = tt

      formals : (g : Identifier) (at1 : ℕ) (x : Result ℕ Refusal)
          → HeaderTyped types (then_at no_header x (λ at2. then_type no_header (optional_type ts at2) (λ ret at3.
          then_entered no_header (entered_d ts known types at g (signature ret (optional_formals ts at1).list) at3)
          (λ type next.
          header (record { name = g; formals = (optional_formals ts at1).list; ret = ret; type = type }) next))))
      formals g at1 (Ok at2) = typed g at1 (optional_type ts at2)
      formals g at1 (Err e) = tt

      named : (x : Result (Identifier × ℕ) Refusal) (full : Bool)
          → HeaderTyped types (then_named no_header x (λ g at1. pick full (no_header (refusal 35 at 0))
          (signature_d ts known types at g at1)))
      named (Ok (g, at1)) true = tt
      named (Ok (g, at1)) false = formals g at1 (optional_formals ts at1).end
      named (Err e) full = tt

  abbrev FunctionTyped : FunctionAt → Type 0
  FunctionTyped (function f) = f.head.type ≤ types
  FunctionTyped (no_function e) = Unit

  function_typed_lem : (full : Bool) (at : ℕ) → FunctionTyped (function_d ts full known types at)
  unfolding function_d then_header then_built
  function_typed_lem full at = headed (header_d ts full known types at) (header-typed full at)
    where
      bodied : (h : Header) (x : BuiltAt) → h.type ≤ types
          → FunctionTyped (then_built no_function x (λ is next. function (record {
            token = at;
            head = h;
            items =
                is;
            next = next;
          })))
      bodied h (built is next) g = g
      bodied h (not_built e) g = tt

      headed : (x : HeaderAt) → HeaderTyped types x
          → FunctionTyped (then_header no_function x (λ h at1. then_built no_function (built_d ts (is_void h.ret) at at1)
          (λ is next.
          function (record { token = at; head = h; items = is; next = next }))))
      headed (header h at1) g = bodied h (built_d ts (is_void h.ret) at at1) g
      headed (no_header e) g = tt

  pub function-type-few : (full : Bool) (at : ℕ) {f : Function} → function_d ts full known types at ≡ function f
      → f.head.type ≤ types
  function-type-few full at e = subst FunctionTyped e (function_typed_lem full at)
