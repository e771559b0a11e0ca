-- Where a header's name may be entered, a function is read as with nothing known, but for the number of its function
-- type.
use Rattle.std.specs.Prelude.{Err, Ok, Result}
use Prim.Native.Nat.{ℕ}
use mathlib.Core.Path.{◌≡◌, refl, subst}
use mathlib.Core.List.{List, []}
use mathlib.Core.Bool.{Bool, true, false}
use borrow.Author.Tests.{eqb-true, eq-eqb}
use lib.Dec.{eqb}
use Rattle.utils.specs.Bytes.{pick}
use Rattle.lexer.specs.Decoded.{Tok}
use Rattle.pieces.specs.declared.Identifier.{Identifier}
use Rattle.parser.specs.Step.{refusal, then_at, then_named, then_type}
use Rattle.parser.specs.Grammar.{consume_d, global_d}
use Rattle.parser.specs.declared.Refusal.{Refusal}
use Rattle.parser.specs.declared.Ty.{Ty}
use Rattle.parser.specs.declared.Variable.{Variable}
use Rattle.functions.specs.Known.{Known, signature, type_number, expected_type}
use Rattle.functions.specs.Functions.{Header, HeaderAt, header, no_header, BuiltAt, built, not_built, Function}
use Rattle.functions.specs.Functions.{FunctionAt, function}
use Rattle.functions.specs.Functions.{no_function, then_header, then_formals, then_entered, then_built, optional_formals}
use Rattle.functions.specs.Functions.{optional_type, entered_d, signature_d, header_d, built_d, is_void, function_d}
use Rattle.related.specs.Entry.{retyped_head, retyped_header, retyped_function_at, UpToEntry, Enters}

-- the parts of a header, from its end
abbrev entry : List Tok → List Known → ℕ → ℕ → Identifier → List Variable → Ty → ℕ → HeaderAt
entry ts known types token g vs ret at =
    then_entered no_header (entered_d ts known types token g (signature ret vs) at) (λ type next.
    header (record { name = g; formals = vs; ret = ret; type = type }) next)

-- it may be entered: what follows is the opening brace
entered-is : {known : List Known} {types type : ℕ} {g : Identifier} {vs : List Variable} {ret : Ty} (ts : List Tok)
    (token at : ℕ)
    → Enters known types type g vs ret
    → entered_d ts known types token g (signature ret vs) at
    ≡ then_at Err (consume_d ts at 27) (λ next. Ok (type, next))
unfolding entered_d pick
entered-is {type = type} ts token at q = rw (q.number, q.expected, eq-eqb type type refl) refl

free : (g : Identifier) (vs : List Variable) (ret : Ty) → Enters [] 0 0 g vs ret
unfolding type_number expected_type
free g vs ret = record { number = refl; expected = refl }

behind-brace : (type : ℕ) (g : Identifier) (vs : List Variable) (ret : Ty) (c : Result ℕ Refusal)
    → then_entered no_header (then_at Err c (λ next. Ok (type, next))) (λ type next.
    header (record { name = g; formals = vs; ret = ret; type = type }) next)
    ≡ retyped_header type (then_entered no_header (then_at Err c (λ next. Ok (0, next))) (λ type next.
    header (record { name = g; formals = vs; ret = ret; type = type }) next))
unfolding then_entered then_at
behind-brace type g vs ret (Ok next) = refl
behind-brace type g vs ret (Err e) = refl

module _ (ts : List Tok) (known : List Known) (types type : ℕ) where
  entry_known : (token : ℕ) (g : Identifier) (vs : List Variable) (ret : Ty) (at : ℕ) → Enters known types type g vs ret
      → entry ts known types token g vs ret at ≡ retyped_header type (entry ts [] 0 token g vs ret at)
  entry_known token g vs ret at q =
      rw (entered-is ts token at q, entered-is ts token at (free g vs ret))
      (behind-brace type g vs ret (consume_d ts at 27))

  type-known : (token : ℕ) (g : Identifier) (vs : List Variable) (c : Result (Ty × ℕ) Refusal)
      → ((ret : Ty) (at : ℕ) → c ≡ Ok (ret, at) → Enters known types type g vs ret)
      → then_type no_header c (λ ret at. entry ts known types token g vs ret at)
      ≡ retyped_header type (then_type no_header c (λ ret at. entry ts [] 0 token g vs ret at))
  unfolding then_type
  type-known token g vs (Ok (ret, at)) q = entry_known token g vs ret at (q ret at refl)
  type-known token g vs (Err e) q = refl

  formals-known : (token : ℕ) (g : Identifier) (vs : List Variable) (c : Result ℕ Refusal)
      → ((at : ℕ) (ret : Ty)
      (at' : ℕ) → c ≡ Ok at → optional_type ts at ≡ Ok (ret, at') → Enters known types type g vs ret)
      → then_at no_header c
      (λ at. then_type no_header (optional_type ts at) (λ ret at. entry ts known types token g vs ret at))
      ≡ retyped_header type
      (then_at no_header c (λ at. then_type no_header (optional_type ts at) (λ ret at. entry ts [] 0 token g vs ret at)))
  unfolding then_at
  formals-known token g vs (Ok at) q =
      type-known token g vs (optional_type ts at) (λ ret at' e. q at ret at' refl e)
  formals-known token g vs (Err e) q = refl

  signature-known : (token : ℕ) (g : Identifier) (at : ℕ)
      → ((vs : List Variable) (at1 : ℕ) (ret : Ty) (at2 : ℕ) → (optional_formals ts at).list ≡ vs
      → (optional_formals ts at).end ≡ Ok at1 → optional_type ts at1 ≡ Ok (ret, at2) → Enters known types type g vs ret)
      → signature_d ts known types token g at ≡ retyped_header type (signature_d ts [] 0 token g at)
  unfolding signature_d then_formals
  signature-known token g at q =
      formals-known token g (optional_formals ts at).list (optional_formals ts at).end
      (λ at1 ret at2 c t. q (optional_formals ts at).list at1 ret at2 refl c t)

  named-known : (at : ℕ) (c : Result (Identifier × ℕ) Refusal)
      → ((g : Identifier) (at1 : ℕ) → c ≡ Ok (g, at1)
      → signature_d ts known types at g at1 ≡ retyped_header type (signature_d ts [] 0 at g at1))
      → then_named no_header c (λ g at1. pick false (no_header (refusal 35 at 0)) (signature_d ts known types at g at1))
      ≡ retyped_header type
      (then_named no_header c (λ g at1. pick false (no_header (refusal 35 at 0)) (signature_d ts [] 0 at g at1)))
  unfolding then_named pick
  named-known at (Ok (g, at1)) q = q g at1 refl
  named-known at (Err e) q = refl

  header-known : (at : ℕ)
      → ((g : Identifier) (vs : List Variable) (ret : Ty) → UpToEntry ts at g vs ret → Enters known types type g vs ret)
      → header_d ts false known types at ≡ retyped_header type (header_d ts false [] 0 at)
  unfolding header_d
  header-known at q =
      named-known at (global_d ts at) (λ g at1 e.
      signature-known at g at1 (λ vs at2 ret at3 l c t.
      q g vs ret (record { at1 = at1; named = e; at2 = at2; listed = l; closed = c; at3 = at3; typed = t })))

  built-known : (at : ℕ) (h : Header) (c : BuiltAt)
      → then_built no_function c
      (λ is next. function (record { token = at; head = retyped_head type h; items = is; next = next }))
      ≡ retyped_function_at type
      (then_built no_function c (λ is next. function (record { token = at; head = h; items = is; next = next })))
  unfolding then_built
  built-known at h (built is next) = refl
  built-known at h (not_built e) = refl

  headed_known : (at : ℕ) (c : HeaderAt)
      → then_header no_function (retyped_header type c)
      (λ h at1. then_built no_function (built_d ts (is_void h.ret) at at1) (λ is next.
      function (record { token = at; head = h; items = is; next = next })))
      ≡ retyped_function_at type
      (then_header no_function c (λ h at1. then_built no_function (built_d ts (is_void h.ret) at at1) (λ is next.
      function (record { token = at; head = h; items = is; next = next }))))
  unfolding then_header
  headed_known at (header h next) = built-known at h (built_d ts (is_void h.ret) at next)
  headed_known at (no_header e) = refl

  -- THE LAW: a function whose name may be entered is read as with nothing known, but for its function type's number.
  pub function-known : (at : ℕ)
      → ((g : Identifier) (vs : List Variable) (ret : Ty) → UpToEntry ts at g vs ret → Enters known types type g vs ret)
      → function_d ts false known types at ≡ retyped_function_at type (function_d ts false [] 0 at)
  unfolding function_d
  function-known at q = rw (header-known at q) (headed_known at (header_d ts false [] 0 at))

-- A function that was read was entered. ------------------------------------------------------------------------------

abbrev HeaderEntered : List Known → ℕ → HeaderAt → Type 0
HeaderEntered known types (header h next) = Enters known types h.type h.name h.formals h.ret
HeaderEntered known types (no_header e) = Unit

abbrev FunctionEntered : List Known → ℕ → FunctionAt → Type 0
FunctionEntered known types (function f) =
    Enters known types f.head.type f.head.name f.head.formals f.head.ret
FunctionEntered known types (no_function e) = Unit

module _ (ts : List Tok) (known : List Known) (types : ℕ) where
  brace-entered : (g : Identifier) (vs : List Variable) (ret : Ty) (type : ℕ) (c : Result ℕ Refusal)
      → Enters known types type g vs ret
      → HeaderEntered known types
      (then_entered no_header (then_at Err c (λ next. Ok (type, next))) (λ type next.
      header (record { name = g; formals = vs; ret = ret; type = type }) next))
  unfolding then_entered then_at
  brace-entered g vs ret type (Ok next) q = q
  brace-entered g vs ret type (Err e) q = tt

  test_entered : (token : ℕ) (g : Identifier) (vs : List Variable) (ret : Ty) (at : ℕ) (type : ℕ) (b : Bool)
      (x : Refusal)
      → type_number known (signature ret vs) types ≡ type → eqb (expected_type known g.0 type) type ≡ b
      → HeaderEntered known types
      (then_entered no_header (pick b (then_at Err (consume_d ts at 27) (λ next. Ok (type, next))) (Err x))
      (λ type next.
      header (record { name = g; formals = vs; ret = ret; type = type }) next))
  unfolding then_entered pick
  test_entered token g vs ret at type true x n e =
      brace-entered g vs ret type (consume_d ts at 27) (record { number = n; expected = eqb-true _ _ e })
  test_entered token g vs ret at type false x n e = tt

  entry_entered : (token : ℕ) (g : Identifier) (vs : List Variable) (ret : Ty) (at : ℕ)
      → HeaderEntered known types (entry ts known types token g vs ret at)
  unfolding entered_d
  entry_entered token g vs ret at =
      test_entered token g vs ret at (type_number known (signature ret vs) types)
      (eqb (expected_type known g.0 (type_number known (signature ret vs) types))
      (type_number known (signature ret vs) types)) _ refl refl

  type-entered : (token : ℕ) (g : Identifier) (vs : List Variable) (c : Result (Ty × ℕ) Refusal)
      → HeaderEntered known types (then_type no_header c (λ ret at. entry ts known types token g vs ret at))
  unfolding then_type
  type-entered token g vs (Ok (ret, at)) = entry_entered token g vs ret at
  type-entered token g vs (Err e) = tt

  formals-entered : (token : ℕ) (g : Identifier) (vs : List Variable) (c : Result ℕ Refusal)
      → HeaderEntered known types
      (then_at no_header c
      (λ at. then_type no_header (optional_type ts at) (λ ret at. entry ts known types token g vs ret at)))
  unfolding then_at
  formals-entered token g vs (Ok at) = type-entered token g vs (optional_type ts at)
  formals-entered token g vs (Err e) = tt

  signature-entered : (token : ℕ) (g : Identifier) (at : ℕ)
      → HeaderEntered known types (signature_d ts known types token g at)
  unfolding signature_d then_formals
  signature-entered token g at = formals-entered token g (optional_formals ts at).list (optional_formals ts at).end

  named-entered : (at : ℕ) (c : Result (Identifier × ℕ) Refusal)
      → HeaderEntered known types
      (then_named no_header c (λ g at1. pick false (no_header (refusal 35 at 0)) (signature_d ts known types at g at1)))
  unfolding then_named pick
  named-entered at (Ok (g, at1)) = signature-entered at g at1
  named-entered at (Err e) = tt

  built-entered : (at : ℕ) (h : Header) (c : BuiltAt) → Enters known types h.type h.name h.formals h.ret
      → FunctionEntered known types
      (then_built no_function c (λ is next. function (record { token = at; head = h; items = is; next = next })))
  unfolding then_built
  built-entered at h (built is next) q = q
  built-entered at h (not_built e) q = tt

  headed_entered : (at : ℕ) (c : HeaderAt) → HeaderEntered known types c
      → FunctionEntered known types
      (then_header no_function c (λ h at1. then_built no_function (built_d ts (is_void h.ret) at at1) (λ is next.
      function (record { token = at; head = h; items = is; next = next }))))
  unfolding then_header
  headed_entered at (header h next) q = built-entered at h (built_d ts (is_void h.ret) at next) q
  headed_entered at (no_header e) q = tt

  any-entered : (at : ℕ) → FunctionEntered known types (function_d ts false known types at)
  unfolding function_d header_d
  any-entered at = headed_entered at _ (named-entered at (global_d ts at))

  pub function-entered : (at : ℕ) (f : Function) → function_d ts false known types at ≡ function f
      → Enters known types f.head.type f.head.name f.head.formals f.head.ret
  function-entered at f e = subst (λ (a : FunctionAt). FunctionEntered known types a) e (any-entered at)

-- A function that was read has the header that was read up to its entry. ---------------------------------------------

abbrev HeaderUpTo : List Tok → ℕ → HeaderAt → Type 0
HeaderUpTo ts at (header h next) = UpToEntry ts at h.name h.formals h.ret
HeaderUpTo ts at (no_header e) = Unit

abbrev FunctionUpTo : List Tok → ℕ → FunctionAt → Type 0
FunctionUpTo ts at (function f) = UpToEntry ts at f.head.name f.head.formals f.head.ret
FunctionUpTo ts at (no_function e) = Unit

module _ (ts : List Tok) (known : List Known) (types at : ℕ) where
  entry_up_to : (g : Identifier) (vs : List Variable) (ret : Ty) (c : Result (ℕ × ℕ) Refusal) → UpToEntry ts at g vs ret
      → HeaderUpTo ts at
      (then_entered no_header c (λ type next. header (record { name = g; formals = vs; ret = ret; type = type }) next))
  unfolding then_entered
  entry_up_to g vs ret (Ok (type, next)) u = u
  entry_up_to g vs ret (Err e) u = tt

  type_up_to : (g : Identifier) (vs : List Variable) (at1 at2 : ℕ) (c : Result (Ty × ℕ) Refusal) → global_d ts at ≡ Ok (g, at1)
      → (optional_formals ts at1).list ≡ vs → (optional_formals ts at1).end ≡ Ok at2 → optional_type ts at2 ≡ c
      → HeaderUpTo ts at (then_type no_header c (λ ret i. entry ts known types at g vs ret i))
  unfolding then_type
  type_up_to g vs at1 at2 (Ok (ret, at3)) n l c t =
      entry_up_to g vs ret (entered_d ts known types at g (signature ret vs) at3)
      (record { at1 = at1; named = n; at2 = at2; listed = l; closed = c; at3 = at3; typed = t })
  type_up_to g vs at1 at2 (Err e) n l c t = tt

  formals_up_to : (g : Identifier) (vs : List Variable) (at1 : ℕ) (c : Result ℕ Refusal) → global_d ts at ≡ Ok (g, at1)
      → (optional_formals ts at1).list ≡ vs → (optional_formals ts at1).end ≡ c
      → HeaderUpTo ts at
      (then_at no_header c (λ i. then_type no_header (optional_type ts i) (λ ret i. entry ts known types at g vs ret i)))
  unfolding then_at
  formals_up_to g vs at1 (Ok at2) n l c = type_up_to g vs at1 at2 (optional_type ts at2) n l c refl
  formals_up_to g vs at1 (Err e) n l c = tt

  signature_up_to : (g : Identifier) (at1 : ℕ) → global_d ts at ≡ Ok (g, at1)
      → HeaderUpTo ts at (signature_d ts known types at g at1)
  unfolding signature_d then_formals
  signature_up_to g at1 n = formals_up_to g (optional_formals ts at1).list at1 (optional_formals ts at1).end n refl refl

  named_up_to : (c : Result (Identifier × ℕ) Refusal) → global_d ts at ≡ c
      → HeaderUpTo ts at
      (then_named no_header c (λ g at1. pick false (no_header (refusal 35 at 0)) (signature_d ts known types at g at1)))
  unfolding then_named pick
  named_up_to (Ok (g, at1)) n = signature_up_to g at1 n
  named_up_to (Err e) n = tt

  built_up_to : (h : Header) (c : BuiltAt) → UpToEntry ts at h.name h.formals h.ret
      → FunctionUpTo ts at
      (then_built no_function c (λ is next. function (record { token = at; head = h; items = is; next = next })))
  unfolding then_built
  built_up_to h (built is next) q = q
  built_up_to h (not_built e) q = tt

  headed_up_to : (c : HeaderAt) → HeaderUpTo ts at c
      → FunctionUpTo ts at
      (then_header no_function c (λ h at1. then_built no_function (built_d ts (is_void h.ret) at at1) (λ is next.
      function (record { token = at; head = h; items = is; next = next }))))
  unfolding then_header
  headed_up_to (header h next) q = built_up_to h (built_d ts (is_void h.ret) at next) q
  headed_up_to (no_header e) q = tt

  any_up_to : FunctionUpTo ts at (function_d ts false known types at)
  unfolding function_d header_d
  any_up_to = headed_up_to _ (named_up_to (global_d ts at) refl)

  pub function_up_to : (f : Function) → function_d ts false known types at ≡ function f
      → UpToEntry ts at f.head.name f.head.formals f.head.ret
  function_up_to f e = subst (λ (a : FunctionAt). FunctionUpTo ts at a) e any_up_to
