-- A new function that is parsed and keeps its header has the replaced function's name and function type. What `keeps`
-- looks at is what the parser reads: the entered type plays no part.
use Rattle.std.specs.Prelude.{Err, Ok, Result}
use Prim.Native.Nat.{ℕ}
use mathlib.Core.Path.{◌≡◌, ap}
use mathlib.Core.List.{List, []}
use mathlib.Core.Bool.{Bool, true, false}
use native.Mathlib.Omega.{arith}
use Rattle.utils.specs.Bytes.{pick, same_bytes}
use Rattle.lexer.specs.Decoded.{Tok, name_of}
use Rattle.parser.specs.Step.{refusal, look, then_at, then_named, then_type}
use Rattle.parser.specs.Grammar.{global_d}
use Rattle.pieces.specs.declared.Identifier.{Identifier}
use Rattle.parser.specs.declared.Refusal.{Refusal}
use Rattle.parser.specs.declared.Ty.{Ty}
use Rattle.parser.specs.declared.Variable.{Variable}
use Rattle.functions.specs.Known.{signature}
use Rattle.functions.specs.Functions.{Header, HeaderAt, header, no_header, then_header, then_formals}
use Rattle.functions.specs.Functions.{optional_formals, optional_type}
use Rattle.functions.specs.Functions.{then_entered, entered_d, signature_d, header_d, BuiltAt, built, not_built}
use Rattle.functions.specs.Functions.{then_built, built_d}
use Rattle.functions.specs.Functions.{Function, FunctionAt, function, no_function, then_function, is_void, function_d}
use Rattle.headers.specs.Kept.{keeps_behind, keeps}
use Rattle.recheck.specs.Recheck.{alone_d}

-- From a function to its header. -------------------------------------------------------------------------------------

-- what is alone is a function that was read
alone_of : (x : FunctionAt) (a b : Function → Bool) (p q : Function → Refusal) (f : Function)
    → then_function no_function x (λ g. pick (a g) (function g) (pick (b g) (no_function (p g)) (no_function (q g))))
    ≡ function f
    → x ≡ function f
unfolding then_function pick
alone_of (no_function e) a b p q f h = absurd (let z : ◌≡◌ {A = ℕ} 0 1 = cc in omega arith)
alone_of (function g) a b p q f h = by (a g) (b g) h
  where
    by : (s t : Bool) → pick s (function g) (pick t (no_function (p g)) (no_function (q g))) ≡ function f
        → function g ≡ function f
    by true t e = e
    by false true e = absurd (let z : ◌≡◌ {A = ℕ} 0 1 = cc in omega arith)
    by false false e = absurd (let z : ◌≡◌ {A = ℕ} 0 1 = cc in omega arith)

built-head : (h : Header) (at : ℕ) (y : BuiltAt) (f : Function)
    → then_built no_function y (λ is next. function (record { token = at; head = h; items = is; next = next }))
    ≡ function f
    → h ≡ f.head
unfolding then_built
built-head h at (built is next) f e =
    let g : Function = record { token = at; head = h; items = is; next = next } in
    let q : g ≡ f = cc in
    ap (λ (k : Function). k.head) q
built-head h at (not_built r) f e = absurd (let z : ◌≡◌ {A = ℕ} 0 1 = cc in omega arith)

header_of : (x : HeaderAt) (b : Header → ℕ → BuiltAt) (at : ℕ) (f : Function)
    → then_header no_function x (λ h at1.
    then_built no_function (b h at1) (λ is next. function (record { token = at; head = h; items = is; next = next })))
    ≡ function f
    → (next : ℕ) × (x ≡ header f.head next)
unfolding then_header
header_of (header h next) b at f e = (next, ap (λ (k : Header). header k next) (built-head h at (b h next) f e))
header_of (no_header r) b at f e = absurd (let z : ◌≡◌ {A = ℕ} 0 1 = cc in omega arith)

-- the header of the function alone
alone-header : (ts : List Tok) (f : Function) → alone_d ts ≡ function f
    → (next : ℕ) × (header_d ts false [] 0 0 ≡ header f.head next)
unfolding alone_d function_d look
alone-header ts f e =
    header_of (header_d ts false [] 0 0) (λ h at1. built_d ts (is_void h.ret) 0 at1) 0 f
    (alone_of (function_d ts false [] 0 0) _ _ _ _ f e)

-- The header, and what `keeps` says of it. ---------------------------------------------------------------------------

module _ (named : List ℕ → Bool) (signed new names : List ℕ) where
  -- whether a header has the name and the function type
  abbrev same : Header → Bool
  same h = pick (named (name_of new names h.name.0)) (same_bytes signed (signature h.ret h.formals)) false

  by-entered : (g : Identifier) (formals : List Variable) (ret : Ty) (z : Result (ℕ × ℕ) Refusal) (h : Header) (at : ℕ)
      → then_entered no_header z (λ type next.
      header (record { name = g; formals = formals; ret = ret; type = type }) next) ≡ header h at
      → pick (named (name_of new names g.0)) (same_bytes signed (signature ret formals)) false ≡ same h
  unfolding then_entered
  by-entered g formals ret (Ok (type, next)) h at e =
      let k : Header = record { name = g; formals = formals; ret = ret; type = type } in
      let q : k ≡ h = cc in
      ap same q
  by-entered g formals ret (Err r) h at e = absurd (let z : ◌≡◌ {A = ℕ} 0 1 = cc in omega arith)

  by-type : (g : Identifier) (formals : List Variable) (y : Result (Ty × ℕ) Refusal) (en : Ty → ℕ → Result (ℕ × ℕ) Refusal) (h : Header) (at : ℕ)
      → then_type no_header y (λ ret at2.
      then_entered no_header (en ret at2) (λ type next.
      header (record { name = g; formals = formals; ret = ret; type = type }) next)) ≡ header h at
      → then_type (λ e. true) y (λ ret at2.
      pick (named (name_of new names g.0)) (same_bytes signed (signature ret formals)) false) ≡ same h
  unfolding then_type
  by-type g formals (Ok (ret, at2)) en h at e = by-entered g formals ret (en ret at2) h at e
  by-type g formals (Err r) en h at e = absurd (let z : ◌≡◌ {A = ℕ} 0 1 = cc in omega arith)

  by-formals : (g : Identifier) (formals : List Variable) (x : Result ℕ Refusal) (ty : ℕ → Result (Ty × ℕ) Refusal)
      (en : List Variable → Ty → ℕ → Result (ℕ × ℕ) Refusal) (h : Header) (at : ℕ)
      → then_at no_header x (λ at1.
      then_type no_header (ty at1) (λ ret at2.
      then_entered no_header (en formals ret at2) (λ type next.
      header (record { name = g; formals = formals; ret = ret; type = type }) next))) ≡ header h at
      → then_at (λ e. true) x (λ at1.
      then_type (λ e. true) (ty at1) (λ ret at2.
      pick (named (name_of new names g.0)) (same_bytes signed (signature ret formals)) false)) ≡ same h
  unfolding then_at
  by-formals g formals (Ok at1) ty en h at e = by-type g formals (ty at1) (en formals) h at e
  by-formals g formals (Err r) ty en h at e = absurd (let z : ◌≡◌ {A = ℕ} 0 1 = cc in omega arith)

  module _ (ts : List Tok) where
    behind-name : (g : Identifier) (at1 : ℕ) (h : Header) (at : ℕ) → signature_d ts [] 0 0 g at1 ≡ header h at
        → keeps_behind named signed new names ts g at1 ≡ same h
    unfolding signature_d keeps_behind then_formals
    behind-name g at1 h at e =
        by-formals g (optional_formals ts at1).list (optional_formals ts at1).end (λ k. optional_type ts k)
        (λ formals ret k. entered_d ts [] 0 0 g (signature ret formals) k) h at e

    by_name : (x : Result (Identifier × ℕ) Refusal) (h : Header) (at : ℕ)
        → then_named no_header x (λ g at1. pick false (no_header (refusal 35 0 0)) (signature_d ts [] 0 0 g at1))
        ≡ header h at
        → then_named (λ e. true) x (λ g at1. keeps_behind named signed new names ts g at1) ≡ same h
    unfolding then_named pick
    by_name (Ok (g, at1)) h at e = behind-name g at1 h at e
    by_name (Err r) h at e = absurd (let z : ◌≡◌ {A = ℕ} 0 1 = cc in omega arith)

    -- THE LAW: of a function that is read, `keeps` compares name and function type.
    pub kept_same : (f : Function) → alone_d ts ≡ function f
        → keeps named signed new names ts
        ≡ pick (named (name_of new names f.head.name.0))
        (same_bytes signed (signature f.head.ret f.head.formals)) false
    unfolding keeps header_d
    kept_same f e =
        let h = alone-header ts f e in
        by_name (global_d ts 0) f.head h.0 h.1
