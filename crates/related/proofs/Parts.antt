-- A function that recheck accepts was read alone, and its typing was fine.
use Rattle.std.specs.Prelude.{Err, Ok, Result}
use Rattle.parser.specs.declared.Refusal.{Refusal}
use Prim.Native.Nat.{ℕ}
use mathlib.Core.Path.{◌≡◌, refl, subst}
use native.Mathlib.Omega.{arith}
use mathlib.Core.List.{List}
use Rattle.lexer.specs.Decoded.{Tok}
use Rattle.functions.specs.Functions.{Function, FunctionAt, function, no_function, then_function}
use Rattle.sema.specs.Typing.{Global}
use Rattle.sema.specs.Program.{function_typed}
use Rattle.unit.specs.Outcome.{untyped}
use Rattle.recheck.specs.Recheck.{refuses, accepts, after_typing, typed_as, alone_d, function_alone}

-- it is read, its typing is fine, and leaves this table
pub record AcceptedAlone (ts : List Tok) (globals : ℕ → Global) (f : Function) (table : List ℕ) : Type 0 where
  pub read : alone_d ts ≡ function f
  pub fine : (function_typed ts globals f untyped).end ≡ (Ok tt)
  pub left : (function_typed ts globals f untyped).table ≡ table

pub accepted-alone : (ts : List Tok) (globals : ℕ → Global) (f : Function) (table : List ℕ)
    → function_alone ts globals ≡ accepts f table → AcceptedAlone ts globals f table
unfolding function_alone then_function
accepted-alone ts globals f table = by-reading (alone_d ts) refl
  where
    by_typing : (g : Function) (c : Result Unit Refusal) → alone_d ts ≡ function g → (function_typed ts globals g untyped).end ≡ c
        → after_typing g (function_typed ts globals g untyped).table c ≡ accepts f table
        → AcceptedAlone ts globals f table
    by_typing g (Ok tt) a t e =
        let same : g ≡ f = cc in
        let left : (function_typed ts globals g untyped).table ≡ table = cc in
        subst (λ (h : Function). AcceptedAlone ts globals h table) same (record { read = a; fine = t; left = left })
    by_typing g (Err x) a t e = let z : ◌≡◌ {A = ℕ} 0 1 = cc in absurd (omega arith)

    by-reading : (x : FunctionAt) → alone_d ts ≡ x
        → then_function refuses x (λ g. typed_as g (function_typed ts globals g untyped)) ≡ accepts f table
        → AcceptedAlone ts globals f table
    by-reading (function g) a e = by_typing g (function_typed ts globals g untyped).end a refl e
    by-reading (no_function x) a e = let z : ◌≡◌ {A = ℕ} 0 1 = cc in absurd (omega arith)
