-- What parsing and typing refuse has a number below 40, and so has recheck's answer by them.
use Prim.Native.Nat.{ℕ, ◌<◌}
use mathlib.Core.List.{List}
use native.Mathlib.Omega.{arith}
use borrow.Author.Tests.{leb-true}
use Rattle.lexer.specs.Read.{Reading}
use Rattle.lexer.specs.Decoded.{Tok}
use Rattle.parser.specs.declared.Refusal.{Refusal}
use Rattle.functions.specs.Functions.{Function, FunctionAt, function, no_function}
use Rattle.sema.specs.Symbols.{Typed}
use Rattle.checker.proofs.ParsedNumbers.{Fine, Is}
use Rattle.checker.proofs.TypedNumbers.{FineT}
use Rattle.recheck.specs.Recheck.{Verdict, refuses, accepts, typed_as, verdict_as}

pub fine-low : {e : Refusal} → Fine e → e.number < 40
fine-low {e} (Fine.low h g) = omega (arith, leb-true e.number 22 g)
fine-low {e} (Fine.high h g) = omega (arith, leb-true e.number 38 g)

abbrev pub LowF : FunctionAt → Type 0
LowF (function f) = Unit
LowF (no_function e) = e.number < 40

abbrev pub LowV : Verdict → Type 0
LowV (accepts f table) = Unit
LowV (refuses e) = e.number < 40

pub typed-low : (f : Function) {x : Typed} → Is FineT x → LowV (typed_as f x)
typed-low f (Is.so (FineT.fine t)) = tt
typed-low f (Is.so (FineT.refused t e h)) = fine-low h

pub answer-low : (new : List ℕ) (r : Reading) (ts : List Tok) (callees : ℕ → ℕ) (type : ℕ) (v : Verdict) → LowV v
    → (verdict_as new r ts callees type v).answer.number < 40
answer-low new r ts callees type (accepts f table) h = omega arith
answer-low new r ts callees type (refuses e) h = h
