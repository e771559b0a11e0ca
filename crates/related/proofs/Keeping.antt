-- A header that passes the test of recheck (no 41) is kept.
use Prim.Native.Nat.{ℕ, zero, suc, ◌+◌}
use mathlib.Core.Path.{◌≡◌, refl, sym, ap, ◌∙◌}
use mathlib.Core.List.{List}
use mathlib.Core.Bool.{Bool, true, false}
use native.Mathlib.Omega.{arith}
use Rattle.utils.specs.Bytes.{pick, same_bytes}
use Rattle.lexer.specs.Decoded.{Tok, name_of}
use Rattle.lexer.proofs.Same.{same_bytes-true}
use Rattle.pieces.specs.declared.Identifier.{Identifier}
use Rattle.parser.specs.Step.{then_at, then_named, then_type}
use Rattle.parser.specs.Runs.{type_cell}
use Rattle.parser.specs.declared.Ty.{Ty}
use Rattle.parser.specs.declared.Ty.TheVariants as Y
use Rattle.parser.specs.declared.Variable.{Variable}
use Rattle.functions.specs.Known.{signature, formal_types}
use Rattle.functions.specs.Functions.{Function, then_formals}
use Rattle.headers.specs.Kept.{keeps_behind, keeps}
use Rattle.related.specs.Alone.{Kept, Keeps}

-- a type by its cell
type_of_lem : ℕ → Ty
type_of_lem zero = Y.Placeholder
type_of_lem (suc zero) = Y.Int
type_of_lem (suc (suc zero)) = Y.Bool
type_of_lem (suc (suc (suc zero))) = Y.Void
type_of_lem (suc (suc (suc (suc n)))) = Y.Fn n

type_back : (t : Ty) → type_of_lem (type_cell t) ≡ t
unfolding type_of_lem
type_back Y.Placeholder = refl
type_back Y.Int = refl
type_back Y.Bool = refl
type_back Y.Void = refl
type_back (Y.Fn n) = let e : n + 4 ≡ suc (suc (suc (suc n))) = omega arith in ap type_of_lem e

same-type : (t t' : Ty) → type_cell t ≡ type_cell t' → t ≡ t'
same-type t t' e = sym (type_back t) ∙ (ap type_of_lem e ∙ type_back t')

both_true : (b c : Bool) → pick b c false ≡ true → (b ≡ true) × (c ≡ true)
unfolding pick
both_true true c e = (refl, e)
both_true false c e = let z : ◌≡◌ {A = ℕ} 0 1 = cc in absurd (omega arith)

module _ (spells : ℕ → ℕ → Bool) (replaced : Function) (named : List ℕ → Bool) (signed new names : List ℕ)
    (alone : List Tok) (k : keeps named signed new names alone ≡ true)
    (n : (x : ℕ) → named (name_of new names x) ≡ spells x replaced.head.name.0)
    (s : signed ≡ signature replaced.head.ret replaced.head.formals) where
  -- what passes the test
  passed : (g : Identifier) (vs : List Variable) (ret : Ty)
      → pick (named (name_of new names g.0)) (same_bytes signed (signature ret vs)) false ≡ true
      → Kept spells replaced g vs ret
  passed g vs ret e =
      let b = both_true _ _ e in
      let same : signature replaced.head.ret replaced.head.formals ≡ signature ret vs =
      sym s ∙ same_bytes-true signed (signature ret vs) b.1 in
      let types : formal_types vs ≡ formal_types replaced.head.formals = cc in
      let result : type_cell ret ≡ type_cell replaced.head.ret = cc in
      record { name = sym (n g.0) ∙ b.0; formals = types; result = same-type ret replaced.head.ret result }

  -- THE LAW: no 41, so the header is kept
  pub keeps-by : Keeps spells replaced alone
  unfolding keeps keeps_behind then_named then_formals then_at then_type
  keeps-by g vs ret u = passed g vs ret (rw (u.named, u.closed, u.typed, u.listed) at k)
