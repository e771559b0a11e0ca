-- One function and nothing behind it: each way that its reading ends is what `alone_d` says.
use Rattle.std.specs.Prelude.{Err, Ok}
use Prim.Native.Nat.{ℕ}
use mathlib.Core.Path.{◌≡◌, refl, ap}
use mathlib.Core.List.{List, []}
use mathlib.Core.Bool.{false}
use native.Mathlib.Omega.{arith}
use borrow.Author.Tests.{eq-eqb, ne_eqb}
use Rattle.lexer.specs.Decoded.{Tok, token_at}
use Rattle.lexer.specs.declared.TokenAt.{TokenAt}
use Rattle.parser.specs.Step.{refusal, opened}
use Rattle.parser.specs.declared.Refusal.{Refusal}
use Rattle.functions.specs.Known.{types_after}
use Rattle.functions.specs.Functions.{Function, FunctionAt, function, no_function, then_function, function_d}
use Rattle.functions.specs.Answer.{Slices, counts_from, counts_with, function_read, FunctionHeld}
use Rattle.functions.specs.declared.FunctionRead.{FunctionRead}
use Rattle.functions.proofs.Program.{same-read}
use Rattle.unit.specs.Outcome.{none}
use Rattle.recheck.specs.Recheck.{alone_d}
use Rattle.recheck.specs.Alone.{alone_read}

-- what is answered of a function that was read with nothing counted
abbrev read_of : Function → FunctionRead
read_of f = record { next = f.next; types = types_after 0 f.head.type; counts = counts_with none f }

module _ (ts : List Tok) (names : List ℕ) (s₀ s : Slices) where
  -- what is said of the slices
  abbrev pub Alone : FunctionAt → Type 0
  Alone x = FunctionHeld ts names none s₀ s x

  -- the function is refused
  pub alone-refused : {e : Refusal} (x : FunctionAt) → function_d ts false [] 0 0 ≡ x
      → Err e ≡ function_read 0 none x
      → (Err e ≡ alone_read (alone_d ts)) × Alone (alone_d ts)
  unfolding alone_d then_function
  alone-refused (no_function r) q a = rw q (cc, tt)
  alone-refused (function f) q a = absurd (let z : ◌≡◌ {A = ℕ} 0 1 = cc in omega arith)

  module _ {t : TokenAt} {r : FunctionRead} where
    -- the end token behind it
    pub alone-end : (x : FunctionAt) → function_d ts false [] 0 0 ≡ x → Ok r ≡ function_read 0 none x
        → Alone x → t ≡ token_at ts r.next → t.kind ≡ 38
        → (Ok r.counts ≡ alone_read (alone_d ts)) × Alone (alone_d ts)
    unfolding alone_d then_function counts_from opened
    alone-end (function f) q a w h k =
        let v : r ≡ read_of f = same-read a in
        rw (q, ← ap (λ (z : FunctionRead). token_at ts z.next) v, ← h, eq-eqb _ _ k) (
          ap (λ
              (z : FunctionRead). Ok z.counts) v,
          w,
        )
    alone-end (no_function e) q a w h k = absurd (let z : ◌≡◌ {A = ℕ} 0 1 = cc in omega arith)

    -- another global behind it
    pub alone-global : {e : Refusal} (x : FunctionAt) → function_d ts false [] 0 0 ≡ x
        → Ok r ≡ function_read 0 none x → t ≡ token_at ts r.next → (t.kind ≡ 38 → ⊥) → t.kind ≡ 2
        → e ≡ refusal 40 r.next 0
        → (Err e ≡ alone_read (alone_d ts)) × Alone (alone_d ts)
    unfolding alone_d then_function opened
    alone-global (function f) q a h k g w =
        let v : r ≡ read_of f = same-read a in
        rw (q, ← ap (λ (z : FunctionRead). token_at ts z.next) v, ← h, ne_eqb _ _ k, eq-eqb _ _ g, w, v) (refl, tt)
    alone-global (no_function e) q a h k g w = absurd (let z : ◌≡◌ {A = ℕ} 0 1 = cc in omega arith)

    -- any other token behind it
    pub alone-other : {e : Refusal} (x : FunctionAt) → function_d ts false [] 0 0 ≡ x
        → Ok r ≡ function_read 0 none x → t ≡ token_at ts r.next → (t.kind ≡ 38 → ⊥) → (t.kind ≡ 2 → ⊥)
        → e ≡ refusal 7 r.next 0
        → (Err e ≡ alone_read (alone_d ts)) × Alone (alone_d ts)
    unfolding alone_d then_function opened
    alone-other (function f) q a h k g w =
        let v : r ≡ read_of f = same-read a in
        rw (q, ← ap (λ (z : FunctionRead). token_at ts z.next) v, ← h, ne_eqb _ _ k, ne_eqb _ _ g, w, v) (refl, tt)
    alone-other (no_function e) q a h k g w = absurd (let z : ◌≡◌ {A = ℕ} 0 1 = cc in omega arith)
