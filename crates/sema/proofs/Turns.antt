-- One turn of each loop: what is left to look at is the first of it and the rest, or nothing.
use Prim.Native.Nat.{ℕ, zero, suc, ◌+◌, ◌*◌, ◌-◌, ◌<◌}
use mathlib.Core.Path.{◌≡◌, refl, sym, ap, ◌∙◌}
use mathlib.Core.List.{List, [], ◌∷◌}
use native.Mathlib.Omega.{arith}
use lib.ListN.{get_or, length}
use Rattle.functions.specs.Rows.{types_at}
use Rattle.pieces.specs.declared.Identifier.{Identifier}
use Rattle.body.specs.Records.{named}
use Rattle.sema.specs.Items.{typed, variables_at}

variables_more : (cells : List ℕ) (at n : ℕ) → 0 < n
    → variables_at cells at n
    ≡ typed (named (get_or cells (at * 2) 0)) (get_or cells (at * 2 + 1) 0) ∷ variables_at cells (at + 1) (n - 1)
unfolding variables_at
variables_more cells at zero h = absurd (omega arith)
variables_more cells at (suc n) h = let m : suc n - 1 ≡ n = omega arith in rw m

-- .. in turn i of n from `first` on
pub variables_turn : (cells : List ℕ) (first i n : ℕ) → i < n
    → variables_at cells (first + i) (n - i)
    ≡ typed (named (get_or cells ((first + i) * 2) 0)) (get_or cells ((first + i) * 2 + 1) 0)
    ∷ variables_at cells (first + (i + 1)) (n - (i + 1))
variables_turn cells first i n h =
    let a : first + (i + 1) ≡ first + i + 1 = omega arith in
    let b : n - (i + 1) ≡ n - i - 1 = omega arith in
    rw (a, b) (variables_more cells (first + i) (n - i) (omega arith))

pub variables_none : (cells : List ℕ) (at n : ℕ) → n ≡ 0 → variables_at cells at n ≡ []
unfolding variables_at
variables_none cells at n h = rw h

-- the type that was found under an argument's name
pub found_at : (t cells : List ℕ) (at : ℕ) {x : Identifier} {found : ℕ} → x ≡ named (get_or cells (at * 2) 0)
    → found ≡ get_or t x.0 0
    → get_or t (named (get_or cells (at * 2) 0)).0 0 ≡ found
found_at t cells at e h = ap (λ (x : Identifier). get_or t x.0 0) (sym e) ∙ sym h

types_more : (cells : List ℕ) (at n : ℕ) → 0 < n
    → types_at cells at n ≡ get_or cells (at + 1) 0 ∷ types_at cells (at + 2) (n - 1)
unfolding types_at
types_more cells at zero h = absurd (omega arith)
types_more cells at (suc n) h = let m : suc n - 1 ≡ n = omega arith in rw m

pub types_turn : (cells : List ℕ) (first i n : ℕ) → i < n
    → types_at cells (first + i * 2) (n - i)
    ≡ get_or cells (first + i * 2 + 1) 0 ∷ types_at cells (first + (i + 1) * 2) (n - (i + 1))
types_turn cells first i n h =
    let a : first + (i + 1) * 2 ≡ first + i * 2 + 2 = omega arith in
    let b : n - (i + 1) ≡ n - i - 1 = omega arith in
    rw (a, b) (types_more cells (first + i * 2) (n - i) (omega arith))

pub length_types : (n : ℕ) (cells : List ℕ) (at : ℕ) → length (types_at cells at n) ≡ n
unfolding types_at
length_types zero cells at = refl
length_types (suc n) cells at = ap suc (length_types n cells (at + 2))

pub length_variables : (n : ℕ) (cells : List ℕ) (at : ℕ) → length (variables_at cells at n) ≡ n
unfolding variables_at
length_variables zero cells at = refl
length_variables (suc n) cells at = ap suc (length_variables n cells (at + 1))
