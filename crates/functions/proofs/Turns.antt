-- One turn of each loop over the rows: what stands from here on is the first of it and the rest, or nothing.
use Rattle.std.specs.Prelude.{None, Option, Some}
use Prim.Native.Nat.{ℕ, zero, suc, ◌+◌, ◌*◌, ◌-◌, ◌≤◌, ◌<◌}
use mathlib.Core.Path.{◌≡◌, refl}
use mathlib.Core.Bool.{Bool, true, false}
use mathlib.Core.List.{List, [], ◌∷◌}
use native.Mathlib.Omega.{arith}
use borrow.Author.Tests.{eq-eqb, ne_eqb}
use lib.Dec.{eqb}
use lib.ListN.{get_or}
use Rattle.utils.specs.Bytes.{pick}
use Rattle.functions.specs.Columns.{name_at, type_at, formals_at, formal_type_at}
use Rattle.functions.specs.Known.{expected_type}
use Rattle.functions.specs.Rows.{types_at, known_at, known_from, row_from, type_found}

pub known_more : (cells : List ℕ) (i n : ℕ) → i < n
    → known_from cells i (n - i) ≡ known_at cells i ∷ known_from cells (i + 1) (n - (i + 1))
unfolding known_from
known_more cells i n h = let m : n - i ≡ suc (n - (i + 1)) = omega arith in rw m

pub known-none : (cells : List ℕ) (i n : ℕ) → n ≤ i → known_from cells i (n - i) ≡ []
unfolding known_from
known-none cells i n h = let m : n - i ≡ 0 = omega arith in rw m

-- the types of row i's formals from formal k on
pub types_more : (cells : List ℕ) (i k n : ℕ) → k < n
    → types_at cells (formals_at i + k * 2) (n - k)
    ≡ get_or cells (formal_type_at i k) 0 ∷ types_at cells (formals_at i + (k + 1) * 2) (n - (k + 1))
unfolding types_at
types_more cells i k n h =
    let m : n - k ≡ suc (n - (k + 1)) = omega arith in
    let e : formals_at i + k * 2 + 1 ≡ formal_type_at i k = omega arith in
    let g : formals_at i + k * 2 + 2 ≡ formals_at i + (k + 1) * 2 = omega arith in
    rw (m, e, g)

pub types-none : (cells : List ℕ) (i k n : ℕ) → n ≤ k → types_at cells (formals_at i + k * 2) (n - k) ≡ []
unfolding types_at
types-none cells i k n h = let m : n - k ≡ 0 = omega arith in rw m

module _ (rows : List ℕ) (i n name : ℕ) where
  pub row_here : i < n → get_or rows (name_at i) 0 ≡ name → row_from rows i (n - i) name ≡ Some i
  unfolding row_from pick
  row_here h g = let m : n - i ≡ suc (n - (i + 1)) = omega arith in rw (m, eq-eqb _ _ g)

  pub row-later : i < n → (get_or rows (name_at i) 0 ≡ name → ⊥)
      → row_from rows i (n - i) name ≡ row_from rows (i + 1) (n - (i + 1)) name
  unfolding row_from pick
  row-later h g = let m : n - i ≡ suc (n - (i + 1)) = omega arith in rw (m, ne_eqb _ _ g)

  pub row-none : n ≤ i → row_from rows i (n - i) name ≡ None
  unfolding row_from
  row-none h = let m : n - i ≡ 0 = omega arith in rw m

-- The functions so far give a name the type that its row gives.
found-pick : (t : Bool) (rows : List ℕ) (i : ℕ) (more : Option ℕ) (type : ℕ)
    → type_found rows (pick t (Some i) more) type ≡ pick t (get_or rows (type_at i) 0) (type_found rows more type)
unfolding pick
found-pick true rows i more type = refl
found-pick false rows i more type = refl

pub expected-found : (n : ℕ) (rows : List ℕ) (i name type : ℕ)
    → expected_type (known_from rows i n) name type ≡ type_found rows (row_from rows i n name) type
unfolding expected_type known_from row_from
expected-found zero rows i name type = refl
expected-found (suc n) rows i name type =
    rw (
      found-pick (eqb (get_or rows (name_at i) 0) name) rows i (row_from rows (i + 1) n name) type,
      expected-found n rows (i + 1) name type,
    )
