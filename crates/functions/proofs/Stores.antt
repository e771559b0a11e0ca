-- What a store leaves of the rows before it, and what is read back of the formals that it stored.
use Prim.Native.Nat.{ℕ, zero, suc, ◌+◌, ◌*◌, ◌≤◌, ◌<◌}
use mathlib.Core.Path.{◌≡◌, refl, sym, ap, ◌∙◌}
use mathlib.Core.List.{List, [], ◌∷◌, ◌++◌}
use mathlib.Core.Bool.{Bool, true, false}
use native.Mathlib.Omega.{arith}
use lib.Dec.{leb}
use borrow.Author.Tests.{leb-true}
use lib.ListN.{length, get_or, set, length-set}
use lib.Seq.{sets, get_or-set_same, get_or-set_other, set_comm}
use Rattle.utils.proofs.Runs.{sets_append}
use Rattle.utils.specs.Bytes.{pick}
use Rattle.parser.specs.Runs.{variables_cells, type_cell}
use Rattle.parser.specs.declared.Variable.{Variable}
use Rattle.functions.specs.Known.{formal_types}
use Rattle.functions.specs.Columns.{row_at, ret_at, formals_at}
use Rattle.functions.specs.Rows.{at_most16, types_at, known_at, known_from}

pub get_or-sets-below : (vs l : List ℕ) (at i : ℕ) → i < at → get_or (sets l at vs) i 0 ≡ get_or l i 0
get_or-sets-below [] l at i h = refl
get_or-sets-below (v ∷ vs) l at i h =
    get_or-sets-below vs (set l at v) (suc at) i (omega arith) ∙ get_or-set_other l at i v 0 (λ e. omega (arith, e))

pub types-below : (n : ℕ) (vs l : List ℕ) (at from : ℕ) → from + n * 2 ≤ at → types_at (sets l at vs) from n ≡ types_at l
    from n
unfolding types_at
types-below zero vs l at from h = refl
types-below (suc n) vs l at from h =
    rw (get_or-sets-below vs l at (from + 1) (omega arith), types-below n vs l at (from + 2) (omega arith))

at_most16-small : (n : ℕ) → at_most16 n ≤ 16
unfolding pick
at_most16-small n = by (leb n 16) refl
  where
    by : (b : Bool) → leb n 16 ≡ b → pick b n 16 ≤ 16
    by true e = leb-true n 16 e
    by false e = omega arith

known_at-below : (vs l : List ℕ) (at i : ℕ) → 46 + i * 45 ≤ at → known_at (sets l at vs) i ≡ known_at l i
known_at-below vs l at i h =
    let k = get_or l (13 + i * 45) 0 in
    let s : at_most16 k ≤ 16 = at_most16-small k in
    rw (
      get_or-sets-below vs l at (2 + i * 45) (omega arith),
      get_or-sets-below vs l at (8 + i * 45) (omega arith),
      get_or-sets-below vs l at (7 + i * 45) (omega arith),
      get_or-sets-below vs l at (13 + i * 45) (omega arith),
      types-below (at_most16 k) vs l at (14 + i * 45) (omega (arith, s)),
    )

-- a store behind the first rows leaves them
pub known-below : (n : ℕ) (vs l : List ℕ) (at i : ℕ) → 1 + (i + n) * 45 ≤ at
    → known_from (sets l at vs) i n ≡ known_from l i n
unfolding known_from
known-below zero vs l at i h = refl
known-below (suc n) vs l at i h =
    rw (known_at-below vs l at i (omega arith), known-below n vs l at (i + 1) (omega arith))

-- the types of formals that were stored
pub types_there : (vs : List Variable) (l : List ℕ) (at : ℕ) → at + length vs * 2 ≤ length l
    → types_at (sets l at (variables_cells vs)) at (length vs) ≡ formal_types vs
unfolding types_at variables_cells formal_types
types_there [] l at h = refl
types_there (v ∷ vs) l at h =
    let l1 = set l at v.id.0 in
    let l2 = set l1 (suc at) (type_cell v.ty) in
    let i : at + 1 ≡ suc at = omega arith in
    let j : at + 2 ≡ suc (suc at) = omega arith in
    let k : length l2 ≡ length l = length-set l1 (suc at) (type_cell v.ty) ∙ length-set l at v.id.0 in
    let n : suc at < length l1 = rw (length-set l at v.id.0) (omega arith) in
    rw (
      i,
      j,
      get_or-sets-below (variables_cells vs) l2 (suc (suc at)) (suc at) (omega arith),
      get_or-set_same l1 (suc at) (type_cell v.ty) 0 n,
      types_there vs l2 (suc (suc at)) (omega (arith, k)),
    )

-- the cells before the formals, stored in two runs
pub two_runs : (l l₁ l₂ xs ys : List ℕ) (i : ℕ) → length xs ≡ 6 → l₁ ≡ sets l (row_at i) xs → l₂ ≡ sets l₁ (ret_at i) ys
    → l₂ ≡ sets l (row_at i) (xs ++ ys)
two_runs l l₁ l₂ xs ys i e p q =
    let at : row_at i + length xs ≡ ret_at i = omega (arith, e) in
    q ∙ rw (p, ← at) (sym (sets_append xs ys l (row_at i)))

-- A store before another, which it doesn't reach, may come after it.
pub sets-set : (ys l : List ℕ) (b i v : ℕ) → i < b → sets (set l i v) b ys ≡ set (sets l b ys) i v
sets-set [] l b i v h = refl
sets-set (y ∷ ys) l b i v h =
    rw (set_comm l i b v y (λ e. omega (arith, e))) (sets-set ys (set l b y) (suc b) i v (omega arith))

pub sets_comm : (xs ys l : List ℕ) (a b : ℕ) → a + length xs ≤ b → sets (sets l b ys) a xs ≡ sets (sets l a xs) b ys
sets_comm [] ys l a b h = refl
sets_comm (x ∷ xs) ys l a b h =
    rw (← sets-set ys l b a x (omega arith)) (sets_comm xs ys (set l a x) (suc a) b (omega arith))

-- a row whose formals were stored first
pub row-stored : (l l₁ l₂ xs ys : List ℕ) (i : ℕ) → length xs ≡ 13 → l₁ ≡ sets l (formals_at i) ys → l₂ ≡ sets l₁
    (row_at i) xs
    → l₂ ≡ sets l (row_at i) (xs ++ ys)
row-stored l l₁ l₂ xs ys i e p q =
    let here : row_at i + length xs ≡ formals_at i = omega (arith, e) in
    let swapped : sets (sets l (formals_at i) ys) (row_at i) xs ≡ sets (sets l (row_at i) xs) (formals_at i) ys =
    sets_comm xs ys l (row_at i) (formals_at i) (omega (arith, e)) in
    let joined : sets l (row_at i) (xs ++ ys) ≡ sets (sets l (row_at i) xs) (formals_at i) ys =
    rw here at (sets_append xs ys l (row_at i)) in
    q ∙ ap (λ (z : List ℕ). sets z (row_at i) xs) p ∙ swapped ∙ sym joined
