-- Records read one after the other: what the labels and operations from here on are, with one record more. And labels
-- looked up one after the other.
use Prim.Native.Nat.{ℕ, zero, suc, ◌+◌, ◌-◌, ◌≤◌, ◌<◌}
use mathlib.Core.Path.{◌≡◌, refl, sym, ap, ◌∙◌}
use mathlib.Core.Bool.{Bool, true, false, cond}
use mathlib.Core.List.{List, [], ◌∷◌}
use native.Mathlib.Omega.{arith}
use borrow.Author.Tests.{eq-eqb, ne_eqb}
use lib.Dec.{eqb}
use Rattle.std.specs.Prelude.{Option, Some, None, position}
use Rattle.std.specs.List.{position_from}
use Rattle.std.proofs.lemmas.Iterator.Adapters.{position_from-zero}
use Rattle.utils.specs.Bytes.{pick}
use Rattle.body.specs.Shapes.{name, operation}
use Rattle.body.specs.Records.{first_cell, record_at, record_part, goes_of, parts_at}
use Rattle.body.specs.declared.ItemRecord.{ItemRecord}
use Rattle.link.specs.Edges.{Place, at, nowhere}
use Rattle.link.specs.Table.{leading, block_of, label_place}
use Rattle.link.specs.Steps.{run}

pub parts_more : (cells : List ℕ) (first count : ℕ) → 0 < count
    → parts_at cells first count ≡ record_part (record_at cells first) ∷ parts_at cells (first + 1) (count - 1)
unfolding parts_at
parts_more cells first zero h = absurd (omega arith)
parts_more cells first (suc count) h =
    let e : suc count - 1 ≡ count = omega arith in
    rw e

parts_none : (cells : List ℕ) (first count : ℕ) → count ≡ 0 → parts_at cells first count ≡ []
unfolding parts_at
parts_none cells first count z = rw z

pub label-part : (r : ItemRecord) → r.kind ≡ 1 → record_part r ≡ name (first_cell r.last)
unfolding record_part pick
label-part r h = rw (eq-eqb _ _ h)

pub operation-part : (r : ItemRecord) → (r.kind ≡ 1 → ⊥) → record_part r ≡ operation r.token (goes_of r)
unfolding record_part pick
operation-part r h = rw (ne_eqb _ _ h)

-- Behind i leading labels of `count` items: all are read, or there is one more item.
pub leading-all : (cells : List ℕ) (first count i : ℕ) → count ≤ i → (whole : ℕ)
    → i + leading (parts_at cells (first + i) (count - i)) ≡ whole → i ≡ whole
unfolding leading
leading-all cells first count i h whole e =
    let f = rw (parts_none cells (first + i) (count - i) (omega arith)) at e in
    omega (arith, f)

module _ (cells : List ℕ) (first count i : ℕ) (less : i < count) (r : ItemRecord)
    (read : r ≡ record_at cells (first + i)) where
  here : parts_at cells (first + i) (count - i)
      ≡ record_part r ∷ parts_at cells (first + (i + 1)) (count - (i + 1))
  here =
      let e : first + (i + 1) ≡ first + i + 1 = omega arith in
      let f : count - (i + 1) ≡ count - i - 1 = omega arith in
      rw (e, f, read) (parts_more cells (first + i) (count - i) (omega arith))

  pub leading-on : r.kind ≡ 1 → (whole : ℕ) → i + leading (parts_at cells (first + i) (count - i)) ≡ whole
      → i + 1 + leading (parts_at cells (first + (i + 1)) (count - (i + 1))) ≡ whole
  unfolding leading
  leading-on k whole h =
      let e = rw (here, label-part r k) at h in
      omega (arith, e)

  pub leading-ends : (r.kind ≡ 1 → ⊥) → (whole : ℕ) → i + leading (parts_at cells (first + i) (count - i)) ≡ whole
      → i ≡ whole
  unfolding leading
  leading-ends k whole h =
      let e = rw (here, operation-part r k) at h in
      omega (arith, e)

-- The operations from the item i on, up to the item `end`: all are read, or there is one more item.
pub run-all : (cells : List ℕ) (i end : ℕ) → end ≤ i → (whole : ℕ) → i + run (parts_at cells i (end - i)) ≡ whole
    → i ≡ whole
unfolding run
run-all cells i end h whole e =
    let f = rw (parts_none cells i (end - i) (omega arith)) at e in
    omega (arith, f)

module _ (cells : List ℕ) (i end : ℕ) (less : i < end) (r : ItemRecord) (read : r ≡ record_at cells i) where
  there : parts_at cells i (end - i) ≡ record_part r ∷ parts_at cells (i + 1) (end - (i + 1))
  there =
      let f : end - (i + 1) ≡ end - i - 1 = omega arith in
      rw (f, read) (parts_more cells i (end - i) (omega arith))

  pub run_on : (r.kind ≡ 1 → ⊥) → (whole : ℕ) → i + run (parts_at cells i (end - i)) ≡ whole
      → i + 1 + run (parts_at cells (i + 1) (end - (i + 1))) ≡ whole
  unfolding run
  run_on k whole h =
      let e = rw (there, operation-part r k) at h in
      omega (arith, e)

  pub run_ends : r.kind ≡ 1 → (whole : ℕ) → i + run (parts_at cells i (end - i)) ≡ whole → i ≡ whole
  unfolding run
  run_ends k whole h =
      let e = rw (there, label-part r k) at h in
      omega (arith, e)

-- The first label of a name, among labels that are numbered from i on.
abbrev pub placed : ℕ → Option ℕ → Place
placed before (Some i) = at (block_of before i)
placed before None = nowhere

placed_from : (before l i : ℕ) (xs : List ℕ)
    → label_place before i xs l ≡ placed before (position_from (λ x. eqb x l) i xs)
unfolding label_place pick
placed_from before l i [] = refl
placed_from before l i (x ∷ xs) = by (eqb x l) _ _ (placed_from before l (i + 1) xs)
  where
    by : (t : Bool) (p : Place) (o : Option ℕ) → p ≡ placed before o
        → pick t (at (block_of before i)) p ≡ placed before (cond t (Some i) o)
    by true p o e = refl
    by false p o e = e

pub label_placed : (before l : ℕ) (xs : List ℕ) → label_place before 0 xs l ≡ placed before (position (λ x. eqb x l) xs)
label_placed before l xs =
    placed_from before l 0 xs ∙ ap (λ (o : Option ℕ). placed before o) (sym (position_from-zero (λ x. eqb x l) xs))
