-- The tests are the ranges: a table passes exactly if it is in range, with its text, and has a function of that number.
use Prim.Native.Nat.{ℕ, zero, suc, ◌+◌, ◌≤◌, ◌<◌}
use mathlib.Core.Path.{◌≡◌, refl}
use mathlib.Core.List.{List}
use mathlib.Core.Bool.{Bool, true, false}
use native.Mathlib.Omega.{arith}
use native.Mathlib.Nat.{zero-add}
use borrow.Author.Tests.{ltb-true, ltb-false, leb-true, lt-ltb, le-ltb, le-leb}
use lib.Dec.{ltb, leb}
use lib.ListN.{length, get_or}
use Rattle.utils.specs.Bytes.{pick}
use Rattle.pieces.proofs.Digits.{pick-both}
use Rattle.functions.specs.Columns.{formal_type_at}
use Rattle.headers.specs.Ranges.{Between, RowInRange, TableInRange}
use Rattle.headers.specs.Table.{between, formals_fit, name_fits, type_fits, row_fits, rows_fit, is_table}

-- Both of two tests, one after the other. ----------------------------------------------------------------------------

pub neither : (a b : Bool) → pick a false b ≡ true → (a ≡ false) × (b ≡ true)
unfolding pick
neither true b h = absurd (let z : ◌≡◌ {A = ℕ} 0 1 = cc in omega arith)
neither false b h = (refl, h)

and_both : {a b : Bool} → a ≡ true → b ≡ true → pick a b false ≡ true
unfolding pick
and_both p q = rw (p, q)

and_neither : {a b : Bool} → a ≡ false → b ≡ true → pick a false b ≡ true
unfolding pick
and_neither p q = rw (p, q)

-- Cells. -------------------------------------------------------------------------------------------------------------

between_in : (least most x : ℕ) → between least most x ≡ true → Between least most x
unfolding between
between_in least most x h =
    let p = neither (ltb x least) (leb x most) h in
    (ltb-false _ _ p.0, leb-true _ _ p.1)

in_between : (least most x : ℕ) → Between least most x → between least most x ≡ true
unfolding between
in_between least most x h = and_neither (le-ltb _ _ h.0) (le-leb _ _ h.1)

module _ (rows : List ℕ) (i : ℕ) where
  formals_in_lem : (n k : ℕ) → formals_fit rows i k n ≡ true → (j : ℕ) → j < n
      → Between 1 2 (get_or rows (formal_type_at i (k + j)) 0)
  unfolding formals_fit
  formals_in_lem zero k h j l = absurd (omega arith)
  formals_in_lem (suc n) k h zero l =
      let m : k + zero ≡ k = omega arith in
      rw m (between_in _ _ _ (pick-both _ _ h).0)
  formals_in_lem (suc n) k h (suc j) l =
      let m : k + suc j ≡ k + 1 + j = omega arith in
      rw m (formals_in_lem n (k + 1) (pick-both _ _ h).1 j (omega arith))

  in_formals : (n k : ℕ) → ((j : ℕ) → j < n → Between 1 2 (get_or rows (formal_type_at i (k + j)) 0))
      → formals_fit rows i k n ≡ true
  unfolding formals_fit
  in_formals zero k h = refl
  in_formals (suc n) k h =
      let m : k + zero ≡ k = omega arith in
      and_both (in_between _ _ _ (rw m at (h zero (omega arith))))
      (in_formals n (k + 1) (λ j l.
      let m : k + 1 + j ≡ k + suc j = omega arith in
      rw m (h (suc j) (omega arith))))

-- Rows. --------------------------------------------------------------------------------------------------------------

module _ (old rows : List ℕ) where
  row_in : (i : ℕ) → row_fits old rows i ≡ true → RowInRange old rows i
  unfolding row_fits name_fits type_fits
  row_in i h =
      let p = pick-both _ _ h in
      let n1 = pick-both _ _ p.0 in
      let n2 = pick-both _ _ n1.1 in
      let n3 = pick-both _ _ n2.1 in
      let q = pick-both _ _ p.1 in
      let t1 = pick-both _ _ q.0 in
      let t2 = pick-both _ _ t1.1 in
      let f = pick-both _ _ q.1 in
      record {
        name = leb-true _ _ n3.0;
        place = leb-true _ _ n1.0;
        name_length = between_in _ _ _ n2.0;
        line = between_in _ _ _ n3.1;
        ret = between_in _ _ _ t1.0;
        type = ltb-true _ _ t2.0;
        blocks = between_in _ _ _ t2.1;
        formals = leb-true _ _ f.0;
        types_are = λ k l. rw zero-add at (formals_in_lem rows i _ 0 f.1 k l);
      }

  in_row : (i : ℕ) → RowInRange old rows i → row_fits old rows i ≡ true
  unfolding row_fits name_fits type_fits
  in_row i r =
      and_both
      (and_both (le-leb _ _ r.place)
      (and_both (in_between _ _ _ r.name_length)
      (and_both (le-leb _ _ r.name) (in_between _ _ _ r.line))))
      (and_both
      (and_both (in_between _ _ _ r.ret) (and_both (lt-ltb _ _ r.type) (in_between _ _ _ r.blocks)))
      (and_both (le-leb _ _ r.formals) (in_formals rows i _ 0 (λ j l. rw zero-add (r.types_are j l)))))

  rows_in : (n i : ℕ) → rows_fit old rows i n ≡ true → (j : ℕ) → j < n → RowInRange old rows (i + j)
  unfolding rows_fit
  rows_in zero i h j l = absurd (omega arith)
  rows_in (suc n) i h zero l =
      let m : i + zero ≡ i = omega arith in
      rw m (row_in i (pick-both _ _ h).0)
  rows_in (suc n) i h (suc j) l =
      let m : i + suc j ≡ i + 1 + j = omega arith in
      rw m (rows_in n (i + 1) (pick-both _ _ h).1 j (omega arith))

  in_rows : (n i : ℕ) → ((j : ℕ) → j < n → RowInRange old rows (i + j)) → rows_fit old rows i n ≡ true
  unfolding rows_fit
  in_rows zero i h = refl
  in_rows (suc n) i h =
      let m : i + zero ≡ i = omega arith in
      and_both (in_row i (rw m at (h zero (omega arith))))
      (in_rows n (i + 1) (λ j l.
      let m : i + 1 + j ≡ i + suc j = omega arith in
      rw m (h (suc j) (omega arith))))

-- The table. ---------------------------------------------------------------------------------------------------------

-- a header table of its size, in range with its text, that has a function of this number
pub record Tabled (old table : List ℕ) (number : ℕ) : Type 0 where
  pub short : length old ≤ 16384
  pub sized : 2881 ≤ length table
  pub there : number < get_or table 0 0
  pub in_range : TableInRange old table

module _ (old table : List ℕ) (number : ℕ) where
  -- A table that passes is in range ..
  pub table_in_range : is_table old table number ≡ true → Tabled old table number
  unfolding is_table
  table_in_range h =
      let p = neither _ _ h in
      let q = neither _ _ p.1 in
      let r = pick-both _ _ q.1 in
      let s = pick-both _ _ r.1 in
      record {
        short = ltb-false _ _ p.0;
        sized = ltb-false _ _ q.0;
        there = ltb-true _ _ r.0;
        in_range = record {
          count = leb-true _ _ s.0;
          each =
              λ i l. rw zero-add at (rows_in old table _ 0 s.1 i l);
        };
      }

  -- .. and one that is in range passes.
  pub in_range_table : Tabled old table number → is_table old table number ≡ true
  unfolding is_table
  in_range_table t =
      and_neither (le-ltb _ _ t.short)
      (and_neither (le-ltb _ _ t.sized)
      (and_both (lt-ltb _ _ t.there)
      (and_both (le-leb _ _ t.in_range.count) (in_rows old table _ 0
      (λ j l. rw zero-add (t.in_range.each j l))))))
