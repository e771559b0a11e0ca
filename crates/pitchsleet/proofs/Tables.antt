-- A header table's bytes as cells.
use Prim.Native.Nat.{ℕ, zero, suc, ◌+◌, ◌-◌, ◌*◌, ◌/◌, ◌≤◌, ◌<◌}
use mathlib.Core.Path.{◌≡◌, refl, ap}
use mathlib.Core.List.{List}
use mathlib.Core.Bool.{Bool, true, false}
use native.Mathlib.Omega.{arith}
use borrow.Author.Tests.{ltb-true, ltb-false}
use lib.Dec.{ltb}
use lib.ListN.{length, set, take, drop}
use lib.Seq.{sets, sets-eq, take_at}
use Rattle.utils.specs.Bytes.{pick}
use Rattle.pitchsleet.specs.RecheckBytes.{cell_at, cells_at, cell_count}

-- one cell more
pub cells-more : (bytes cells : List ℕ) (n i : ℕ) → i < n
    → sets (set cells i (cell_at bytes (i * 4))) (i + 1) (cells_at bytes ((i + 1) * 4) (n - (i + 1)))
    ≡ sets cells i (cells_at bytes (i * 4) (n - i))
unfolding cells_at
cells-more bytes cells n i h =
    let m : n - i ≡ suc (n - (i + 1)) = omega arith in
    let k : (i + 1) * 4 ≡ i * 4 + 4 = omega arith in
    let s : i + 1 ≡ suc i = omega arith in
    rw (m, k, s)

-- none left
pub cells-none : (bytes cells : List ℕ) (n i : ℕ) → n ≤ i → sets cells i (cells_at bytes (i * 4) (n - i)) ≡ cells
unfolding cells_at
cells-none bytes cells n i h =
    let m : n - i ≡ 0 = omega arith in
    rw m

pub length-cells : (n : ℕ) (bytes : List ℕ) (at : ℕ) → length (cells_at bytes at n) ≡ n
unfolding cells_at
length-cells zero bytes at = refl
length-cells (suc n) bytes at = ap suc (length-cells n bytes (at + 4))

-- so many cells are there, and no more than a table has
pub count_fits : (k n : ℕ) → n ≡ cell_count k → (n * 4 ≤ k) × (n ≤ 2881)
unfolding cell_count pick
count_fits k n e = by (ltb (k / 4) 2881) refl e
  where
    by : (b : Bool) → ltb (k / 4) 2881 ≡ b → n ≡ pick b (k / 4) 2881 → (n * 4 ≤ k) × (n ≤ 2881)
    by true h q = (omega (arith, q), omega (arith, q, ltb-true (k / 4) 2881 h))
    by false h q = (omega (arith, q, ltb-false (k / 4) 2881 h), omega (arith, q))

-- the first n cells of an array into which they were stored from its start
pub cells_lent : (l cells bytes : List ℕ) (n : ℕ) → n ≤ length l → cells ≡ sets l 0 (cells_at bytes 0 n)
    → take (n - 0) (drop 0 cells) ≡ cells_at bytes 0 n
cells_lent l cells bytes n h e =
    let m : n - 0 ≡ n = omega arith in
    let k : length (cells_at bytes 0 n) ≡ n = length-cells n bytes 0 in
    rw (m, e, sets-eq (cells_at bytes 0 n) l 0 (omega (arith, k))) (take_at (cells_at bytes 0 n) _ n k)
