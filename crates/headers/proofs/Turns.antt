-- One turn more, and none, of the loops over formals, rows, names and the cells of a row.
use Rattle.std.specs.Prelude.{Some, None}
use Prim.Native.Nat.{ℕ, zero, suc, ◌+◌, ◌-◌, ◌≤◌, ◌<◌}
use mathlib.Core.Path.{◌≡◌}
use mathlib.Core.List.{List, []}
use mathlib.Core.Bool.{true, false}
use native.Mathlib.Omega.{arith}
use native.Mathlib.Nat.{zero-add, suc-add}
use lib.ListN.{get_or, set}
use lib.Seq.{sets}
use Rattle.utils.specs.Bytes.{pick, same_bytes}
use Rattle.lexer.specs.Decoded.{name_of}
use Rattle.functions.specs.Columns.{formal_type_at}
use Rattle.headers.specs.Table.{between, formals_fit, row_fits, rows_fit}
use Rattle.headers.specs.Spelled.{row_name, name_spelled}
use Rattle.headers.specs.Brought.{cells_from, Brought, brought_as, brought_from}

pub formals-more : (rows : List ℕ) (i k n : ℕ) → k < n
    → formals_fit rows i k (n - k)
    ≡ pick (between 1 2 (get_or rows (formal_type_at i k) 0)) (formals_fit rows i (k + 1) (n - (k + 1))) false
unfolding formals_fit
formals-more rows i k n h = let m : n - k ≡ suc (n - (k + 1)) = omega arith in rw m

pub formals-none : (rows : List ℕ) (i k n : ℕ) → n ≤ k → formals_fit rows i k (n - k) ≡ true
unfolding formals_fit
formals-none rows i k n h = let m : n - k ≡ 0 = omega arith in rw m

pub rows_more : (old rows : List ℕ) (i n : ℕ) → i < n
    → rows_fit old rows i (n - i) ≡ pick (row_fits old rows i) (rows_fit old rows (i + 1) (n - (i + 1))) false
unfolding rows_fit
rows_more old rows i n h = let m : n - i ≡ suc (n - (i + 1)) = omega arith in rw m

pub rows_none : (old rows : List ℕ) (i n : ℕ) → n ≤ i → rows_fit old rows i (n - i) ≡ true
unfolding rows_fit
rows_none old rows i n h = let m : n - i ≡ 0 = omega arith in rw m

pub names_more : (new names : List ℕ) (x n : ℕ) (name : List ℕ) → x < n
    → name_spelled new names x (n - x) name
    ≡ pick (same_bytes name (name_of new names x)) (Some record { 0 = x })
    (name_spelled new names (x + 1) (n - (x + 1)) name)
unfolding name_spelled
names_more new names x n name h = let m : n - x ≡ suc (n - (x + 1)) = omega arith in rw m

pub names-none : (new names : List ℕ) (x n : ℕ) (name : List ℕ) → n ≤ x
    → name_spelled new names x (n - x) name ≡ None
unfolding name_spelled
names-none new names x n name h = let m : n - x ≡ 0 = omega arith in rw m

-- a cell is stored, and the rest of them behind it
pub cells-more : (cells out : List ℕ) (to from k n : ℕ) → k < n
    → sets out (to + k) (cells_from cells (from + k) (n - k))
    ≡ sets (set out (to + k) (get_or cells (from + k) 0)) (to + (k + 1)) (cells_from cells (from + (k + 1)) (n - (k + 1)))
unfolding cells_from
cells-more cells out to from k n h =
    let m : n - k ≡ suc (n - (k + 1)) = omega arith in
    let t : to + (k + 1) ≡ suc (to + k) = omega arith in
    let f : from + (k + 1) ≡ from + k + 1 = omega arith in
    rw (m, t, f)

pub cells-none : (cells : List ℕ) (at k n : ℕ) → n ≤ k → cells_from cells at (n - k) ≡ []
unfolding cells_from
cells-none cells at k n h = let m : n - k ≡ 0 = omega arith in rw m

pub brought-more : (old rows new names : List ℕ) (known i n : ℕ) (b : Brought) → i < n
    → brought_from old rows new names known i (n - i) b
    ≡ brought_from old rows new names known (i + 1) (n - (i + 1))
    (brought_as b rows i (name_spelled new names 0 known (row_name old rows i)))
unfolding brought_from
brought-more old rows new names known i n b h = let m : n - i ≡ suc (n - (i + 1)) = omega arith in rw m

pub brought-none : (old rows new names : List ℕ) (known i n : ℕ) (b : Brought) → n ≤ i
    → brought_from old rows new names known i (n - i) b ≡ b
unfolding brought_from
brought-none old rows new names known i n b h = let m : n - i ≡ 0 = omega arith in rw m

-- the first a rows, and then b more
pub brought-both : (old rows new names : List ℕ) (known i a b : ℕ) (x : Brought)
    → brought_from old rows new names known i (a + b) x
    ≡ brought_from old rows new names known (i + a) b (brought_from old rows new names known i a x)
unfolding brought_from
brought-both old rows new names known i zero b x =
    let m : i + zero ≡ i = omega arith in
    rw (zero-add, m)
brought-both old rows new names known i (suc a) b x =
    let e : i + suc a ≡ i + 1 + a = omega arith in
    rw (suc-add, e)
    (brought-both old rows new names known (i + 1) a b
    (brought_as x rows i (name_spelled new names 0 known (row_name old rows i))))

pub brought-whole : (old rows new names : List ℕ) (known number count : ℕ) (x y z : Brought) → number ≤ count
    → y ≡ brought_from old rows new names known 0 number x
    → z ≡ brought_from old rows new names known number (count - number) y
    → z ≡ brought_from old rows new names known 0 count x
brought-whole old rows new names known number count x y z h p q =
    let m : count ≡ number + (count - number) = omega arith in
    rw (m, brought-both old rows new names known 0 number (count - number) x, zero-add, ← p) q
