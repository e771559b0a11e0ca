-- What is looked up by its number among the rows that were brought is what its spelling finds in the old table: a row
-- is brought with the one number that is spelled as its name, and its other cells as they were.
use Rattle.std.specs.Prelude.{Option, Some, None}
use Prim.Native.Nat.{ℕ, zero, suc, ◌+◌, ◌-◌, ◌*◌, ◌≤◌, ◌<◌}
use mathlib.Core.Path.{◌≡◌, refl, sym, ap, subst, ◌∙◌}
use mathlib.Core.List.{List}
use mathlib.Core.Bool.{Bool, true, false}
use native.Mathlib.Omega.{arith}
use native.Mathlib.Nat.{zero-add}
use borrow.Author.Tests.{le-leb, leb-true}
use lib.Dec.{leb, eqb}
use lib.ListN.{length, get_or, length-set}
use lib.Seq.{slice, sets, length-sets, length-slice, get_or-set_same, get_or-set_other}
use Rattle.utils.specs.Bytes.{pick, same_bytes}
use Rattle.pieces.proofs.Progress.{pick_either}
use Rattle.pieces.specs.declared.Identifier.{Identifier}
use Rattle.lexer.specs.Decoded.{name_of}
use Rattle.functions.specs.Columns.{row_at, name_at, ret_at, count_at, formals_at, place_at, length_at}
use Rattle.functions.specs.Rows.{at_most16, types_at, row_from}
use Rattle.functions.proofs.Stores.{get_or-sets-below}
use Rattle.functions.proofs.Seen.{get_or-sets-at}
use Rattle.sema.specs.Globals.{global_of, globals_in}
use Rattle.elaborate.specs.Types.{type_cell_of, callee_of}
use Rattle.headers.specs.Ranges.{RowInRange}
use Rattle.headers.specs.Spelled.{row_name, name_spelled, row_spelled, callee_row, globals_spelled, callees_spelled}
use Rattle.headers.specs.Spelled.{Named}
use Rattle.headers.specs.Brought.{cells_from, row_put, Brought, brought, brought_as, brought_from, headers_brought}
use Rattle.headers.specs.Brought.{Brings}
use Rattle.headers.specs.declared.Placed.{Placed}
use Rattle.headers.proofs.Ranges.{Tabled}
use Rattle.headers.proofs.Turns.{brought-both, brought-more}
use Rattle.headers.proofs.Named.{Decides, found_decides}

-- A row's cells. -----------------------------------------------------------------------------------------------------

pub length-cells : (n : ℕ) (cells : List ℕ) (at : ℕ) → length (cells_from cells at n) ≡ n
unfolding cells_from
length-cells zero cells at = refl
length-cells (suc n) cells at = ap suc (length-cells n cells (at + 1))

pub cells_at_lem : (n : ℕ) (cells : List ℕ) (at k : ℕ) → k < n → get_or (cells_from cells at n) k 0 ≡ get_or cells (at + k) 0
unfolding cells_from
cells_at_lem zero cells at k h = absurd (omega arith)
cells_at_lem (suc n) cells at zero h =
    let e : at + zero ≡ at = omega arith in
    rw e
cells_at_lem (suc n) cells at (suc k) h =
    let e : at + suc k ≡ at + 1 + k = omega arith in
    rw e (cells_at_lem n cells (at + 1) k (omega arith))

module _ (out rows : List ℕ) (n i x : ℕ) where
  length_put : length (row_put out n rows i x) ≡ length out
  unfolding row_put
  length_put =
      length-set (sets out (row_at n) (cells_from rows (row_at i) 45)) (name_at n) x
      ∙ length-sets out (row_at n) (cells_from rows (row_at i) 45)

  -- the rows before it
  pub put_below : (j : ℕ) → j < row_at n → get_or (row_put out n rows i x) j 0 ≡ get_or out j 0
  unfolding row_put
  put_below j h =
      let stored = sets out (row_at n) (cells_from rows (row_at i) 45) in
      get_or-set_other stored (name_at n) j x 0 (λ e. omega (arith, e))
      ∙ get_or-sets-below (cells_from rows (row_at i) 45) out (row_at n) j h

  module _ (room : row_at (n + 1) ≤ length out) where
    put_name : get_or (row_put out n rows i x) (name_at n) 0 ≡ x
    unfolding row_put
    put_name =
        let stored = sets out (row_at n) (cells_from rows (row_at i) 45) in
        get_or-set_same stored (name_at n) x 0 (omega (arith, length-sets out (row_at n) (cells_from rows (row_at i) 45)))

    -- every other cell of it
    pub put_cell : (k : ℕ) → k < 45 → (k ≡ 1 → ⊥) → get_or (row_put out n rows i x) (row_at n + k) 0 ≡ get_or rows
        (row_at i + k) 0
    unfolding row_put
    put_cell k h other =
        let cells = cells_from rows (row_at i) 45 in
        let l : length cells ≡ 45 = length-cells 45 rows (row_at i) in
        get_or-set_other (sets out (row_at n) cells) (name_at n) (row_at n + k) x 0 (λ e. other (omega (arith, e)))
        ∙ get_or-sets-at cells out (row_at n) k (omega arith) (omega arith)
        ∙ cells_at_lem 45 rows (row_at i) k h

-- Rows that are the same but for their names, and what is read of them. ----------------------------------------------

module _ (cells rows : List ℕ) where
  abbrev pub RowSame : ℕ → ℕ → Type 0
  RowSame k i = (j : ℕ) → j < 45 → (j ≡ 1 → ⊥) → get_or cells (row_at k + j) 0 ≡ get_or rows (row_at i + j) 0

  abbrev pub Same : Option ℕ → Option ℕ → Type 0
  Same (Some k) (Some i) = RowSame k i
  Same (Some k) None = ⊥
  Same None (Some i) = ⊥
  Same None None = Unit

  same-pick : (t : Bool) (f g f' g' : Option ℕ) → Same f f' → Same g g' → Same (pick t f g) (pick t f' g')
  unfolding pick
  same-pick true f g f' g' p q = p
  same-pick false f g f' g' p q = q

  pub types_same : (n k i j : ℕ) → RowSame k i → 2 ≤ j → j + n * 2 ≤ 45
      → types_at cells (row_at k + j) n ≡ types_at rows (row_at i + j) n
  unfolding types_at
  types_same zero k i j s l m = refl
  types_same (suc n) k i j s l m =
      let a : row_at k + j + 1 ≡ row_at k + (j + 1) = omega arith in
      let b : row_at i + j + 1 ≡ row_at i + (j + 1) = omega arith in
      let d : row_at k + j + 2 ≡ row_at k + (j + 2) = omega arith in
      let e : row_at i + j + 2 ≡ row_at i + (j + 2) = omega arith in
      rw (
        a,
        b,
        d,
        e,
        s (j + 1) (omega arith) (λ q. omega (arith, q)),
        types_same n k i (j + 2) s (omega arith)
            (omega arith),
      )

  pub at_most : (n : ℕ) → at_most16 n ≤ 16
  at_most n = pick_either (λ (m : ℕ). m ≤ 16) (leb n 16) n 16 (leb-true n 16) (λ e. omega arith)

  pub cell_same : (k i j : ℕ) → RowSame k i → j < 45 → (j ≡ 1 → ⊥)
      → get_or cells (1 + j + k * 45) 0 ≡ get_or rows (1 + j + i * 45) 0
  cell_same k i j s l other =
      let a : 1 + j + k * 45 ≡ row_at k + j = omega arith in
      let b : 1 + j + i * 45 ≡ row_at i + j = omega arith in
      rw (a, b) (s j l other)

  pub global-same : (f g : Option ℕ) → Same f g → global_of cells f ≡ global_of rows g
  global-same (Some k) (Some i) s =
      let ret : get_or cells (ret_at k) 0 ≡ get_or rows (ret_at i) 0 =
      cell_same k i 6 s (omega arith) (λ q. omega (arith, q)) in
      let count : get_or cells (count_at k) 0 ≡ get_or rows (count_at i) 0 =
      cell_same k i 12 s (omega arith) (λ q. omega (arith, q)) in
      let n : ℕ = at_most16 (get_or rows (count_at i) 0) in
      let few : n ≤ 16 = at_most (get_or rows (count_at i) 0) in
      let a : formals_at k ≡ row_at k + 13 = omega arith in
      let b : formals_at i ≡ row_at i + 13 = omega arith in
      rw (ret, count, a, b, types_same n k i 13 s (omega arith) (omega arith))
  global-same (Some k) None s = absurd s
  global-same None (Some i) s = absurd s
  global-same None None s = refl

  type-same : (f g : Option ℕ) → Same f g → type_cell_of cells f ≡ type_cell_of rows g
  type-same (Some k) (Some i) s = ap (λ (t : ℕ). t + 4) (cell_same k i 7 s (omega arith) (λ q. omega (arith, q)))
  type-same (Some k) None s = absurd s
  type-same None (Some i) s = absurd s
  type-same None None s = refl

-- What stays of a table while more rows are brought. -----------------------------------------------------------------

pub step_grows : (b : Brought) (rows : List ℕ) (i : ℕ) (f : Option Identifier)
    → (b.count ≤ (brought_as b rows i f).count) × ((brought_as b rows i f).count ≤ b.count + 1)
step_grows b rows i (Some y) = (omega arith, omega arith)
step_grows b rows i None = (omega arith, omega arith)

pub step_length : (b : Brought) (rows : List ℕ) (i : ℕ) (f : Option Identifier)
    → length (brought_as b rows i f).cells ≡ length b.cells
step_length b rows i (Some y) = length_put b.cells rows b.count i y.0
step_length b rows i None = refl

step_kept : (b : Brought) (rows : List ℕ) (i : ℕ) (f : Option Identifier) (j : ℕ) → j < row_at b.count
    → get_or (brought_as b rows i f).cells j 0 ≡ get_or b.cells j 0
step_kept b rows i (Some y) j h = put_below b.cells rows b.count i y.0 j h
step_kept b rows i None j h = refl

module _ (old rows new names : List ℕ) (known : ℕ) where
  -- row i, brought if its name is found
  abbrev one : ℕ → Brought → Brought
  one i b = brought_as b rows i (name_spelled new names 0 known (row_name old rows i))

  pub grows : (n i : ℕ) (b : Brought)
      → (b.count ≤ (brought_from old rows new names known i n b).count)
      × ((brought_from old rows new names known i n b).count ≤ b.count + n)
  unfolding brought_from
  grows zero i b = (omega arith, omega arith)
  grows (suc n) i b =
      let s = step_grows b rows i (name_spelled new names 0 known (row_name old rows i)) in
      let g = grows n (i + 1) (one i b) in
      (omega arith, omega arith)

  pub length-brought : (n i : ℕ) (b : Brought)
      → length (brought_from old rows new names known i n b).cells ≡ length b.cells
  unfolding brought_from
  length-brought zero i b = refl
  length-brought (suc n) i b =
      length-brought n (i + 1) (one i b) ∙ step_length b rows i (name_spelled new names 0 known (row_name old rows i))

  kept : (n i : ℕ) (b : Brought) (j : ℕ) → j < row_at b.count
      → get_or (brought_from old rows new names known i n b).cells j 0 ≡ get_or b.cells j 0
  unfolding brought_from
  kept zero i b j h = refl
  kept (suc n) i b j h =
      let f = name_spelled new names 0 known (row_name old rows i) in
      let s = (step_grows b rows i f).0 in
      kept n (i + 1) (one i b) j (omega arith) ∙ step_kept b rows i f j h

-- One row more. ------------------------------------------------------------------------------------------------------

module _ (old rows new names : List ℕ) (x i n : ℕ) (b e : Brought) where
  turn_at : (y : ℕ) → ((z : ℕ) → same_bytes (row_name old rows i) (name_of new names z) ≡ eqb y z)
      → row_at (b.count + 1) ≤ length b.cells → b.count + 1 ≤ e.count
      → ((j : ℕ) → j < row_at (b.count + 1) → get_or e.cells j 0 ≡ get_or (row_put b.cells b.count rows i y) j 0)
      → Same e.cells rows (row_from e.cells (b.count + 1) (e.count - (b.count + 1)) x)
      (row_spelled old rows (i + 1) n (name_of new names x))
      → Same e.cells rows (row_from e.cells b.count (e.count - b.count) x)
      (row_spelled old rows i (suc n) (name_of new names x))
  unfolding row_from row_spelled
  turn_at y d room g k s =
      let m : e.count - b.count ≡ suc (e.count - (b.count + 1)) = omega arith in
      let name : get_or e.cells (name_at b.count) 0 ≡ y =
      k (name_at b.count) (omega arith) ∙ put_name b.cells rows b.count i y room in
      rw (m, name, d x)
      (same-pick e.cells rows (eqb y x) (Some b.count)
      (row_from e.cells (b.count + 1) (e.count - (b.count + 1)) x) (Some i)
      (row_spelled old rows (i + 1) n (name_of new names x))
      (λ j l o. k (row_at b.count + j) (omega arith) ∙ put_cell b.cells rows b.count i y room j l o) s)

  turn_none : ((z : ℕ) → same_bytes (row_name old rows i) (name_of new names z) ≡ false)
      → Same e.cells rows (row_from e.cells b.count (e.count - b.count) x)
      (row_spelled old rows (i + 1) n (name_of new names x))
      → Same e.cells rows (row_from e.cells b.count (e.count - b.count) x)
      (row_spelled old rows i (suc n) (name_of new names x))
  unfolding row_spelled pick
  turn_none d s = rw (d x) s

  turn : (f : Option Identifier) → Decides new names (row_name old rows i) f → row_at (b.count + 1) ≤ length b.cells
      → (brought_as b rows i f).count ≤ e.count
      → ((j : ℕ) → j < row_at (brought_as b rows i f).count
      → get_or e.cells j 0 ≡ get_or (brought_as b rows i f).cells j 0)
      → Same e.cells rows
      (row_from e.cells (brought_as b rows i f).count (e.count - (brought_as b rows i f).count) x)
      (row_spelled old rows (i + 1) n (name_of new names x))
      → Same e.cells rows (row_from e.cells b.count (e.count - b.count) x)
      (row_spelled old rows i (suc n) (name_of new names x))
  turn (Some y) d room g k s = turn_at y.0 d room g k s
  turn None d room g k s = turn_none d s

none-same : (cells rows : List ℕ) (k x : ℕ) (old : List ℕ) (i : ℕ) (name : List ℕ)
    → Same cells rows (row_from cells k (k - k) x) (row_spelled old rows i 0 name)
unfolding row_from row_spelled
none-same cells rows k x old i name =
    let m : k - k ≡ 0 = omega arith in
    rw m tt

-- All rows. ----------------------------------------------------------------------------------------------------------

module _ (old rows new names : List ℕ) (known : ℕ) (v : Named new names known) (x : ℕ) where
  brought-same : (n i : ℕ) (b : Brought) → row_at (b.count + n) ≤ length b.cells
      → ((j : ℕ) → i ≤ j → j < i + n → 1 ≤ length (row_name old rows j))
      → Same (brought_from old rows new names known i n b).cells rows
      (row_from (brought_from old rows new names known i n b).cells b.count
      ((brought_from old rows new names known i n b).count - b.count) x)
      (row_spelled old rows i n (name_of new names x))
  unfolding brought_from
  brought-same zero i b room some = none-same b.cells rows b.count x old i (name_of new names x)
  brought-same (suc n) i b room some =
      let f = name_spelled new names 0 known (row_name old rows i) in
      let b' = one old rows new names known i b in
      let s = step_grows b rows i f in
      let l = step_length b rows i f in
      turn old rows new names x i n b (brought_from old rows new names known (i + 1) n b') f
      (found_decides new names known v (row_name old rows i) (some i (omega arith) (omega arith)))
      (omega arith)
      (grows old rows new names known n (i + 1) b').0
      (kept old rows new names known n (i + 1) b')
      (brought-same n (i + 1) b' (omega arith) (λ j p q. some j (omega arith) (omega arith)))

-- the name of a row in range is a part of the old text, of 2 bytes at least
pub row_name-part : (old rows : List ℕ) (i : ℕ) → RowInRange old rows i
    → row_name old rows i ≡ slice (get_or rows (place_at i) 0) (get_or rows (place_at i) 0 + get_or rows (length_at i) 0) old
unfolding row_name pick
row_name-part old rows i r = rw (le-leb _ _ r.name)

pub row_named : (old rows : List ℕ) (i : ℕ) → RowInRange old rows i → 1 ≤ length (row_name old rows i)
row_named old rows i r =
    let place = get_or rows (place_at i) 0 in
    let len = get_or rows (length_at i) 0 in
    let l : length (slice place (place + len) old) ≡ place + len - place =
    length-slice place (place + len) old r.name in
    rw (row_name-part old rows i r) (omega (arith, r.name_length.0))

module _ (old rows new names : List ℕ) (known number : ℕ) (out₀ : List ℕ) (r : Placed) (out : List ℕ)
    (t : Tabled old rows number) (v : Named new names known) (room : 2881 ≤ length out₀)
    (b : Brings old rows new names known number out₀ r out) (x : ℕ)
  where
    headers-same :
        Same (headers_brought old rows new names known out₀).cells rows
        (row_from (headers_brought old rows new names known out₀).cells 0
        (headers_brought old rows new names known out₀).count x)
        (callee_row old rows new names x)
    headers-same =
        let few = t.in_range.count in
        let m : (headers_brought old rows new names known out₀).count - 0
        ≡ (headers_brought old rows new names known out₀).count = omega arith in
        rw m at (brought-same old rows new names known v x (get_or rows 0 0) 0 (brought out₀ 0) (omega arith)
        (λ j p q. row_named old rows j (t.in_range.each j (omega arith))))

    found-same : Same out rows (row_from out 0 r.count x) (callee_row old rows new names x)
    found-same =
        subst
        (λ (h : Brought). Same h.cells rows (row_from h.cells 0 h.count x) (callee_row old rows new names x))
        (sym b.table) headers-same

    -- THE LAWS. Among the rows that were brought, a name's number finds the function type that its spelling finds in
    -- the old table ..
    pub globals_brought : globals_in out r.count x ≡ globals_spelled old rows new names x
    globals_brought =
        global-same out rows (row_from out 0 r.count x) (callee_row old rows new names x) found-same

    -- .. and that type's cell.
    pub callees_brought : callee_of out r.count x ≡ callees_spelled old rows new names x
    callees_brought =
        type-same out rows (row_from out 0 r.count x) (callee_row old rows new names x) found-same

-- Where the row of the given number stands. --------------------------------------------------------------------------

pub record Stands (rows : List ℕ) (number y : ℕ) (r : Placed) (out : List ℕ) : Type 0 where
  pub below : r.place < r.count
  pub name : get_or out (name_at r.place) 0 ≡ y
  pub cells : RowSame out rows r.place number

module _ (old rows new names : List ℕ) (known number : ℕ) (out₀ : List ℕ) (y : Identifier)
    (t : Tabled old rows number) (found : name_spelled new names 0 known (row_name old rows number) ≡ Some y)
  where
    -- the rows before it
    abbrev before : Brought
    before = brought_from old rows new names known 0 number (brought out₀ 0)

    -- with it
    abbrev with_it : Brought
    with_it = brought (row_put before.cells before.count rows number y.0) (before.count + 1)

    -- and with those behind it
    abbrev all : Brought
    all = brought_from old rows new names known (number + 1) (get_or rows 0 0 - (number + 1)) with_it

    all-brought : headers_brought old rows new names known out₀ ≡ all
    all-brought =
        let there = t.there in
        let m : get_or rows 0 0 ≡ number + (get_or rows 0 0 - number) = omega arith in
        ap (λ (n : ℕ). brought_from old rows new names known 0 n (brought out₀ 0)) m
        ∙ brought-both old rows new names known 0 number (get_or rows 0 0 - number) (brought out₀ 0)
        ∙ ap (λ (i : ℕ). brought_from old rows new names known i (get_or rows 0 0 - number) before) (zero-add number)
        ∙ brought-more old rows new names known number (get_or rows 0 0) before (omega arith)
        ∙ rw found

    -- If the new text has its name, the row stands at its place, with the name's number.
    pub place-brought : (r : Placed) (out : List ℕ) → 2881 ≤ length out₀
        → Brings old rows new names known number out₀ r out → Stands rows number y.0 r out
    place-brought r out room b =
        let few = t.in_range.count in
        let there = t.there in
        let s : brought out r.count ≡ all = b.table ∙ all-brought in
        let cells : out ≡ all.cells = ap (λ (h : Brought). h.cells) s in
        let count : r.count ≡ all.count = ap (λ (h : Brought). h.count) s in
        let place : r.place ≡ before.count = b.place in
        let up = grows old rows new names known number 0 (brought out₀ 0) in
        let l : length before.cells ≡ length out₀ = length-brought old rows new names known number 0
        (brought out₀ 0) in
        let fits : row_at (before.count + 1) ≤ length before.cells = omega arith in
        let more = grows old rows new names known (get_or rows 0 0 - (number + 1)) (number + 1) with_it in
        let keeps = kept old rows new names known (get_or rows 0 0 - (number + 1)) (number + 1) with_it in
        record {
          below = omega arith;
          name =
              rw (place, cells)
              (keeps (name_at before.count) (omega arith)
              ∙ put_name before.cells rows before.count number y.0 fits);
          cells = λ j h other.
              rw (place, cells)
              (keeps (row_at before.count + j) (omega arith)
              ∙ put_cell before.cells rows before.count number y.0 fits j h other);
        }
