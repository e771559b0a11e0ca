-- Rows that stand in the header table, one behind the other, are read back cell by cell.
use Prim.Native.Nat.{ℕ, zero, suc, ◌+◌, ◌*◌, ◌-◌, ◌≤◌, ◌<◌}
use mathlib.Core.Path.{◌≡◌, refl, sym, ap, ◌∙◌}
use mathlib.Core.List.{List, [], ◌∷◌, ◌++◌, append_assoc}
use native.Mathlib.Omega.{arith}
use borrow.Author.Tests.{le-leb}
use lib.ListN.{length, get_or, drop, replicate, length-append, length-replicate}
use lib.Seq.{get_or-drop, drop-drop, drop_at}
use Rattle.utils.specs.Bytes.{pick, pad_to}
use Rattle.lexer.specs.Decoded.{Tok}
use Rattle.parser.specs.Runs.{type_cell, variables_cells}
use Rattle.parser.specs.declared.Variable.{Variable}
use Rattle.functions.specs.Known.{formal_types}
use Rattle.functions.specs.Functions.{Function, blocks_in}
use Rattle.functions.specs.Columns.{row_at, name_at, ret_at, type_at, count_at, formals_at}
use Rattle.functions.specs.Rows.{head_cells, row_cells, at_most16, types_at}
use Rattle.functions.specs.Answer.{counts, counts_with}
use Rattle.functions.specs.Laid.{rows_cells, Fits, FitsFrom}
use Rattle.functions.specs.declared.Counts.{Counts}
use Rattle.functions.proofs.Seen.{length_variables}

-- Cells that stand from an index on. --------------------------------------------------------------------------------

pub cell_there : (k j : ℕ) (cells l : List ℕ) → drop k cells ≡ l → get_or cells (k + j) 0 ≡ get_or l j 0
cell_there k j cells l h = sym (get_or-drop k cells j 0) ∙ ap (λ (s : List ℕ). get_or s j 0) h

pub rest_there : (k j : ℕ) (cells l : List ℕ) → drop k cells ≡ l → drop (k + j) cells ≡ drop j l
rest_there k j cells l h = sym (drop-drop j k cells) ∙ ap (drop j) h

-- the types of formals
pub types_back : (vs : List Variable) (cells : List ℕ) (at : ℕ) (rest : List ℕ)
    → drop at cells ≡ variables_cells vs ++ rest → types_at cells at (length vs) ≡ formal_types vs
unfolding types_at variables_cells formal_types
types_back [] cells at rest h = refl
types_back (v ∷ vs) cells at rest h =
    rw (cell_there at 1 cells (variables_cells (v ∷ vs) ++ rest) h)
    (ap (λ (l : List ℕ). type_cell v.ty ∷ l)
    (types_back vs cells (at + 2) rest (rest_there at 2 cells (variables_cells (v ∷ vs) ++ rest) h)))

-- One row. ----------------------------------------------------------------------------------------------------------

module _ (ts : List Tok) (names : List ℕ) (f : Function) (first base : ℕ) (rows : List ℕ) (i : ℕ) (rest : List ℕ)
    (stands : drop (row_at i) rows ≡ row_cells ts names f first base ++ rest) where
  cell_is : (k j : ℕ) → k ≡ row_at i + j → get_or rows k 0 ≡ get_or (row_cells ts names f first base ++ rest) j 0
  cell_is k j e = rw e (cell_there (row_at i) j rows (row_cells ts names f first base ++ rest) stands)

  pub row-token : get_or rows (row_at i) 0 ≡ f.token
  row-token = cell_is (row_at i) 0 (omega arith)

  pub row_name_lem : get_or rows (name_at i) 0 ≡ f.head.name.0
  row_name_lem = cell_is (name_at i) 1 (omega arith)

  pub row-ret : get_or rows (ret_at i) 0 ≡ type_cell f.head.ret
  row-ret = cell_is (ret_at i) 6 (omega arith)

  pub row_type : get_or rows (type_at i) 0 ≡ f.head.type
  row_type = cell_is (type_at i) 7 (omega arith)

  pub row_first : get_or rows (9 + i * 45) 0 ≡ first
  row_first = cell_is (9 + i * 45) 8 (omega arith)

  pub row-items : get_or rows (10 + i * 45) 0 ≡ length f.items
  row-items = cell_is (10 + i * 45) 9 (omega arith)

  pub row_base : get_or rows (11 + i * 45) 0 ≡ base
  row_base = cell_is (11 + i * 45) 10 (omega arith)

  pub row-blocks : get_or rows (12 + i * 45) 0 ≡ length (blocks_in f.items)
  row-blocks = cell_is (12 + i * 45) 11 (omega arith)

  pub row_count : get_or rows (count_at i) 0 ≡ length f.head.formals
  row_count = cell_is (count_at i) 12 (omega arith)

  pub row-formals : drop (formals_at i) rows ≡ variables_cells f.head.formals ++ rest
  row-formals =
      let e : formals_at i ≡ row_at i + 13 = omega arith in
      rw e (rest_there (row_at i) 13 rows (row_cells ts names f first base ++ rest) stands)

  module _ (few : length f.head.formals ≤ 16) where
    pub row_at_most : at_most16 (get_or rows (count_at i) 0) ≡ length f.head.formals
    unfolding pick
    row_at_most = rw (row_count, le-leb (length f.head.formals) 16 few)

    pub row-types : types_at rows (formals_at i) (at_most16 (get_or rows (count_at i) 0)) ≡ formal_types f.head.formals
    row-types = rw row_at_most (types_back f.head.formals rows (formals_at i) rest row-formals)

-- All rows. ---------------------------------------------------------------------------------------------------------

length_padTo : (n : ℕ) (l : List ℕ) → length l ≤ n → length (pad_to n l) ≡ n
length_padTo n l h =
    let e = length-append l (replicate (n - length l) 0) in
    let g = length-replicate {A = ℕ} (n - length l) 0 in
    omega (arith, e, g)

row-long : (ts : List Tok) (names : List ℕ) (f : Function) (first base : ℕ) → length f.head.formals ≤ 16
    → length (row_cells ts names f first base) ≤ 45
row-long ts names f first base h =
    let e = length-append (head_cells ts names f first base) (variables_cells f.head.formals) in
    omega (arith, e, length_variables f.head.formals)

-- row i: the function that stands there, behind those that are counted
pub record Row (ts : List Tok) (names rows : List ℕ) (i : ℕ) : Type 0 where
  pub before : Counts
  pub function : Function
  pub behind : List ℕ
  pub fits : Fits before function
  pub stands : drop (row_at i) rows ≡ row_cells ts names function before.items before.blocks ++ behind

module _ (ts : List Tok) (names : List ℕ) (rows rest : List ℕ) where
  -- a row and those behind it
  pub row_stands : (n : Counts) (f : Function) (fs : List Function)
      → drop (row_at n.functions) rows ≡ rows_cells ts names n (f ∷ fs) ++ rest
      → (r : List ℕ) × (drop (row_at n.functions) rows ≡ row_cells ts names f n.items n.blocks ++ r)
  unfolding rows_cells
  row_stands n f fs h =
      let row = row_cells ts names f n.items n.blocks in
      let zeros : List ℕ = replicate (45 - length row) 0 in
      let more = rows_cells ts names (counts_with n f) fs in
      (zeros ++ (more ++ rest), h ∙ append_assoc (row ++ zeros) more rest ∙ append_assoc row zeros (more ++ rest))

  pub rows_behind : (n : Counts) (f : Function) (fs : List Function) → length f.head.formals ≤ 16
      → drop (row_at n.functions) rows ≡ rows_cells ts names n (f ∷ fs) ++ rest
      → drop (row_at (n.functions + 1)) rows ≡ rows_cells ts names (counts_with n f) fs ++ rest
  unfolding rows_cells
  rows_behind n f fs few h =
      let row = row_cells ts names f n.items n.blocks in
      let more = rows_cells ts names (counts_with n f) fs in
      let e : row_at (n.functions + 1) ≡ row_at n.functions + 45 = omega arith in
      rw e (
      rest_there (row_at n.functions) 45 rows (rows_cells ts names n (f ∷ fs) ++ rest) h
      ∙ ap (drop 45) (append_assoc (pad_to 45 row) more rest)
      ∙ drop_at (pad_to 45 row) (more ++ rest) 45 (length_padTo 45 row (row-long ts names f n.items n.blocks few))
      )

  -- row i is that of a function that fits
  pub each_row : (fs : List Function) (n : Counts) → FitsFrom n fs
      → drop (row_at n.functions) rows ≡ rows_cells ts names n fs ++ rest
      → (k i : ℕ) → k < length fs → i ≡ n.functions + k → Row ts names rows i
  unfolding FitsFrom
  each_row [] n w h k i g e = absurd (omega arith)
  each_row (f ∷ fs) n w h zero i g e =
      let s = row_stands n f fs h in
      let at : i ≡ n.functions = omega arith in
      record { before = n; function = f; behind = s.0; fits = w.0; stands = rw at s.1 }
  each_row (f ∷ fs) n w h (suc k) i g e =
      each_row fs (counts_with n f) w.1 (rows_behind n f fs w.0.formals_few h) k i (omega arith) (omega arith)

  module _ (fs : List Function) (fit : FitsFrom (counts 0 0 0 0 0) fs)
      (stand : drop 1 rows ≡ rows_cells ts names (counts 0 0 0 0 0) fs ++ rest) (i : ℕ) (there : i < length fs) where
    row : Row ts names rows i
    row = each_row fs (counts 0 0 0 0 0) fit stand i i there (omega arith)

    pub types-stored : get_or rows (type_at i) 0 ≤ 64
    types-stored =
        let n = row.before in
        rw (row_type ts names row.function n.items n.blocks rows i row.behind row.stands)
        row.fits.type_few

    pub items-stored : get_or rows (9 + i * 45) 0 + get_or rows (10 + i * 45) 0 ≤ 3072
    items-stored =
        let n = row.before in
        rw (
          row_first ts names row.function n.items n.blocks rows i row.behind row.stands,
          row-items ts names row.function n.items n.blocks rows i row.behind row.stands,
        )
        row.fits.items_few
