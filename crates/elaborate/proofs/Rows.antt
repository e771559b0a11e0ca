-- A callee's type, from the rows in which the functions are stored, is that of the list that was parsed.
use Rattle.std.specs.Prelude.{Option, Some}
use Prim.Native.Nat.{ℕ, ◌+◌}
use mathlib.Core.Path.{◌≡◌, refl}
use mathlib.Core.Bool.{Bool, true, false}
use mathlib.Core.List.{List, [], ◌∷◌, ◌++◌}
use lib.Dec.{eqb}
use lib.ListN.{length, get_or, drop}
use Rattle.utils.specs.Bytes.{pick}
use Rattle.lexer.specs.Decoded.{Tok}
use Rattle.functions.specs.Functions.{Function}
use Rattle.functions.specs.Columns.{row_at, name_at}
use Rattle.functions.specs.Rows.{row_from}
use Rattle.functions.specs.Answer.{counts, counts_with}
use Rattle.functions.specs.Laid.{rows_cells, FitsFrom}
use Rattle.functions.specs.declared.Counts.{Counts}
use Rattle.functions.proofs.Standing.{row_name_lem, row_type, row_stands, rows_behind}
use Rattle.elaborate.specs.Types.{callee_in, type_cell_of, callee_of}

-- what a test chooses of two rows' type cells
pub type-pick : (rows : List ℕ) (t : Bool) (f g : Option ℕ)
    → type_cell_of rows (pick t f g) ≡ pick t (type_cell_of rows f) (type_cell_of rows g)
unfolding pick
type-pick rows true f g = refl
type-pick rows false f g = refl

module _ (ts : List Tok) (names : List ℕ) (rows rest : List ℕ) (name : ℕ) where
  -- from row n .functions on
  callees_from : (fs : List Function) (n : Counts) → FitsFrom n fs
      → drop (row_at n.functions) rows ≡ rows_cells ts names n fs ++ rest
      → type_cell_of rows (row_from rows n.functions (length fs) name) ≡ callee_in fs name
  unfolding FitsFrom row_from callee_in
  callees_from [] n w h = refl
  callees_from (f ∷ fs) n w h =
      let i = n.functions in
      let s = row_stands ts names rows rest n f fs h in
      rw (
        type-pick rows (eqb (get_or rows (name_at i) 0) name) (Some i) (row_from rows (i + 1) (length fs) name),
        row_name_lem ts names f n.items n.blocks rows i s.0 s.1,
        row_type ts names f n.items n.blocks rows i s.0 s.1,
        callees_from fs (counts_with n f) w.1 (rows_behind ts names rows rest n f fs w.0.formals_few h),
      )

  pub callees_stored : (fs : List Function) → FitsFrom (counts 0 0 0 0 0) fs
      → drop 1 rows ≡ rows_cells ts names (counts 0 0 0 0 0) fs ++ rest
      → callee_of rows (length fs) name ≡ callee_in fs name
  callees_stored fs w h = callees_from fs (counts 0 0 0 0 0) w h
