-- The functions by name, from the rows in which they are stored, are those of the list that was parsed.
use Rattle.std.specs.Prelude.{Option, Some}
use Prim.Native.Nat.{ℕ, ◌+◌}
use mathlib.Core.Path.{◌≡◌, refl}
use mathlib.Core.Bool.{Bool, true, false}
use mathlib.Core.List.{List, [], ◌∷◌, ◌++◌}
use lib.Dec.{eqb}
use lib.ListN.{length, drop}
use Rattle.utils.specs.Bytes.{pick}
use Rattle.lexer.specs.Decoded.{Tok}
use Rattle.parser.specs.Runs.{type_cell}
use Rattle.functions.specs.Known.{formal_types}
use Rattle.functions.specs.Functions.{Function}
use Rattle.functions.specs.Columns.{row_at}
use Rattle.functions.specs.Answer.{counts, counts_with}
use Rattle.functions.specs.Laid.{rows_cells, FitsFrom}
use Rattle.functions.specs.declared.Counts.{Counts}
use Rattle.functions.proofs.Standing.{row_name_lem, row-ret, row-types, row_stands, rows_behind}
use Rattle.sema.specs.Typing.{Global, global}
use Rattle.functions.specs.Rows.{row_from}
use Rattle.sema.specs.Globals.{row_global, global_of, globals_in}
use Rattle.sema.specs.Program.{globals_of}

pick-global : (t : Bool) (rows : List ℕ) (i : ℕ) (more : Option ℕ) (g others : Global) → row_global rows i ≡ g
    → global_of rows more ≡ others → global_of rows (pick t (Some i) more) ≡ pick t g others
unfolding pick
pick-global true rows i more g others e h = e
pick-global false rows i more g others e h = h

module _ (ts : List Tok) (names : List ℕ) (rows rest : List ℕ) (name : ℕ) where
  -- from row n .functions on
  globals_from : (fs : List Function) (n : Counts) → FitsFrom n fs
      → drop (row_at n.functions) rows ≡ rows_cells ts names n fs ++ rest
      → global_of rows (row_from rows n.functions (length fs) name) ≡ globals_of fs name
  unfolding FitsFrom row_from globals_of
  globals_from [] n w h = refl
  globals_from (f ∷ fs) n w h =
      let i = n.functions in
      let s = row_stands ts names rows rest n f fs h in
      let few = w.0.formals_few in
      let type : row_global rows i ≡ global (type_cell f.head.ret) (formal_types f.head.formals) =
      rw (
        row-ret ts names f n.items n.blocks rows i s.0 s.1,
        row-types ts names f n.items n.blocks rows i s.0 s.1 few,
      ) in
      rw (row_name_lem ts names f n.items n.blocks rows i s.0 s.1)
      (pick-global (eqb f.head.name.0 name) rows i (row_from rows (i + 1) (length fs) name)
      (global (type_cell f.head.ret) (formal_types f.head.formals)) (globals_of fs name) type
      (globals_from fs (counts_with n f) w.1 (rows_behind ts names rows rest n f fs few h)))

  pub globals_stored : (fs : List Function) → FitsFrom (counts 0 0 0 0 0) fs
      → drop 1 rows ≡ rows_cells ts names (counts 0 0 0 0 0) fs ++ rest
      → globals_in rows (length fs) name ≡ globals_of fs name
  globals_stored fs w h = globals_from fs (counts 0 0 0 0 0) w h
