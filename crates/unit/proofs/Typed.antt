-- Typing on the cells in which functions stand is typing the functions, and the cells that it leaves are theirs with
-- the types of operands.
use Rattle.std.specs.Prelude.{Err, Ok, Result}
use Rattle.parser.specs.declared.Refusal.{Refusal}
use Prim.Native.Nat.{ℕ, suc, ◌+◌, ◌*◌}
use mathlib.Core.Path.{◌≡◌, refl, sym, ap, fun_ext, ◌∙◌}
use mathlib.Core.List.{List, [], ◌∷◌, ◌++◌, append_assoc}
use native.Mathlib.Omega.{arith}
use lib.ListN.{length, drop, length-append}
use lib.Seq.{drop_at, drop-drop}
use Rattle.utils.specs.Bytes.{pad_to}
use Rattle.lexer.specs.Decoded.{Tok}
use Rattle.body.specs.Body.{Item}
use Rattle.parser.specs.Runs.{type_cell}
use Rattle.body.specs.Records.{items_cells, arguments_cells}
use Rattle.link.specs.Cells.{block_cells}
use Rattle.functions.specs.Functions.{Function, blocks_in}
use Rattle.functions.specs.Columns.{row_at}
use Rattle.functions.specs.Rows.{row_cells}
use Rattle.functions.specs.Answer.{edges_in, counts_with, counts_from}
use Rattle.functions.specs.Laid.{rows_cells, untyped_items, untyped_arguments, all_blocks, Fits, FitsFrom}
use Rattle.functions.specs.declared.Counts.{Counts}
use Rattle.functions.proofs.Laid.{length-all_blocks}
use Rattle.functions.proofs.Standing.{row_first, row-items, row_stands, rows_behind}
use Rattle.sema.specs.Symbols.{Typed, then_end, then_typed}
use Rattle.sema.specs.Globals.{globals_in}
use Rattle.sema.specs.Blocks.{type_function_d, type_row_d}
use Rattle.sema.specs.Program.{globals_of, ordered_blocks, type_program_d as typed_d}
use Rattle.sema.proofs.Stored.{row_typed}
use Rattle.elaborate.specs.Types.{callee_in, callee_of, typed_items, typed_calls, typed_items_cells, typed_arguments_cells}
use Rattle.elaborate.proofs.Lists.{items-typed, calls_typed, length-typed_items, length-typed_arguments}
use Rattle.unit.specs.Outcome.{untyped, tables_of, all_items, all_arguments}
use Rattle.unit.specs.Rows.{Done, done, then_row, typed_rows}

abbrev cells_of : Counts → Function → List ℕ
cells_of n f =
    block_cells n.items n.predecessors 0 (edges_in f.items) (edges_in f.items) (blocks_in f.items)

blocks_long : (n : Counts) (f : Function) → length (cells_of n f) ≡ length (blocks_in f.items) * 8
unfolding all_blocks counts_from
blocks_long n f = omega (arith, length-all_blocks n (f ∷ []), length-append (cells_of n f) [])

module _ (ts : List Tok) (names rows : List ℕ) (all : List Function) (total : ℕ) (blocks t₀ : List ℕ)
    (globals_are : (name : ℕ) → globals_in rows total name ≡ globals_of all name)
    (callees_are : (name : ℕ) → callee_of rows total name ≡ callee_in all name) (blank : length t₀ ≡ 1024) where
  -- a function's typing
  abbrev one : Function → Typed
  one f =
      type_function_d ts (globals_of all) (type_cell f.head.ret) f.token f.head.formals
      (ordered_blocks f.items)
      untyped

  -- What the loop over these functions leaves, behind what stands before them: pi, pa; zi, za follow.
  pub record Same (gs : List Function) (n : Counts) (pi pa zi za : List ℕ) (d : Done) : Type 0 where
    pub ends : d.end ≡ (typed_d ts all gs untyped).end
    pub items_are : d.end ≡ Ok tt → d.items ≡ pi ++ (all_items (callee_in all) n gs (tables_of ts all gs) ++ zi)
    pub arguments_are : d.end ≡ Ok tt → d.arguments ≡ pa ++ (all_arguments gs (tables_of ts all gs) ++ za)

  -- one function
  module _ (n : Counts) (f : Function) (gs : List Function) (fits : Fits n f) (pi pa zi za zr zb : List ℕ)
      (rows-stand : drop (row_at n.functions) rows ≡ rows_cells ts names n (f ∷ gs) ++ zr)
      (blocks-stand : drop (n.blocks * 8) blocks ≡ all_blocks n (f ∷ gs) ++ zb)
      (items_long : length pi ≡ n.items * 8) (arguments_long : length pa ≡ n.arguments * 2) where
    abbrev is : List Item
    is = f.items

    abbrev mi : List ℕ
    mi = untyped_items (counts_with n f) gs ++ zi

    abbrev ma : List ℕ
    ma = untyped_arguments gs ++ za

    abbrev items : List ℕ
    items = pi ++ (items_cells n.arguments is ++ mi)

    abbrev args : List ℕ
    args = pa ++ (arguments_cells is ++ ma)

    abbrev next : Counts
    next = counts_with n f

    row : (r : List ℕ) × (drop (row_at n.functions) rows ≡ row_cells ts names f n.items n.blocks ++ r)
    row = row_stands ts names rows zr n f gs rows-stand

    abbrev bc : List ℕ
    bc = cells_of n f

    here : drop (n.blocks * 8) blocks ≡ bc ++ (all_blocks next gs ++ zb)
    unfolding all_blocks
    here = blocks-stand ∙ append_assoc (cells_of n f) (all_blocks (counts_with n f) gs) zb

    pub blocks-behind : drop (next.blocks * 8) blocks ≡ all_blocks next gs ++ zb
    blocks-behind =
        let m : (n.blocks + length (blocks_in f.items)) * 8 ≡ n.blocks * 8 + length (blocks_in f.items) * 8 =
        omega arith in
        rw m
        (sym (drop-drop (length (blocks_in f.items) * 8) (n.blocks * 8) blocks)
        ∙ ap (drop (length (blocks_in f.items) * 8)) here
        ∙ drop_at bc (all_blocks (counts_with n f) gs ++ zb) (length (blocks_in f.items) * 8) (blocks_long n f))

    typed : type_row_d ts rows total items args blocks n.functions t₀ ≡ one f
    typed =
        row_typed ts names n f rows items args blocks total (globals_of all) t₀ row.0 mi ma (all_blocks next gs ++ zb)
        globals_are row.1 (drop_at pi _ (n.items * 8) items_long) (drop_at pa _ (n.arguments * 2) arguments_long)
        here fits
        ∙ ap (λ (k : ℕ). type_function_d ts (globals_of all) (type_cell f.head.ret) f.token f.head.formals
        (ordered_blocks f.items) (pad_to k [])) blank

    -- the prefixes with this function
    abbrev pub pi' : List ℕ
    pi' = pi ++ typed_items_cells (one f).table (callee_in all) n.arguments is

    abbrev pub pa' : List ℕ
    pa' = pa ++ typed_arguments_cells (one f).table is

    pub items_long' : length pi' ≡ next.items * 8
    items_long' =
        omega (
          arith,
          length-append pi (typed_items_cells (one f).table (callee_in all) n.arguments f.items),
          length-typed_items (one f).table (callee_in all) n.arguments f.items,
          items_long,
        )

    pub arguments_long' : length pa' ≡ next.arguments * 2
    arguments_long' =
        omega (
          arith,
          length-append pa (typed_arguments_cells (one f).table f.items),
          length-typed_arguments (one f).table f.items,
          arguments_long,
        )

    written : typed_items (one f).table (callee_in all) items n.items (length is) ≡ pi' ++ mi
    written =
        items-typed (one f).table (callee_in all) is pi mi n.items n.arguments items_long
        ∙ sym (append_assoc pi (typed_items_cells (one f).table (callee_in all) n.arguments is) mi)

    called : typed_calls (one f).table items args n.items (length is) ≡ pa' ++ ma
    called =
        calls_typed (one f).table is items mi pa ma n.items n.arguments
        (drop_at pi _ (n.items * 8) items_long) arguments_long
        ∙ sym (append_assoc pa (typed_arguments_cells (one f).table is) ma)

    callees_same : callee_of rows total ≡ callee_in all
    callees_same = fun_ext callees_are

    -- the turn
    pub turned : typed_rows ts rows total blocks t₀ n.functions (suc (length gs)) items args
        ≡ then_row (one f).end
        (typed_rows ts rows total blocks t₀ (n.functions + 1) (length gs) (pi' ++ mi) (pa' ++ ma))
        (λ e. done (Err e) items args)
    unfolding typed_rows
    turned =
        rw (
          row_first ts names f n.items n.blocks rows n.functions row.0 row.1,
          row-items ts names f n.items n.blocks rows n.functions row.0 row.1,
          typed,
          callees_same,
          written,
          called,
        )

    pub starts : (pi ++ (untyped_items n (f ∷ gs) ++ zi) ≡ items) × (pa ++ (untyped_arguments (f ∷ gs) ++ za) ≡ args)
    unfolding untyped_items untyped_arguments
    starts = (
      ap (λ (l : List ℕ). pi ++ l) (append_assoc (items_cells n.arguments f.items) (untyped_items (counts_with n f)
          gs) zi),
      ap (λ (l : List ℕ). pa ++ l) (append_assoc (arguments_cells f.items) (untyped_arguments gs) za),
    )

    -- what follows from the rest
    abbrev rest-done : Done
    rest-done = typed_rows ts rows total blocks t₀ (n.functions + 1) (length gs) (pi' ++ mi) (pa' ++ ma)

    pub by_end : (e : Result Unit Refusal) → (one f).end ≡ e → Same gs next pi' pa' zi za rest-done
        → Same (f ∷ gs) n pi pa zi za (then_row e rest-done (λ r. done (Err r) items args))
    unfolding typed_d then_typed then_end then_row all_items all_arguments tables_of
    by_end (Ok tt) h s =
        record {
          ends = s.ends ∙ rw h;
          items_are = λ e.
              s.items_are e
              ∙ append_assoc pi (typed_items_cells (one f).table (callee_in all) n.arguments f.items) _
              ∙ ap (λ (l : List ℕ). pi ++ l)
              (sym (append_assoc (typed_items_cells (one f).table (callee_in all) n.arguments f.items) _ zi));
          arguments_are = λ e.
              s.arguments_are e
              ∙ append_assoc pa (typed_arguments_cells (one f).table f.items) _
              ∙ ap (λ (l : List ℕ). pa ++ l)
              (sym (append_assoc (typed_arguments_cells (one f).table f.items) _ za));
        }
    by_end (Err r) h s =
        record {
          ends = rw h;
          items_are = λ e. absurd (let z : ◌≡◌ {A = ℕ} 0 1 = cc in omega arith);
          arguments_are = λ e. absurd (let z : ◌≡◌ {A = ℕ} 0 1 = cc in omega arith);
        }

  none-typed : (n : Counts) (pi pa zi za : List ℕ)
      → Same [] n pi pa zi za
      (typed_rows ts rows total blocks t₀ n.functions 0 (pi ++ (untyped_items n [] ++ zi))
      (pa ++ (untyped_arguments [] ++ za)))
  unfolding typed_rows typed_d untyped_items untyped_arguments all_items all_arguments tables_of
  none-typed n pi pa zi za = record { ends = refl; items_are = λ e. refl; arguments_are = λ e. refl }

  pub all_typed : (gs : List Function) (n : Counts) → FitsFrom n gs → (pi pa zi za zr zb : List ℕ)
      → drop (row_at n.functions) rows ≡ rows_cells ts names n gs ++ zr
      → drop (n.blocks * 8) blocks ≡ all_blocks n gs ++ zb
      → length pi ≡ n.items * 8 → length pa ≡ n.arguments * 2
      → Same gs n pi pa zi za
      (typed_rows ts rows total blocks t₀ n.functions (length gs) (pi ++ (untyped_items n gs ++ zi))
      (pa ++ (untyped_arguments gs ++ za)))
  unfolding FitsFrom
  all_typed [] n w pi pa zi za zr zb hr hb hi ha = none-typed n pi pa zi za
  all_typed (f ∷ gs) n w pi pa zi za zr zb hr hb hi ha =
      let s = starts n f gs w.0 pi pa zi za zr zb hr hb hi ha in
      let t = turned n f gs w.0 pi pa zi za zr zb hr hb hi ha in
      let rest = all_typed gs (counts_with n f) w.1 (pi' n f gs w.0 pi pa zi za zr zb hr hb hi ha)
      (pa' n f gs w.0 pi pa zi za zr zb hr hb hi ha) zi za zr zb
      (rows_behind ts names rows zr n f gs w.0.formals_few hr)
      (blocks-behind n f gs w.0 pi pa zi za zr zb hr hb hi ha)
      (items_long' n f gs w.0 pi pa zi za zr zb hr hb hi ha)
      (arguments_long' n f gs w.0 pi pa zi za zr zb hr hb hi ha) in
      rw (s.0, s.1, t) (by_end n f gs w.0 pi pa zi za zr zb hr hb hi ha (one f).end refl rest)
