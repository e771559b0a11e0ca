-- What is stored one function behind the other is the list form (crates/functions/specs/Laid.antt), over what the
-- slices held before.
use Prim.Native.Nat.{ℕ, ◌+◌, ◌*◌, ◌-◌, ◌≤◌}
use mathlib.Core.Path.{◌≡◌, refl, sym, ap, ◌∙◌}
use mathlib.Core.List.{List, [], ◌∷◌, ◌++◌, append_assoc, append-nil}
use native.Mathlib.Omega.{arith}
use native.Mathlib.Nat.{add-zero}
use lib.ListN.{length, get_or, length-append, replicate, length-replicate}
use lib.Seq.{sets, drop-cons}
use Rattle.utils.specs.Bytes.{pad_to, over}
use Rattle.utils.proofs.Runs.{sets_over}
use Rattle.lexer.specs.Decoded.{Tok}
use Rattle.parser.specs.Runs.{variables_cells}
use Rattle.body.specs.Body.{Item}
use Rattle.link.specs.Blocks.{Block}
use Rattle.link.specs.Edges.{successors, predecessors}
use Rattle.parser.specs.declared.Variable.{Variable}
use Rattle.body.specs.Records.{items_cells, arguments_cells}
use Rattle.body.proofs.Lay.{length-items_cells, length-arguments_cells}
use Rattle.link.specs.Cells.{block_cells}
use Rattle.functions.specs.Functions.{Function, blocks_in}
use Rattle.functions.specs.Columns.{row_at}
use Rattle.functions.specs.Rows.{head_cells, row_cells}
use Rattle.functions.specs.Answer.{edges_in, predecessors_in, counts, counts_with, counts_from}
use Rattle.functions.specs.Answer.{Slices, slices, stored_function, stored_from, with_count}
use Rattle.functions.specs.Laid.{rows_cells, untyped_items, untyped_arguments, all_blocks, all_predecessors}
use Rattle.functions.specs.Laid.{Fits, FitsFrom}
use Rattle.functions.specs.declared.Counts.{Counts}

-- How many cells one function takes. ----------------------------------------------------------------------------------

length_variables : (vs : List Variable) → length (variables_cells vs) ≡ length vs * 2
unfolding variables_cells
length_variables [] = refl
length_variables (v ∷ vs) = omega (arith, length_variables vs)

row-long : (ts : List Tok) (names : List ℕ) (f : Function) (first base : ℕ) → length f.head.formals ≤ 16
    → length (row_cells ts names f first base) ≤ 45
row-long ts names f first base h =
    let vs : List Variable = f.head.formals in
    omega (arith, length-append (head_cells ts names f first base) (variables_cells vs), length_variables vs)

pub length-block_cells : (bs all : List Block) (first used j : ℕ) (tss : List (List ℕ))
    → length (block_cells first used j tss (successors all bs) bs) ≡ length bs * 8
unfolding block_cells successors
length-block_cells [] all first used j tss = refl
length-block_cells (b ∷ bs) all first used j tss =
    omega (arith, length-block_cells bs all first (used + length (predecessors j 0 tss)) (j + 1) tss)

abbrev cells_of_blocks : Counts → List Item → List ℕ
cells_of_blocks n is = block_cells n.items n.predecessors 0 (edges_in is) (edges_in is) (blocks_in is)

length-blocks : (n : Counts) (is : List Item) → length (cells_of_blocks n is) ≡ length (blocks_in is) * 8
length-blocks n is = length-block_cells (blocks_in is) (blocks_in is) n.items n.predecessors 0 (edges_in is)

length_pad : (n : ℕ) (l : List ℕ) → length l ≤ n → length (pad_to n l) ≡ n
length_pad n l h =
    omega (arith, length-append l (replicate (n - length l) 0), length-replicate {A = ℕ} (n - length l) 0)

-- How many cells all functions take. ----------------------------------------------------------------------------------

pub length-rows : (ts : List Tok) (names : List ℕ) (n : Counts) (fs : List Function) → FitsFrom n fs
    → length (rows_cells ts names n fs) ≡ length fs * 45
unfolding rows_cells FitsFrom
length-rows ts names n [] h = refl
length-rows ts names n (f ∷ fs) h =
    let row : List ℕ = row_cells ts names f n.items n.blocks in
    let more : List ℕ = rows_cells ts names (counts_with n f) fs in
    omega (
      arith,
      length-append (pad_to 45 row) more,
      length_pad 45 row (row-long ts names f n.items n.blocks h.0.formals_few),
      length-rows ts names (counts_with n f) fs h.1,
    )

pub functions-counted : (n : Counts) (fs : List Function) → (counts_from n fs).functions ≡ n.functions + length fs
unfolding counts_from
functions-counted n [] = sym (add-zero n.functions)
functions-counted n (f ∷ fs) = omega (arith, functions-counted (counts_with n f) fs)

pub length-items : (n : Counts) (fs : List Function)
    → n.items * 8 + length (untyped_items n fs) ≡ (counts_from n fs).items * 8
unfolding untyped_items counts_from
length-items n [] = add-zero (n.items * 8)
length-items n (f ∷ fs) =
    let xs : List ℕ = items_cells n.arguments f.items in
    let ys : List ℕ = untyped_items (counts_with n f) fs in
    omega (
      arith,
      length-append xs ys,
      length-items_cells n.arguments f.items,
      length-items (counts_with n f) fs,
    )

pub length-arguments : (n : Counts) (fs : List Function)
    → n.arguments * 2 + length (untyped_arguments fs) ≡ (counts_from n fs).arguments * 2
unfolding untyped_arguments counts_from
length-arguments n [] = add-zero (n.arguments * 2)
length-arguments n (f ∷ fs) =
    let xs : List ℕ = arguments_cells f.items in
    let ys : List ℕ = untyped_arguments fs in
    omega (
      arith,
      length-append xs ys,
      length-arguments_cells f.items,
      length-arguments (counts_with n f) fs,
    )

pub length-all_blocks : (n : Counts) (fs : List Function)
    → n.blocks * 8 + length (all_blocks n fs) ≡ (counts_from n fs).blocks * 8
unfolding all_blocks counts_from
length-all_blocks n [] = add-zero (n.blocks * 8)
length-all_blocks n (f ∷ fs) =
    let xs : List ℕ = cells_of_blocks n f.items in
    let ys : List ℕ = all_blocks (counts_with n f) fs in
    omega (
      arith,
      length-append xs ys,
      length-blocks n f.items,
      length-all_blocks (counts_with n f) fs,
    )

pub length-predecessors : (n : Counts) (fs : List Function)
    → n.predecessors + length (all_predecessors fs) ≡ (counts_from n fs).predecessors
unfolding all_predecessors counts_from
length-predecessors n [] = add-zero n.predecessors
length-predecessors n (f ∷ fs) =
    let xs : List ℕ = predecessors_in f.items in
    let ys : List ℕ = all_predecessors fs in
    omega (arith, length-append xs ys, length-predecessors (counts_with n f) fs)

-- The counts stay inside the slices' least sizes. ---------------------------------------------------------------------

pub record Inside (n : Counts) : Type 0 where
  pub functions_few : n.functions ≤ 64
  pub items_few : n.items ≤ 3072
  pub arguments_few : n.arguments ≤ 3464
  pub blocks_few : n.blocks ≤ 1024
  pub predecessors_few : n.predecessors ≤ 2048

pub inside-from : (n : Counts) (fs : List Function) → Inside n → FitsFrom n fs → Inside (counts_from n fs)
unfolding counts_from FitsFrom
inside-from n [] i h = i
inside-from n (f ∷ fs) i h =
    let g = h.0 in
    inside-from (counts_with n f) fs
    (record {
      functions_few = omega (arith, g.functions_few);
      items_few = g.items_few;
      arguments_few = g.arguments_few;
      blocks_few = g.blocks_few;
      predecessors_few = g.predecessors_few;
    })
    h.1

pub none_inside : Inside (counts 0 0 0 0 0)
none_inside = record {
  functions_few = omega arith;
  items_few = omega arith;
  arguments_few = omega arith;
  blocks_few = omega arith;
  predecessors_few = omega arith;
}

-- Each list fits its slice.
pub record LaidFits (ts : List Tok) (names : List ℕ) (fs : List Function) : Type 0 where
  pub rows_fit_lem : length (length fs ∷ rows_cells ts names (counts 0 0 0 0 0) fs) ≤ 2881
  pub items_fit : length (untyped_items (counts 0 0 0 0 0) fs) ≤ 24576
  pub arguments_fit : length (untyped_arguments fs) ≤ 6928
  pub blocks_fit : length (all_blocks (counts 0 0 0 0 0) fs) ≤ 8192
  pub predecessors_fit : length (all_predecessors fs) ≤ 2048

pub laid_fits : (ts : List Tok) (names : List ℕ) (fs : List Function) → FitsFrom (counts 0 0 0 0 0) fs
    → LaidFits ts names fs
laid_fits ts names fs h =
    let n : Counts = counts 0 0 0 0 0 in
    let i = inside-from n fs none_inside h in
    record {
      rows_fit_lem = omega (arith, length-rows ts names n fs h, functions-counted n fs, i.functions_few);
      items_fit = omega (arith, length-items n fs, i.items_few);
      arguments_fit = omega (arith, length-arguments n fs, i.arguments_few);
      blocks_fit = omega (arith, length-all_blocks n fs, i.blocks_few);
      predecessors_fit = omega (arith, length-predecessors n fs, i.predecessors_few);
    }

-- Stores. -------------------------------------------------------------------------------------------------------------

same-slices : {f i a b p f' i' a' b' p' : List ℕ} → f ≡ f' → i ≡ i' → a ≡ a' → b ≡ b' → p ≡ p'
    → slices f i a b p ≡ slices f' i' a' b' p'
same-slices e₁ e₂ e₃ e₄ e₅ = rw (e₁, e₂, e₃, e₄, e₅)

-- the lists that stand in the slices before the cells of the functions that follow
record Before (n : Counts) (lf li la lb lp : List ℕ) : Type 0 where
  rows : length lf ≡ row_at n.functions
  items : length li ≡ n.items * 8
  arguments : length la ≡ n.arguments * 2
  blocks : length lb ≡ n.blocks * 8
  preds : length lp ≡ n.predecessors

module _ (ts : List Tok) (names F I A B P : List ℕ) (long-f : 2881 ≤ length F) (long-i : 24576 ≤ length I)
    (long-a : 6928 ≤ length A) (long-b : 8192 ≤ length B) (long-p : 2048 ≤ length P) where
  module _ (n : Counts) (f : Function) (fits : Fits n f) (lf li la lb lp : List ℕ) (h : Before n lf li la lb lp) where
    row : List ℕ
    row = row_cells ts names f n.items n.blocks

    is : List Item
    is = f.items

    row-stored : sets (over F lf) (row_at n.functions) (pad_to 45 row) ≡ over F (lf ++ pad_to 45 row)
    unfolding row
    row-stored =
        let long = length_pad 45 row (row-long ts names f n.items n.blocks fits.formals_few) in
        sets_over F lf (pad_to 45 row) (row_at n.functions) h.rows (omega (arith, long, fits.functions_few))

    one : stored_function ts names n (slices (over F lf) (over I li) (over A la) (over B lb) (over P lp)) f
        ≡ slices (over F (lf ++ pad_to 45 row)) (over I (li ++ items_cells n.arguments is))
        (over A (la ++ arguments_cells is)) (over B (lb ++ cells_of_blocks n is)) (over P (lp ++ predecessors_in is))
    unfolding row is
    one =
        same-slices row-stored
        (sets_over I li (items_cells n.arguments is) (n.items * 8) h.items
        (omega (arith, length-items_cells n.arguments is, fits.items_few)))
        (sets_over A la (arguments_cells is) (n.arguments * 2) h.arguments
        (omega (arith, length-arguments_cells is, fits.arguments_few)))
        (sets_over B lb (cells_of_blocks n is) (n.blocks * 8) h.blocks
        (omega (arith, length-blocks n is, fits.blocks_few)))
        (sets_over P lp (predecessors_in is) n.predecessors h.preds (omega (arith, fits.predecessors_few)))

    next : Before (counts_with n f) (lf ++ pad_to 45 row) (li ++ items_cells n.arguments is) (la ++ arguments_cells is)
        (lb ++ cells_of_blocks n is) (lp ++ predecessors_in is)
    unfolding row is
    next = record {
      rows = omega (
        arith,
        h.rows,
        length-append lf (pad_to 45 row),
        length_pad 45 row (row-long ts names f n.items n.blocks fits.formals_few),
      );
      items = omega (
        arith,
        h.items,
        length-append li (items_cells n.arguments is),
        length-items_cells n.arguments is,
      );
      arguments = omega (arith, h.arguments, length-append la (arguments_cells is), length-arguments_cells is);
      blocks = omega (arith, h.blocks, length-append lb (cells_of_blocks n is), length-blocks n is);
      preds = omega (arith, h.preds, length-append lp (predecessors_in is));
    }

  stored-behind : (fs : List Function) (n : Counts) (lf li la lb lp : List ℕ) → Before n lf li la lb lp → FitsFrom n fs
      → stored_from ts names n (slices (over F lf) (over I li) (over A la) (over B lb) (over P lp)) fs
      ≡ slices (over F (lf ++ rows_cells ts names n fs)) (over I (li ++ untyped_items n fs))
      (over A (la ++ untyped_arguments fs)) (over B (lb ++ all_blocks n fs)) (over P (lp ++ all_predecessors fs))
  unfolding stored_from rows_cells untyped_items untyped_arguments all_blocks all_predecessors FitsFrom row is
  stored-behind [] n lf li la lb lp h g =
      same-slices (behind F lf) (behind I li) (behind A la) (behind B lb) (behind P lp)
    where
      behind : (m l : List ℕ) → over m l ≡ over m (l ++ [])
      behind m l = rw (append-nil l)
  stored-behind (f ∷ fs) n lf li la lb lp h g =
      ap (λ (s : Slices). stored_from ts names (counts_with n f) s fs) (one n f g.0 lf li la lb lp h)
      ∙ stored-behind fs (counts_with n f)
      (lf ++ pad_to 45 (row_cells ts names f n.items n.blocks))
      (li ++ items_cells n.arguments f.items)
      (la ++ arguments_cells f.items)
      (lb ++ cells_of_blocks n f.items)
      (lp ++ predecessors_in f.items)
      (next n f g.0 lf li la lb lp h) g.1
      ∙ same-slices
      (ap (over F) (append_assoc lf (pad_to 45 (row_cells ts names f n.items n.blocks))
      (rows_cells ts names (counts_with n f) fs)))
      (ap (over I) (append_assoc li (items_cells n.arguments f.items) (untyped_items (counts_with n f) fs)))
      (ap (over A) (append_assoc la (arguments_cells f.items) (untyped_arguments fs)))
      (ap (over B) (append_assoc lb (cells_of_blocks n f.items) (all_blocks (counts_with n f) fs)))
      (ap (over P) (append_assoc lp (predecessors_in f.items) (all_predecessors fs)))

  -- THE SLICES after parsing
  pub stored_laid : (fs : List Function) → FitsFrom (counts 0 0 0 0 0) fs
      → with_count (length fs) (stored_from ts names (counts 0 0 0 0 0) (slices F I A B P) fs)
      ≡ slices
      (over F (length fs ∷ rows_cells ts names (counts 0 0 0 0 0) fs))
      (over I (untyped_items (counts 0 0 0 0 0) fs))
      (over A (untyped_arguments fs))
      (over B (all_blocks (counts 0 0 0 0 0) fs))
      (over P (all_predecessors fs))
  stored_laid fs h =
      let n : Counts = counts 0 0 0 0 0 in
      let before : Before n (get_or F 0 0 ∷ []) [] [] [] [] =
      record { rows = refl; items = refl; arguments = refl; blocks = refl; preds = refl } in
      let cell : F ≡ over F (get_or F 0 0 ∷ []) = drop-cons F 0 0 (omega arith) in
      ap (λ (l : List ℕ). with_count (length fs) (stored_from ts names n (slices l I A B P) fs)) cell
      ∙ ap (with_count (length fs)) (stored-behind fs n (get_or F 0 0 ∷ []) [] [] [] [] before h)
