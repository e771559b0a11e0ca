-- From the slices that `parse` leaves to those that the whole unit leaves.
use Rattle.std.specs.Prelude.{Err, Ok, Result}
use Prim.Native.Nat.{ℕ, ◌+◌, ◌*◌, ◌≤◌}
use mathlib.Core.Path.{◌≡◌, refl, sym, ap, subst, ◌∙◌}
use mathlib.Core.List.{List, [], ◌∷◌, ◌++◌}
use native.Mathlib.Omega.{arith}
use lib.ListN.{length, drop, length-append}
use lib.Seq.{take_at}
use Rattle.utils.specs.Bytes.{over}
use Rattle.utils.proofs.Runs.{length_over}
use Rattle.lexer.specs.Decoded.{Tok}
use Rattle.parser.specs.Step.{then_at}
use Rattle.parser.specs.declared.Refusal.{Refusal}
use Rattle.functions.specs.Functions.{Function, program_d}
use Rattle.functions.specs.Columns.{row_at}
use Rattle.functions.specs.Answer.{Slices, slices, Long, counts_with, counts_from, program_read, Held}
use Rattle.functions.specs.Laid.{rows_cells, untyped_items, untyped_arguments, all_blocks, all_predecessors, FitsFrom}
use Rattle.functions.specs.Laid.{AllFit}
use Rattle.functions.specs.declared.Counts.{Counts}
use Rattle.functions.proofs.Laid.{functions-counted, length-items, length-arguments, Inside, inside-from, none_inside}
use Rattle.functions.proofs.Laid.{stored_laid, length-rows, length-all_blocks, length-predecessors, LaidFits, laid_fits}
use Rattle.functions.proofs.Standing.{types-stored, items-stored}
use Rattle.parser.specs.Runs.{type_cell}
use Rattle.sema.specs.Symbols.{Typed}
use Rattle.sema.specs.Blocks.{type_function_d}
use Rattle.sema.specs.Program.{globals_of, ordered_blocks, type_program_d as typed_d}
use Rattle.sema.proofs.Rows.{globals_stored}
use Rattle.elaborate.specs.Types.{callee_in, typed_items_cells, typed_arguments_cells}
use Rattle.elaborate.proofs.Lists.{length-typed_items, length-typed_arguments}
use Rattle.elaborate.proofs.Rows.{callees_stored}
use Rattle.unit.specs.Outcome.{untyped, checked, refused, unit_d, unit_read, unit_slices, slices_of, none, fronts}
use Rattle.unit.specs.Outcome.{tables_of, all_items, all_arguments, UnitHeld, Counted}
use Rattle.unit.specs.Rows.{Done, typed_rows, RowsFit, HeldBy, RowsHeld}
use Rattle.unit.proofs.Typed.{Same, all_typed}

-- Lengths. ----------------------------------------------------------------------------------------------------------

abbrev one : List Tok → List Function → Function → Typed
one ts all f =
    type_function_d ts (globals_of all) (type_cell f.head.ret) f.token f.head.formals (ordered_blocks f.items)
    untyped

length-tables : (ts : List Tok) (all fs : List Function) (callees : ℕ → ℕ) (n : Counts)
    → n.items * 8 + length (all_items callees n fs (tables_of ts all fs)) ≡ (counts_from n fs).items * 8
unfolding all_items tables_of counts_from
length-tables ts all [] callees n = omega arith
length-tables ts all (f ∷ fs) callees n =
    omega (
      arith,
      length-append (typed_items_cells (one ts all f).table callees n.arguments f.items)
          (all_items callees (counts_with n f) fs (tables_of ts all fs)),
      length-typed_items (one ts all f).table callees n.arguments f.items,
      length-tables ts all fs callees (counts_with n f),
    )

length-typed : (ts : List Tok) (all fs : List Function) (n : Counts)
    → n.arguments * 2 + length (all_arguments fs (tables_of ts all fs)) ≡ (counts_from n fs).arguments * 2
unfolding all_arguments tables_of counts_from
length-typed ts all [] n = omega arith
length-typed ts all (f ∷ fs) n =
    omega (
      arith,
      length-append (typed_arguments_cells (one ts all f).table f.items) (all_arguments fs (tables_of ts all fs)),
      length-typed_arguments (one ts all f).table f.items,
      length-typed ts all fs (counts_with n f),
    )

same-slices : {f i a b p f' i' a' b' p' : List ℕ} → f ≡ f' → i ≡ i' → a ≡ a' → b ≡ b' → p ≡ p'
    → slices f i a b p ≡ slices f' i' a' b' p'
same-slices e₁ e₂ e₃ e₄ e₅ = rw (e₁, e₂, e₃, e₄, e₅)

-- The functions that were parsed. -----------------------------------------------------------------------------------

module _ (ts : List Tok) (names : List ℕ) (fs : List Function) (fits : FitsFrom none fs) (F I A B P : List ℕ)
    (long-f : 2881 ≤ length F) (long-i : 24576 ≤ length I) (long-a : 6928 ≤ length A) (long-b : 8192 ≤ length B)
    (long-p : 2048 ≤ length P) where
  abbrev rows : List ℕ
  rows = over F (length fs ∷ rows_cells ts names none fs)

  abbrev items : List ℕ
  items = over I (untyped_items none fs)

  abbrev args : List ℕ
  args = over A (untyped_arguments fs)

  abbrev blocks : List ℕ
  blocks = over B (all_blocks none fs)

  inside : Inside (counts_from none fs)
  inside = inside-from none fs none_inside fits

  abbrev zr : List ℕ
  zr = drop (length (length fs ∷ rows_cells ts names none fs)) F

  rows-stand : drop 1 rows ≡ rows_cells ts names none fs ++ zr
  rows-stand = refl

  pub functions_few : length fs ≤ 64
  functions_few = omega (arith, inside.functions_few, functions-counted none fs)

  laid : LaidFits ts names fs
  laid = laid_fits ts names fs fits

  pub ready : RowsFit rows (length fs) 0 (length fs) (length items)
  ready =
      record {
        types_few = types-stored ts names rows zr fs fits rows-stand;
        items_fit = λ i from h.
            omega (
              arith,
              items-stored ts names rows zr fs fits rows-stand i (omega (arith, h)),
              length_over I (untyped_items none fs) (omega (arith, laid.items_fit)),
            );
      }

  typing : Same ts names rows fs (length fs) blocks untyped
      (λ name. globals_stored ts names rows zr name fs fits rows-stand)
      (λ name. callees_stored ts names rows zr name fs fits rows-stand) refl fs none [] []
      (drop (length (untyped_items none fs)) I) (drop (length (untyped_arguments fs)) A)
      (typed_rows ts rows (length fs) blocks untyped 0 (length fs) items args)
  typing =
      all_typed ts names rows fs (length fs) blocks untyped
      (λ name. globals_stored ts names rows zr name fs fits rows-stand)
      (λ name. callees_stored ts names rows zr name fs fits rows-stand) refl fs none fits [] []
      (drop (length (untyped_items none fs)) I) (drop (length (untyped_arguments fs)) A) zr
      (drop (length (all_blocks none fs)) B) rows-stand refl refl refl

  pub ends_as : (typed_rows ts rows (length fs) blocks untyped 0 (length fs) items args).end ≡ (typed_d ts fs fs
      untyped).end
  ends_as = typing.ends

  abbrev d : Done
  d = typed_rows ts rows (length fs) blocks untyped 0 (length fs) items args

  pub typed-slices : d.end ≡ Ok tt
      → slices rows d.items d.arguments blocks (over P (all_predecessors fs))
      ≡ slices
      (over F (length fs ∷ rows_cells ts names none fs))
      (over I (all_items (callee_in fs) none fs (tables_of ts fs fs)))
      (over A (all_arguments fs (tables_of ts fs fs)))
      (over B (all_blocks none fs))
      (over P (all_predecessors fs))
  typed-slices e =
      let i : length (untyped_items none fs) ≡ length (all_items (callee_in fs) none fs (tables_of ts fs fs)) =
      omega (arith, length-items none fs, length-tables ts fs fs (callee_in fs) none) in
      let a : length (untyped_arguments fs) ≡ length (all_arguments fs (tables_of ts fs fs)) =
      omega (arith, length-arguments none fs, length-typed ts fs fs none) in
      same-slices refl
      (typing.items_are e
      ∙ ap (λ (k : ℕ). all_items (callee_in fs) none fs (tables_of ts fs fs) ++ drop k I) i)
      (typing.arguments_are e
      ∙ ap (λ (k : ℕ). all_arguments fs (tables_of ts fs fs) ++ drop k A) a)
      refl refl

-- what stands over the slices stands in front of them; `tables` are those of typed functions
pub front-slices : (ts : List Tok) (names : List ℕ) (fs : List Function) → FitsFrom none fs
    → (callees : ℕ → ℕ) (tables : List (List ℕ)) (F I A B P : List ℕ)
    → length (all_items callees none fs tables) ≡ length (untyped_items none fs)
    → length (all_arguments fs tables) ≡ length (untyped_arguments fs)
    → fronts (counts_from none fs)
    (slices
    (over F (length fs ∷ rows_cells ts names none fs))
    (over I (all_items callees none fs tables))
    (over A (all_arguments fs tables))
    (over B (all_blocks none fs))
    (over P (all_predecessors fs)))
    ≡ slices_of ts names callees fs tables
front-slices ts names fs fits callees tables F I A B P items_are arguments_are =
    let n = counts_from none fs in
    same-slices
    (take_at (length fs ∷ rows_cells ts names none fs) _ (row_at n.functions)
    (omega (arith, length-rows ts names none fs fits, functions-counted none fs)))
    (take_at (all_items callees none fs tables) _ (n.items * 8) (omega (arith, length-items none fs, items_are)))
    (take_at (all_arguments fs tables) _ (n.arguments * 2) (omega (arith, length-arguments none fs, arguments_are)))
    (take_at (all_blocks none fs) _ (n.blocks * 8) (omega (arith, length-all_blocks none fs)))
    (take_at (all_predecessors fs) _ n.predecessors (omega (arith, length-predecessors none fs)))

-- What the function that calls both knows. --------------------------------------------------------------------------

-- how parsing ended
ended_at_lem : (e : Result ℕ Refusal) (m n : Counts) → Ok n ≡ then_at Err e (λ next. Ok m)
    → ((next : ℕ) × (e ≡ Ok next)) × (n ≡ m)
unfolding then_at
ended_at_lem (Ok next) m n h = ((next, refl), cc)
ended_at_lem (Err e) m n h = absurd (let z : ◌≡◌ {A = ℕ} 0 1 = cc in omega arith)

refused_at_lem : (e : Result ℕ Refusal) (m : Counts) (r : Refusal) → Err r ≡ then_at Err e (λ next. Ok m) → e
    ≡ Err r
unfolding then_at
refused_at_lem (Ok next) m r h = absurd (let z : ◌≡◌ {A = ℕ} 0 1 = cc in omega arith)
refused_at_lem (Err e) m r h = cc

module _ (ts : List Tok) (names f i a b p : List ℕ) where
  abbrev fs : List Function
  fs = (program_d ts).functions

  abbrev s₀ : Slices
  s₀ = slices f i a b p

  pub refused-whole : {e : Refusal} → unit_d ts ≡ refused e → (s : Slices)
      → (Err e ≡ unit_read (unit_d ts)) × (UnitHeld ts names s (unit_d ts) × Counted (Err e))
  refused-whole h s = rw h (refl, (tt, tt))

  pub parse_refuses : (e : Refusal) → Err e ≡ program_read (program_d ts) → unit_d ts ≡ refused e
  unfolding unit_d program_read
  parse_refuses e h = rw (refused_at_lem (program_d ts).end (counts_from none fs) e h)

  module _ (rows_long : 2881 ≤ length f) (long : Long i a b p)
      (fits : AllFit (program_d ts))
      (n : Counts) (parsed : Ok n ≡ program_read (program_d ts)) (f₁ i₁ a₁ b₁ p₁ : List ℕ)
      (held : Held ts names fs s₀ (slices f₁ i₁ a₁ b₁ p₁) (program_d ts).end) where
    at_end : ((next : ℕ) × ((program_d ts).end ≡ Ok next)) × (n ≡ counts_from none fs)
    unfolding program_read
    at_end = ended_at_lem (program_d ts).end (counts_from none fs) n parsed

    n_is : n.functions ≡ length fs
    n_is = omega (arith, ap (λ (k : Counts). k.functions) at_end.1, functions-counted none fs)

    laid_are : slices f₁ i₁ a₁ b₁ p₁
        ≡ slices
        (over f (length fs ∷ rows_cells ts names none fs))
        (over i (untyped_items none fs))
        (over a (untyped_arguments fs))
        (over b (all_blocks none fs))
        (over p (all_predecessors fs))
    laid_are =
        subst (λ (e : Result ℕ Refusal). Held ts names fs s₀ (slices f₁ i₁ a₁ b₁ p₁) e) at_end.0.1 held
        ∙ stored_laid ts names f i a b p rows_long long.items_long
        long.arguments_long long.blocks_long long.predecessors_long fs fits

    f-is : f₁ ≡ over f (length fs ∷ rows_cells ts names none fs)
    f-is = ap (λ (s : Slices). s.functions) laid_are

    i_is : i₁ ≡ over i (untyped_items none fs)
    i_is = ap (λ (s : Slices). s.items) laid_are

    a_is : a₁ ≡ over a (untyped_arguments fs)
    a_is = ap (λ (s : Slices). s.arguments) laid_are

    b_is : b₁ ≡ over b (all_blocks none fs)
    b_is = ap (λ (s : Slices). s.blocks) laid_are

    p_is : p₁ ≡ over p (all_predecessors fs)
    p_is = ap (λ (s : Slices). s.predecessors) laid_are

    abbrev I : ℕ
    I = length i

    ready_now : RowsFit (over f (length fs ∷ rows_cells ts names none fs)) (length fs) 0 (length fs)
        (length (over i (untyped_items none fs)))
    ready_now =
        ready ts names fs fits f i a b p rows_long long.items_long
        long.arguments_long long.blocks_long long.predecessors_long

    pub few : n.functions ≤ 64
    few =
        omega (
          arith,
          n_is,
          functions_few ts names fs fits f i a b p rows_long
              long.items_long
              long.arguments_long long.blocks_long long.predecessors_long,
        )

    pub rows_fit_lem : RowsFit f₁ n.functions 0 n.functions (length i₁)
    rows_fit_lem = rw (f-is, n_is, i_is) ready_now

    abbrev done : Done
    done = typed_rows ts f₁ n.functions b₁ untyped 0 n.functions i₁ a₁

    abbrev laid_done : Done
    laid_done =
        typed_rows ts (over f (length fs ∷ rows_cells ts names none fs)) (length fs)
        (over b (all_blocks none fs))
        untyped 0 (length fs) (over i (untyped_items none fs)) (over a (untyped_arguments fs))

    done-is : done ≡ laid_done
    done-is = rw (f-is, n_is, b_is, i_is, a_is)

    ends_is : done.end ≡ (typed_d ts fs fs untyped).end
    ends_is =
        ap (λ (d : Done). d.end) done-is
        ∙ ends_as ts names fs fits f i a b p rows_long long.items_long
        long.arguments_long long.blocks_long long.predecessors_long

    module _ (r : Result Unit Refusal) (i₂ a₂ : List ℕ) (typed : RowsHeld r i₂ a₂ done) where
      pub types_refuse : (e : Refusal) → r ≡ Err e → unit_d ts ≡ refused e
      unfolding unit_d
      types_refuse e h =
          let q : (typed_d ts fs fs untyped).end ≡ Err e = sym ends_is ∙ sym typed.answer ∙ h in
          rw (at_end.0.1, q)

      pub types-fine : r ≡ Ok tt → unit_d ts ≡ checked fs
      unfolding unit_d
      types-fine h =
          let q : (typed_d ts fs fs untyped).end ≡ Ok tt = sym ends_is ∙ sym typed.answer ∙ h in
          rw (at_end.0.1, q)

      written : r ≡ Ok tt → fronts (counts_from none fs) (slices f₁ i₂ a₂ b₁ p₁) ≡ unit_slices ts names (checked fs)
      written h =
          let k = subst (λ (x : Result Unit Refusal). HeldBy x i₂ a₂ done) h typed.held in
          let z : laid_done.end ≡ Ok tt = ap (λ (d : Done). d.end) (sym done-is) ∙ sym typed.answer ∙ h in
          ap (fronts (counts_from none fs))
          (same-slices f-is (k.0 ∙ ap (λ (d : Done). d.items) done-is) (k.1 ∙ ap (λ (d : Done). d.arguments)
          done-is) b_is p_is
          ∙ typed-slices ts names fs fits f i a b p rows_long long.items_long long.arguments_long
          long.blocks_long long.predecessors_long z)
          ∙ front-slices ts names fs fits (callee_in fs) (tables_of ts fs fs) f i a b p
          (omega (arith, length-items none fs, length-tables ts fs fs (callee_in fs) none))
          (omega (arith, length-arguments none fs, length-typed ts fs fs none))

      pub fine-whole : r ≡ Ok tt
          → (Ok n ≡ unit_read (unit_d ts)) × (UnitHeld ts names (slices f₁ i₂ a₂ b₁ p₁) (unit_d ts) × Counted
          (Ok n))
      fine-whole h =
          let v = inside-from none fs none_inside fits in
          let u = types-fine h in
          rw (u, at_end.1)
          (refl, (written h, (v.functions_few, v.items_few, v.arguments_few, v.blocks_few, v.predecessors_few)))
