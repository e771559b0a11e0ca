-- From the new function as it was parsed, with its row among the old headers, to what its typing answers and leaves.
use Rattle.std.specs.Prelude.{Err, Ok, Result}
use Prim.Native.Nat.{ℕ, ◌+◌, ◌*◌, ◌≤◌, ◌<◌}
use mathlib.Core.Path.{◌≡◌, refl, sym, ap, subst, fun_ext, ◌∙◌}
use mathlib.Core.List.{List, [], ◌∷◌, ◌++◌, append_assoc}
use mathlib.Core.Bool.{Bool, true, false}
use native.Mathlib.Omega.{arith}
use lib.ListN.{length, get_or, set, drop, length-append}
use lib.Seq.{sets, length-sets}
use Rattle.utils.specs.Bytes.{pick, pad_to, over, same_bytes}
use Rattle.lexer.specs.Decoded.{Tok}
use Rattle.parser.specs.Step.{refusal}
use Rattle.body.specs.Body.{Item}
use Rattle.parser.specs.declared.Refusal.{Refusal}
use Rattle.body.specs.Records.{items_cells, arguments_cells}
use Rattle.link.specs.Cells.{block_cells}
use Rattle.functions.specs.Functions.{Function, FunctionAt, function, no_function, then_function, blocks_in}
use Rattle.functions.specs.Columns.{row_at, type_at}
use Rattle.functions.specs.Rows.{signed_at, row_cells}
use Rattle.functions.specs.Answer.{Slices, slices, Long, counts, counts_from, stored_function, stored_from, with_count}
use Rattle.functions.specs.Answer.{edges_in, Taken, FunctionHeld}
use Rattle.functions.specs.Laid.{rows_cells, untyped_items, untyped_arguments, all_blocks, all_predecessors, Fits, FitsFrom}
use Rattle.functions.specs.declared.Counts.{Counts}
use Rattle.functions.proofs.Laid.{length-items, length-arguments, stored_laid}
use Rattle.functions.proofs.Standing.{row_first, row-items}
use Rattle.sema.specs.Symbols.{Typed}
use Rattle.sema.specs.Typing.{Global}
use Rattle.sema.specs.Globals.{globals_in}
use Rattle.sema.specs.Blocks.{type_row_d}
use Rattle.sema.specs.Program.{function_typed}
use Rattle.sema.proofs.Stored.{row_typed}
use Rattle.elaborate.specs.Types.{callee_of, typed_items, typed_calls, typed_items_cells, typed_arguments_cells}
use Rattle.elaborate.proofs.Lists.{items-typed, calls_typed, length-typed_items, length-typed_arguments}
use Rattle.unit.specs.Outcome.{untyped, none, all_items, all_arguments, fronts, Counted}
use Rattle.unit.proofs.Building.{front-slices}
use Rattle.unit.specs.Rows.{Done, done, then_row, typed_rows, RowsFit, HeldBy, RowsHeld}
use Rattle.headers.specs.Table.{is_table}
use Rattle.headers.specs.Spelled.{row_name, globals_spelled, callees_spelled, Named}
use Rattle.headers.specs.Kept.{keeps}
use Rattle.recheck.specs.Recheck.{alone_d, retyped, Verdict, refuses, accepts, after_typing}
use Rattle.recheck.specs.Recheck.{typed_as, function_alone, verdict_d, verdict_slices}
use Rattle.recheck.specs.Alone.{alone_read, verdict_read, VerdictHeld, Places}
use Rattle.headers.specs.declared.Placed.{Placed}
use Rattle.headers.proofs.Ranges.{Tabled, table_in_range}
use Rattle.recheck.proofs.Placing.{retyped-row, place-below, new_row, behind, globals_placed}
use Rattle.recheck.proofs.Placing.{callees_placed, placed_fit}

same-slices : {f i a b p f' i' a' b' p' : List ℕ} → f ≡ f' → i ≡ i' → a ≡ a' → b ≡ b' → p ≡ p'
    → slices f i a b p ≡ slices f' i' a' b' p'
same-slices e₁ e₂ e₃ e₄ e₅ = rw (e₁, e₂, e₃, e₄, e₅)

-- One function, typed on its cells. ----------------------------------------------------------------------------------

module _ (ts : List Tok) (names rows : List ℕ) (count place : ℕ) (g : Function) (globals : ℕ → Global) (callees : ℕ → ℕ)
    (globals_are : (name : ℕ) → globals_in rows count name ≡ globals name)
    (callees_are : (name : ℕ) → callee_of rows count name ≡ callees name) (more : List ℕ)
    (stands : drop (row_at place) rows ≡ row_cells ts names g 0 0 ++ more) (fits : Fits (counts place 0 0 0 0) g)
    (I A B : List ℕ)
  where
    abbrev is : List Item
    is = g.items

    abbrev items : List ℕ
    items = over I (untyped_items none (g ∷ []))

    abbrev args : List ℕ
    args = over A (untyped_arguments (g ∷ []))

    abbrev blocks : List ℕ
    blocks = over B (all_blocks none (g ∷ []))

    -- what stands behind its cells
    abbrev zi : List ℕ
    zi = drop (length (untyped_items none (g ∷ []))) I

    abbrev za : List ℕ
    za = drop (length (untyped_arguments (g ∷ []))) A

    abbrev zb : List ℕ
    zb = drop (length (all_blocks none (g ∷ []))) B

    items-stand : items ≡ items_cells 0 is ++ zi
    unfolding untyped_items
    items-stand = append_assoc (items_cells 0 g.items) [] _

    args_stand : args ≡ arguments_cells is ++ za
    unfolding untyped_arguments
    args_stand = append_assoc (arguments_cells g.items) [] _

    blocks-stand : blocks ≡ block_cells 0 0 0 (edges_in is) (edges_in is) (blocks_in is) ++ zb
    unfolding all_blocks
    blocks-stand = append_assoc (block_cells 0 0 0 (edges_in g.items) (edges_in g.items) (blocks_in g.items)) [] _

    abbrev one : Typed
    one = function_typed ts globals g untyped

    typed : type_row_d ts rows count items args blocks place untyped ≡ one
    typed =
        row_typed ts names (counts place 0 0 0 0) g rows items args blocks count globals untyped more zi za zb
        globals_are stands items-stand args_stand blocks-stand fits

    -- the cells with the types of operands
    abbrev items' : List ℕ
    items' = typed_items_cells one.table callees 0 is ++ zi

    abbrev args' : List ℕ
    args' = typed_arguments_cells one.table is ++ za

    written : typed_items one.table callees items 0 (length is) ≡ items'
    written =
        ap (λ (l : List ℕ). typed_items one.table callees l 0 (length is)) items-stand
        ∙ items-typed one.table callees is [] zi 0 0 refl

    called : typed_calls one.table items args 0 (length is) ≡ args'
    called =
        ap (λ (l : List ℕ). typed_calls one.table items l 0 (length is)) args_stand
        ∙ calls_typed one.table is items zi [] za 0 0 items-stand refl

    pub turned : typed_rows ts rows count blocks untyped place 1 items args
        ≡ then_row one.end (done (Ok tt) items' args') (λ e. done (Err e) items args)
    unfolding typed_rows
    turned =
        rw (
          row_first ts names g 0 0 rows place more stands,
          row-items ts names g 0 0 rows place more stands,
          typed,
          fun_ext callees_are,
          written,
          called,
        )

    abbrev d : Done
    d = typed_rows ts rows count blocks untyped place 1 items args

    by_end : (e : Result Unit Refusal) (x y z w : List ℕ) → (then_row e (done (Ok tt) x y) (λ r. done (Err r) z w)).end ≡ e
    unfolding then_row
    by_end (Ok tt) x y z w = refl
    by_end (Err r) x y z w = refl

    fine_end : (e : Result Unit Refusal) (x y : Done) → e ≡ Ok tt → then_row e x
        (λ r. done (Err r) y.items y.arguments) ≡ x
    unfolding then_row
    fine_end e x y h = rw h

    pub ends : d.end ≡ one.end
    ends = ap (λ (x : Done). x.end) turned ∙ by_end one.end items' args' items args

    fine-done : one.end ≡ Ok tt → d ≡ done (Ok tt) items' args'
    fine-done h = turned ∙ fine_end one.end (done (Ok tt) items' args') (done (Ok tt) items args) h

    pub items-even : length (untyped_items none (g ∷ [])) ≡ length (all_items callees none (g ∷ []) (one.table ∷ []))
    unfolding all_items counts_from
    items-even =
        omega (
          arith,
          length-items none (g ∷ []),
          length-append (typed_items_cells one.table callees 0 g.items) [],
          length-typed_items one.table callees 0 g.items,
        )

    pub args_even : length (untyped_arguments (g ∷ [])) ≡ length (all_arguments (g ∷ []) (one.table ∷ []))
    unfolding all_arguments counts_from
    args_even =
        omega (
          arith,
          length-arguments none (g ∷ []),
          length-append (typed_arguments_cells one.table g.items) [],
          length-typed_arguments one.table g.items,
        )

    items-over : items' ≡ over I (all_items callees none (g ∷ []) (one.table ∷ []))
    unfolding all_items
    items-over =
        ap (λ (k : ℕ). typed_items_cells one.table callees 0 g.items ++ drop k I) items-even
        ∙ sym (append_assoc (typed_items_cells one.table callees 0 g.items) [] _)

    args_over : args' ≡ over A (all_arguments (g ∷ []) (one.table ∷ []))
    unfolding all_arguments
    args_over =
        ap (λ (k : ℕ). typed_arguments_cells one.table g.items ++ drop k A) args_even
        ∙ sym (append_assoc (typed_arguments_cells one.table g.items) [] _)

    pub items-typed_are : one.end ≡ Ok tt → d.items ≡ over I (all_items callees none (g ∷ []) (one.table ∷ []))
    items-typed_are h = ap (λ (x : Done). x.items) (fine-done h) ∙ items-over

    pub args_typed_are : one.end ≡ Ok tt → d.arguments ≡ over A (all_arguments (g ∷ []) (one.table ∷ []))
    args_typed_are h = ap (λ (x : Done). x.arguments) (fine-done h) ∙ args_over

-- What parsing gave. -------------------------------------------------------------------------------------------------

-- the function, how much it takes, and that it stands in the slices
pub record Parsed (ts : List Tok) (names : List ℕ) (n : Counts) (s₀ s₁ : Slices) : Type 0 where
  pub read : Function
  pub alone : alone_d ts ≡ function read
  pub counted : n ≡ counts_from none (read ∷ [])
  pub taken : Taken ts names none read s₀ s₁

pub parsed_is : (ts : List Tok) (names : List ℕ) (n : Counts) (s₀ s₁ : Slices) → Ok n ≡ alone_read (alone_d ts)
    → FunctionHeld ts names none s₀ s₁ (alone_d ts) → Parsed ts names n s₀ s₁
parsed_is ts names n s₀ s₁ h held = by (alone_d ts) refl h held
  where
    by : (x : FunctionAt) → alone_d ts ≡ x → Ok n ≡ alone_read x → FunctionHeld ts names none s₀ s₁ x
        → Parsed ts names n s₀ s₁
    by (function f) e d k = record { read = f; alone = e; counted = cc; taken = k }
    by (no_function r) e d k = absurd (let z : ◌≡◌ {A = ℕ} 0 1 = cc in omega arith)

refused_as : (x : FunctionAt) (k : Function → Verdict) (e : Refusal) → Err e ≡ alone_read x
    → then_function refuses x k ≡ refuses e
unfolding then_function
refused_as (function f) k e h = absurd (let z : ◌≡◌ {A = ℕ} 0 1 = cc in omega arith)
refused_as (no_function r) k e h =
    let q : r ≡ e = cc in
    rw q

-- What the function that calls all knows. ----------------------------------------------------------------------------

module _ (old rows : List ℕ) (number : ℕ) (new : List ℕ) (ts : List Tok) (names f i a b p : List ℕ) where
  abbrev s₀ : Slices
  s₀ = slices f i a b p

  abbrev verdict : Verdict
  verdict = verdict_d old rows number new names ts

  abbrev callees : ℕ → ℕ
  callees = callees_spelled old rows new names

  abbrev globals : ℕ → Global
  globals = globals_spelled old rows new names

  abbrev type : ℕ
  type = get_or rows (type_at number) 0

  abbrev keeping : Bool
  keeping = keeps (same_bytes (row_name old rows number)) (signed_at rows number) new names ts

  -- what is said of an answer and of the slices that it leaves
  abbrev Whole : Result Counts Refusal → Slices → Type 0
  Whole r s = (r ≡ verdict_read verdict) × (VerdictHeld ts names callees type s verdict × Counted r)

  refused-whole : {e : Refusal} → verdict ≡ refuses e → (s : Slices) → Whole (Err e) s
  refused-whole h s = rw h (refl, (tt, tt))

  changed : (e : Refusal) → e ≡ refusal 41 0 0 → keeping ≡ false → verdict ≡ refuses e
  unfolding pick
  changed e k h = rw (k, h)

  pub header_changed : (e : Refusal) → e ≡ refusal 41 0 0 → keeping ≡ false → (s : Slices) → Whole (Err e) s
  header_changed e k h s = refused-whole (changed e k h) s

  module _ (kept : keeping ≡ true) where
    verdict_is : verdict ≡ function_alone ts (globals_spelled old rows new names)
    unfolding pick
    verdict_is = rw kept

    refused_parsing : (e : Refusal) → Err e ≡ alone_read (alone_d ts) → verdict ≡ refuses e
    unfolding function_alone
    refused_parsing e h =
        verdict_is
        ∙ refused_as (alone_d ts) (λ x. typed_as x (function_typed ts (globals_spelled old rows new names) x untyped)) e h

    pub parse_refused : (e : Refusal) → Err e ≡ alone_read (alone_d ts) → (s : Slices) → Whole (Err e) s
    parse_refused e h s = refused-whole (refused_parsing e h) s

    module _ (table : is_table old rows number ≡ true) (known : ℕ) (v : Named new names known)
        (rows_long : 2881 ≤ length f)
        (long : Long i a b p) (n : Counts) (f₁ i₁ a₁ b₁ p₁ : List ℕ)
        (w : Parsed ts names n s₀ (slices f₁ i₁ a₁ b₁ p₁)) (out₀ out f₂ : List ℕ) (r : Placed)
        (room : 2881 ≤ length out₀)
        (q : Places old rows new names known number out₀ f₁ r out f₂)
      where
        t : Tabled old rows number
        t = table_in_range old rows number table

        abbrev g : Function
        g = retyped (get_or rows (type_at number) 0) w.read

        fits : Fits none g
        fits =
            let m = w.taken in
            let u = m.room in
            record {
              functions_few = m.few;
              type_few = omega (arith, (t.in_range.each number t.there).type);
              formals_few = m.formals_few;
              items_few = omega (arith, u.items_few, u.within.reached, u.within.few);
              arguments_few = omega (arith, u.arguments_few, u.within.reached, u.within.few);
              blocks_few = omega (arith, u.blocks_few, u.within.reached, u.within.few);
              few_blocks = m.few_blocks;
              predecessors_few = omega (arith, u.predecessors_few, u.blocks_few, u.within.reached, u.within.few);
            }

        -- its row is that of the function with the replaced one's type number
        row_is : f₂ ≡ set (sets f (row_at 0) (pad_to 45 (row_cells ts names g 0 0))) 0 1
        row_is =
            q.row
            ∙ ap (λ (s : Slices). set (set s.functions 0 1) (type_at 0) (get_or rows (type_at number) 0))
            w.taken.stored
            ∙ retyped-row ts names f w.read (get_or rows (type_at number) 0)

        stored_are : slices f₂ i₁ a₁ b₁ p₁ ≡ with_count 1 (stored_function ts names none s₀ g)
        stored_are =
            let e = w.taken.stored in
            same-slices row_is (ap (λ (s : Slices). s.items) e) (ap (λ (s : Slices). s.arguments) e)
            (ap (λ (s : Slices). s.blocks) e) (ap (λ (s : Slices). s.predecessors) e)

        laid_are : slices f₂ i₁ a₁ b₁ p₁
            ≡ slices
            (over f (1 ∷ rows_cells ts names none (g ∷ [])))
            (over i (untyped_items none (g ∷ [])))
            (over a (untyped_arguments (g ∷ [])))
            (over b (all_blocks none (g ∷ [])))
            (over p (all_predecessors (g ∷ [])))
        unfolding stored_from FitsFrom
        laid_are =
            stored_are
            ∙ stored_laid ts names f i a b p rows_long long.items_long
            long.arguments_long long.blocks_long long.predecessors_long (g ∷ []) (fits, tt)

        f-is : f₂ ≡ over f (1 ∷ rows_cells ts names none (g ∷ []))
        f-is = ap (λ (s : Slices). s.functions) laid_are

        i_is : i₁ ≡ over i (untyped_items none (g ∷ []))
        i_is = ap (λ (s : Slices). s.items) laid_are

        a_is : a₁ ≡ over a (untyped_arguments (g ∷ []))
        a_is = ap (λ (s : Slices). s.arguments) laid_are

        b_is : b₁ ≡ over b (all_blocks none (g ∷ []))
        b_is = ap (λ (s : Slices). s.blocks) laid_are

        p_is : p₁ ≡ over p (all_predecessors (g ∷ []))
        p_is = ap (λ (s : Slices). s.predecessors) laid_are

        abbrev rest : List ℕ
        rest = drop (length (1 ∷ rows_cells ts names none (g ∷ []))) f

        own : drop 1 f₂ ≡ pad_to 45 (row_cells ts names g 0 0) ++ rest
        unfolding rows_cells
        own = ap (drop 1) f-is ∙ append_assoc (pad_to 45 (row_cells ts names g 0 0)) [] _

        below : r.place < r.count
        below =
            place-below old rows new names known number t v ts w.read w.alone kept
            w.taken.formals_few out₀ f₁ r out
            f₂ room q rest

        few : (r.count ≤ 64) × (r.place + 1 ≤ 64)
        few = (q.few, omega (arith, below, q.few))

        items-room : length w.read.items * 8 ≤ length i₁
        items-room =
            let l : length i₁ ≡ length i =
            ap (λ (s : Slices). length s.items) w.taken.stored
            ∙ length-sets i 0 (items_cells 0 w.read.items) in
            omega (arith, l, fits.items_few, long.items_long)

        rows_fit_lem : RowsFit out r.count r.place 1 (length i₁)
        rows_fit_lem =
            placed_fit old rows new names known number t v ts w.read w.alone kept
            w.taken.formals_few out₀ f₁ r out
            f₂ room q rest own (length i₁) items-room

        -- what typing asks
        pub typing_asks : 2881 ≤ length out
            → (r.count ≤ 64) × (r.place + 1 ≤ 64) × (2881 ≤ length out)
            × RowsFit out r.count r.place 1 (length i₁)
        typing_asks h = (few.0, few.1, h, rows_fit_lem)

        -- Typing the cells is typing the function.
        placed_fits : Fits (counts r.place 0 0 0 0) g
        placed_fits =
            record {
              functions_few = omega (arith, few.1);
              type_few = fits.type_few;
              formals_few = fits.formals_few;
              items_few = fits.items_few;
              arguments_few = fits.arguments_few;
              blocks_few = fits.blocks_few;
              few_blocks = fits.few_blocks;
              predecessors_few = fits.predecessors_few;
            }

        stand : drop (row_at r.place) out
            ≡ row_cells ts names g 0 0
            ++ behind old rows new names known number t v ts w.read w.alone kept
            w.taken.formals_few out₀ f₁ r out
            f₂ room q rest own
        stand =
            new_row old rows new names known number t v ts w.read w.alone kept w.taken.formals_few out₀ f₁ r
            out f₂
            room q rest own

        globals_are : (x : ℕ) → globals_in out r.count x ≡ globals x
        globals_are =
            globals_placed old rows new names known number t v ts w.read w.alone kept
            w.taken.formals_few out₀ f₁ r
            out f₂ room q rest own

        callees_are : (x : ℕ) → callee_of out r.count x ≡ callees x
        callees_are =
            callees_placed old rows new names known number t v ts w.read w.alone kept
            w.taken.formals_few out₀ f₁ r
            out f₂ room q rest own

        abbrev typing : Typed
        typing = function_typed ts (globals_spelled old rows new names) w.read untyped

        abbrev cells-done : Done
        cells-done = typed_rows ts out r.count b₁ untyped r.place 1 i₁ a₁

        abbrev laid_done : Done
        laid_done =
            typed_rows ts out r.count (over b (all_blocks none (g ∷ []))) untyped r.place 1
            (over i (untyped_items none (g ∷ []))) (over a (untyped_arguments (g ∷ [])))

        done-is : cells-done ≡ laid_done
        done-is = rw (b_is, i_is, a_is)

        ends_is : cells-done.end ≡ typing.end
        ends_is =
            ap (λ (d : Done). d.end) done-is
            ∙ ends ts names out r.count r.place g globals callees globals_are callees_are _ stand placed_fits
            i a b

        -- the verdict, by how typing ends
        verdict_typed : verdict ≡ after_typing w.read typing.table typing.end
        unfolding function_alone then_function
        verdict_typed = verdict_is ∙ rw w.alone

        module _ (c : Result Unit Refusal) (i₂ a₂ : List ℕ) (typed-rows : RowsHeld c i₂ a₂ cells-done) where
          refused_typing : (e : Refusal) → c ≡ Err e → verdict ≡ refuses e
          refused_typing e h =
              let k : typing.end ≡ Err e = sym ends_is ∙ sym typed-rows.answer ∙ h in
              verdict_typed ∙ ap (after_typing w.read typing.table) k

          pub types-refused : (e : Refusal) → c ≡ Err e → (s : Slices) → Whole (Err e) s
          types-refused e h s = refused-whole (refused_typing e h) s

          fine-end-is : c ≡ Ok tt → typing.end ≡ Ok tt
          fine-end-is h = sym ends_is ∙ sym typed-rows.answer ∙ h

          accepted_typing : c ≡ Ok tt → verdict ≡ accepts w.read typing.table
          accepted_typing h = verdict_typed ∙ ap (after_typing w.read typing.table) (fine-end-is h)

          written_are : c ≡ Ok tt
              → fronts (counts_from none (w.read ∷ [])) (slices f₂ i₂ a₂ b₁ p₁)
              ≡ verdict_slices ts names callees type (accepts w.read typing.table)
          unfolding counts_from FitsFrom
          written_are h =
              let k = subst (λ (x : Result Unit Refusal). HeldBy x i₂ a₂ cells-done) h typed-rows.held in
              let z = fine-end-is h in
              ap (fronts (counts_from none (g ∷ [])))
              (same-slices f-is
              (k.0 ∙ ap (λ (d : Done). d.items) done-is
              ∙ items-typed_are ts names out r.count r.place g globals callees globals_are callees_are _ stand
              placed_fits
              i a b z)
              (k.1 ∙ ap (λ (d : Done). d.arguments) done-is
              ∙ args_typed_are ts names out r.count r.place g globals callees globals_are callees_are _ stand
              placed_fits
              i a b z)
              b_is p_is)
              ∙ front-slices ts names (g ∷ []) (fits, tt) callees (typing.table ∷ []) f i a b p
              (sym (items-even ts names out r.count r.place g globals callees globals_are callees_are _ stand
              placed_fits i a b))
              (sym (args_even ts names out r.count r.place g globals callees globals_are callees_are _ stand
              placed_fits i a b))

          pub types-fine : c ≡ Ok tt → Whole (Ok n) (slices f₂ i₂ a₂ b₁ p₁)
          unfolding counts_from
          types-fine h =
              rw (accepted_typing h, w.counted) (
                refl,
                (
                  written_are h,
                  (omega arith, fits.items_few, fits.arguments_few, fits.blocks_few, fits.predecessors_few),
                ),
              )
