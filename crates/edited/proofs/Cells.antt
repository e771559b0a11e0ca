-- What `own_of` cuts out of the slices is what was written for that function.
use Prim.Native.Nat.{ℕ, zero, suc, ◌+◌, ◌*◌, ◌-◌, ◌≤◌, ◌<◌}
use mathlib.Core.Path.{◌≡◌, refl, sym, ap, ◌∙◌}
use mathlib.Core.List.{List, [], ◌∷◌, ◌++◌, append_assoc}
use native.Mathlib.Omega.{arith}
use native.Mathlib.Nat.{add-zero, zero-add}
use lib.ListN.{length, get_or, take, drop, replicate, length-append, length-replicate, length-drop}
use lib.Seq.{take_at, drop_at, take-append-le, drop-append-le}
use Rattle.utils.specs.Bytes.{pick, pad_to}
use Rattle.lexer.specs.Decoded.{Tok}
use Rattle.body.specs.Body.{Item, label, plain, call, call_into, arguments_in}
use Rattle.link.specs.Blocks.{Block}
use Rattle.link.specs.Edges.{successors, predecessors}
use Rattle.parser.specs.declared.Operation.TheVariants as O
use Rattle.body.specs.Records.{operation_record, record_of, record_cells, arguments_count}
use Rattle.link.specs.Cells.{block_cells, predecessor_cells}
use Rattle.functions.specs.Functions.{Function, blocks_in}
use Rattle.functions.specs.Columns.{row_at}
use Rattle.functions.specs.Rows.{row_cells}
use Rattle.functions.specs.Answer.{Slices, edges_in, predecessors_in, counts_with, counts_from}
use Rattle.functions.specs.Laid.{rows_cells, all_blocks, all_predecessors}
use Rattle.functions.specs.declared.Counts.{Counts}
use Rattle.functions.proofs.Seen.{length_variables}
use Rattle.functions.proofs.Laid.{length-block_cells, length-all_blocks, length-predecessors}
use Rattle.elaborate.specs.Types.{is_call, typed_last, typed_record, typed_items_cells, typed_arguments_cells}
use Rattle.elaborate.proofs.Lists.{length-typed_items, length-typed_arguments}
use Rattle.unit.specs.Outcome.{none, slices_of, all_items, all_arguments}
use Rattle.checker.specs.Check.{Checking}
use Rattle.edited.specs.Reading.{Own, records, records_from, first_argument, arguments_of, first_predecessor}
use Rattle.edited.specs.Reading.{predecessors_of, own_of}
use Rattle.related.specs.Written.{written_with}
use Rattle.edited.specs.Standing.{own_written, FewFormals, Stands}

-- Cutting. ----------------------------------------------------------------------------------------------------------

-- what stands behind the records is no matter
records_in : (w n : ℕ) (xs ys : List ℕ) → length xs ≡ n * w → records w n (xs ++ ys) ≡ records w n xs
unfolding records
records_in w zero xs ys h = refl
records_in w (suc n) xs ys h =
    let l : w ≤ length xs = omega arith in
    rw (take-append-le w xs ys l, drop-append-le w xs ys l)
    (ap (λ (rs : List (List ℕ)). take w xs ∷ rs)
    (records_in w n (drop w xs) ys (length-drop w xs ∙ omega arith)))

-- n records, from a record on
cut : (w first n : ℕ) (xs ys zs : List ℕ) → length xs ≡ first * w → length ys ≡ n * w
    → records_from w first n (xs ++ (ys ++ zs)) ≡ records w n ys
cut w first n xs ys zs h g = rw (drop_at xs (ys ++ zs) (first * w) h) (records_in w n ys zs g)

-- one row
pub length_pad : (n : ℕ) (l : List ℕ) → length l ≤ n → length (pad_to n l) ≡ n
length_pad n l h =
    omega (arith, length-append l (replicate (n - length l) 0), length-replicate {A = ℕ} (n - length l) 0)

pub row-long : (ts : List Tok) (names : List ℕ) (f : Function) (first base : ℕ)
    → length (row_cells ts names f first base) ≡ 13 + length f.head.formals * 2
row-long ts names f first base = omega (arith, length_variables f.head.formals)

-- The slices, split at a function. ----------------------------------------------------------------------------------

few-before : (fs gs : List Function) → FewFormals (fs ++ gs) → FewFormals fs
few-before [] gs h = tt
few-before (f ∷ fs) gs h = (h.0, few-before fs gs h.1)

few_there : (fs : List Function) (f : Function) (gs : List Function) → FewFormals (fs ++ (f ∷ gs))
    → length f.head.formals ≤ 16
few_there [] f gs h = h.0
few_there (g ∷ fs) f gs h = few_there fs f gs h.1

module _ (ts : List Tok) (names : List ℕ) where
  length-rows : (n : Counts) (fs : List Function) → FewFormals fs → length (rows_cells ts names n fs) ≡ length fs * 45
  unfolding rows_cells
  length-rows n [] h = refl
  length-rows n (f ∷ fs) h =
      let row : List ℕ = row_cells ts names f n.items n.blocks in
      let more : List ℕ = rows_cells ts names (counts_with n f) fs in
      omega (
        arith,
        length-append (pad_to 45 row) more,
        length_pad 45 row (omega (arith, row-long ts names f n.items n.blocks, h.0)),
        length-rows (counts_with n f) fs h.1,
      )

  rows_split : (n : Counts) (fs gs : List Function)
      → rows_cells ts names n (fs ++ gs) ≡ rows_cells ts names n fs ++ rows_cells ts names (counts_from n fs) gs
  unfolding rows_cells counts_from
  rows_split n [] gs = refl
  rows_split n (f ∷ fs) gs =
      rw (rows_split (counts_with n f) fs gs)
      (sym (append_assoc (pad_to 45 (row_cells ts names f n.items n.blocks))
      (rows_cells ts names (counts_with n f) fs) (rows_cells ts names (counts_from (counts_with n f) fs) gs)))

module _ (callees : ℕ → ℕ) where
  items-split : (n : Counts) (fs gs : List Function) (tables more : List (List ℕ)) → length tables ≡ length fs
      → all_items callees n (fs ++ gs) (tables ++ more)
      ≡ all_items callees n fs tables ++ all_items callees (counts_from n fs) gs more
  unfolding all_items counts_from
  items-split n [] gs [] more h = refl
  items-split n [] gs (t ∷ tables) more h = absurd (omega (arith, h))
  items-split n (f ∷ fs) gs [] more h = absurd (omega (arith, h))
  items-split n (f ∷ fs) gs (t ∷ tables) more h =
      rw (items-split (counts_with n f) fs gs tables more (omega (arith, h))) (simp append_assoc)

  length-items : (n : Counts) (fs : List Function) (tables : List (List ℕ)) → length tables ≡ length fs
      → n.items * 8 + length (all_items callees n fs tables) ≡ (counts_from n fs).items * 8
  unfolding all_items counts_from
  length-items n [] [] h = add-zero (n.items * 8)
  length-items n [] (t ∷ tables) h = absurd (omega (arith, h))
  length-items n (f ∷ fs) [] h = absurd (omega (arith, h))
  length-items n (f ∷ fs) (t ∷ tables) h =
      omega (
        arith,
        length-append (typed_items_cells t callees n.arguments f.items)
            (all_items callees (counts_with n f) fs tables),
        length-typed_items t callees n.arguments f.items,
        length-items (counts_with n f) fs tables (omega (arith, h)),
      )

arguments-split : (fs gs : List Function) (tables more : List (List ℕ)) → length tables ≡ length fs
    → all_arguments (fs ++ gs) (tables ++ more) ≡ all_arguments fs tables ++ all_arguments gs more
unfolding all_arguments
arguments-split [] gs [] more h = refl
arguments-split [] gs (t ∷ tables) more h = absurd (omega (arith, h))
arguments-split (f ∷ fs) gs [] more h = absurd (omega (arith, h))
arguments-split (f ∷ fs) gs (t ∷ tables) more h =
    rw (arguments-split fs gs tables more (omega (arith, h))) (simp append_assoc)

length-arguments : (n : Counts) (fs : List Function) (tables : List (List ℕ)) → length tables ≡ length fs
    → n.arguments * 2 + length (all_arguments fs tables) ≡ (counts_from n fs).arguments * 2
unfolding all_arguments counts_from
length-arguments n [] [] h = add-zero (n.arguments * 2)
length-arguments n [] (t ∷ tables) h = absurd (omega (arith, h))
length-arguments n (f ∷ fs) [] h = absurd (omega (arith, h))
length-arguments n (f ∷ fs) (t ∷ tables) h =
    omega (
      arith,
      length-append (typed_arguments_cells t f.items) (all_arguments fs tables),
      length-typed_arguments t f.items,
      length-arguments (counts_with n f) fs tables (omega (arith, h)),
    )

blocks-split : (n : Counts) (fs gs : List Function)
    → all_blocks n (fs ++ gs) ≡ all_blocks n fs ++ all_blocks (counts_from n fs) gs
unfolding all_blocks counts_from
blocks-split n [] gs = refl
blocks-split n (f ∷ fs) gs = rw (blocks-split (counts_with n f) fs gs) (simp append_assoc)

predecessors-split : (fs gs : List Function)
    → all_predecessors (fs ++ gs) ≡ all_predecessors fs ++ all_predecessors gs
unfolding all_predecessors
predecessors-split [] gs = refl
predecessors-split (f ∷ fs) gs = rw (predecessors-split fs gs) (simp append_assoc)

-- Where arguments and predecessors begin, and how many they are. ----------------------------------------------------

module _ (table : List ℕ) (callees : ℕ → ℕ) (used : ℕ) where
  -- an item's cells
  abbrev cells_as : Item → List ℕ
  cells_as i = record_cells (typed_record table callees (record_of used i))

  count-one : (i : Item) (more : ℕ)
      → pick (is_call (get_or (cells_as i) 0 0)) (get_or (cells_as i) 7 0 + more) more ≡ length (arguments_in i) + more
  unfolding pick is_call typed_record record_of operation_record typed_last
  count-one (label w l) more = sym (zero-add more)
  count-one (plain (O.BinaryOp w v x y)) more = sym (zero-add more)
  count-one (plain (O.UnaryOp w v x)) more = sym (zero-add more)
  count-one (plain (O.Const w v)) more = sym (zero-add more)
  count-one (plain (O.Jump w l)) more = sym (zero-add more)
  count-one (plain (O.Branch w x l m)) more = sym (zero-add more)
  count-one (plain (O.Ret w)) more = sym (zero-add more)
  count-one (plain (O.RetValue w x)) more = sym (zero-add more)
  count-one (plain (O.Print w x)) more = sym (zero-add more)
  count-one (plain (O.Nop w)) more = sym (zero-add more)
  count-one (call w g xs) more = refl
  count-one (call_into w v g xs) more = refl

  first_one : (i : Item) (rest more : ℕ) → 0 < length (arguments_in i) + rest
      → (0 < rest → more ≡ used + length (arguments_in i))
      → pick (is_call (get_or (cells_as i) 0 0)) (get_or (cells_as i) 6 0) more ≡ used
  unfolding pick is_call typed_record record_of operation_record typed_last
  first_one (label w l) rest more g h = h (omega arith) ∙ add-zero used
  first_one (plain (O.BinaryOp w v x y)) rest more g h = h (omega arith) ∙ add-zero used
  first_one (plain (O.UnaryOp w v x)) rest more g h = h (omega arith) ∙ add-zero used
  first_one (plain (O.Const w v)) rest more g h = h (omega arith) ∙ add-zero used
  first_one (plain (O.Jump w l)) rest more g h = h (omega arith) ∙ add-zero used
  first_one (plain (O.Branch w x l m)) rest more g h = h (omega arith) ∙ add-zero used
  first_one (plain (O.Ret w)) rest more g h = h (omega arith) ∙ add-zero used
  first_one (plain (O.RetValue w x)) rest more g h = h (omega arith) ∙ add-zero used
  first_one (plain (O.Print w x)) rest more g h = h (omega arith) ∙ add-zero used
  first_one (plain (O.Nop w)) rest more g h = h (omega arith) ∙ add-zero used
  first_one (call w g xs) rest more k h = refl
  first_one (call_into w v g xs) rest more k h = refl

module _ (table : List ℕ) (callees : ℕ → ℕ) where
  arguments-counted : (used : ℕ) (is : List Item)
      → arguments_of (records 8 (length is) (typed_items_cells table callees used is)) ≡ arguments_count is
  unfolding arguments_of records typed_items_cells arguments_count
  arguments-counted used [] = refl
  arguments-counted used (i ∷ is) =
      count-one table callees used i _
      ∙ ap (λ (k : ℕ). length (arguments_in i) + k) (arguments-counted (used + length (arguments_in i)) is)

  arguments_begin : (used : ℕ) (is : List Item) → 0 < arguments_count is
      → first_argument (records 8 (length is) (typed_items_cells table callees used is)) ≡ used
  unfolding first_argument records typed_items_cells arguments_count
  arguments_begin used [] h = absurd (omega arith)
  arguments_begin used (i ∷ is) h =
      first_one table callees used i (arguments_count is) _ h (arguments_begin (used + length (arguments_in i)) is)

predecessors-counted : (bs all : List Block) (first used j : ℕ) (tss : List (List ℕ))
    → predecessors_of (records 8 (length bs) (block_cells first used j tss (successors all bs) bs))
    ≡ length (predecessor_cells j tss bs)
unfolding predecessors_of records block_cells predecessor_cells successors
predecessors-counted [] all first used j tss = refl
predecessors-counted (b ∷ bs) all first used j tss =
    let here : List ℕ = predecessors j 0 tss in
    ap (λ (k : ℕ). length here + k) (predecessors-counted bs all first (used + length here) (j + 1) tss)
    ∙ sym (length-append here (predecessor_cells (j + 1) tss bs))

predecessors_begin : (bs all : List Block) (first used j : ℕ) (tss : List (List ℕ))
    → 0 < length (predecessor_cells j tss bs)
    → first_predecessor (records 8 (length bs) (block_cells first used j tss (successors all bs) bs)) ≡ used
unfolding records block_cells predecessor_cells successors
predecessors_begin [] all first used j tss h = absurd (omega arith)
predecessors_begin (b ∷ bs) all first used j tss h = refl

-- n records that begin at `first` wherever there are some
cut-from : (w first n found count : ℕ) (xs ys zs : List ℕ) → length xs ≡ first * w → length ys ≡ n * w
    → (0 < n → found ≡ first) → count ≡ n → records_from w found count (xs ++ (ys ++ zs)) ≡ records w n ys
unfolding records
cut-from w first zero found count xs ys zs h g e c = rw c
cut-from w first (suc n) found count xs ys zs h g e c = rw (c, e (omega arith)) (cut w first (suc n) xs ys zs h g)

-- The function's own records. ---------------------------------------------------------------------------------------

own_same : {r r' : List ℕ} {t t' i i' a a' b b' p p' : List (List ℕ)} → r ≡ r' → t ≡ t' → i ≡ i' → a ≡ a' → b ≡ b'
    → p ≡ p'
    → ◌≡◌ {A = Own} (record { row = r; tokens = t; items = i; arguments = a; blocks = b; predecessors = p })
    (record { row = r'; tokens = t'; items = i'; arguments = a'; blocks = b'; predecessors = p' })
own_same e₁ e₂ e₃ e₄ e₅ e₆ = rw (e₁, e₂, e₃, e₄, e₅, e₆)

module _ {k : Checking} {ts : List Tok} {callees : ℕ → ℕ} {before : List Function} {f : Function} {table : List ℕ}
    (s : Stands k ts callees before f table) where
  abbrev all : Slices
  all = slices_of ts k.names callees (before ++ (f ∷ s.behind)) (s.tables ++ (table ∷ s.more))

  abbrev n : Counts
  n = counts_from none before

  abbrev is : List Item
  is = f.items

  abbrev items : List (List ℕ)
  items = records 8 (length is) (typed_items_cells table callees n.arguments is)

  abbrev cells_of_blocks : List ℕ
  cells_of_blocks = block_cells n.items n.predecessors 0 (edges_in is) (edges_in is) (blocks_in is)

  abbrev blocks : List (List ℕ)
  blocks = records 8 (length (blocks_in is)) cells_of_blocks

  row_there : take 45 (drop (row_at (length before)) all.functions)
      ≡ pad_to 45 (row_cells ts k.names f n.items n.blocks)
  unfolding rows_cells
  row_there =
      let names : List ℕ = k.names in
      let row : List ℕ = row_cells ts names f n.items n.blocks in
      let rest : List ℕ = rows_cells ts names (counts_with n f) s.behind in
      let few = few_there before f s.behind s.few in
      let far : row_at (length before) ≡ suc (length before * 45) = omega arith in
      rw (far, rows_split ts names none before (f ∷ s.behind))
      (ap (take 45) (drop_at (rows_cells ts names none before) (pad_to 45 row ++ rest) (length before * 45)
      (length-rows ts names none before (few-before before (f ∷ s.behind) s.few)))
      ∙ take_at (pad_to 45 row) rest 45 (length_pad 45 row (omega (arith, row-long ts names f n.items n.blocks))))

  items_there : records_from 8 n.items (length is) all.items ≡ items
  unfolding all_items
  items_there =
      rw (items-split callees none before (f ∷ s.behind) s.tables (table ∷ s.more) s.even)
      (cut 8 n.items (length is) (all_items callees none before s.tables)
      (typed_items_cells table callees n.arguments is) (all_items callees (counts_with n f) s.behind s.more)
      (omega (arith, length-items callees none before s.tables s.even))
      (length-typed_items table callees n.arguments is))

  arguments_there : (found : List (List ℕ)) → found ≡ items
      → records_from 2 (first_argument found) (arguments_of found) all.arguments
      ≡ records 2 (arguments_count is) (typed_arguments_cells table is)
  unfolding all_arguments
  arguments_there found e =
      rw (e, arguments-split before (f ∷ s.behind) s.tables (table ∷ s.more) s.even)
      (cut-from 2 n.arguments (arguments_count is) _ _ (all_arguments before s.tables)
      (typed_arguments_cells table is) (all_arguments s.behind s.more)
      (omega (arith, length-arguments none before s.tables s.even)) (length-typed_arguments table is)
      (arguments_begin table callees n.arguments is) (arguments-counted table callees n.arguments is))

  blocks_there : records_from 8 n.blocks (length (blocks_in is)) all.blocks ≡ blocks
  unfolding all_blocks
  blocks_there =
      rw (blocks-split none before (f ∷ s.behind))
      (cut 8 n.blocks (length (blocks_in is)) (all_blocks none before) cells_of_blocks
      (all_blocks (counts_with n f) s.behind) (omega (arith, length-all_blocks none before))
      (length-block_cells (blocks_in is) (blocks_in is) n.items n.predecessors 0 (edges_in is)))

  predecessors_there : (found : List (List ℕ)) → found ≡ blocks
      → records_from 1 (first_predecessor found) (predecessors_of found) all.predecessors
      ≡ records 1 (length (predecessors_in is)) (predecessors_in is)
  unfolding all_predecessors
  predecessors_there found e =
      rw (e, predecessors-split before (f ∷ s.behind))
      (cut-from 1 n.predecessors (length (predecessors_in is)) _ _ (all_predecessors before) (predecessors_in is)
      (all_predecessors s.behind) (omega (arith, length-predecessors none before)) (omega arith)
      (predecessors_begin (blocks_in is) (blocks_in is) n.items n.predecessors 0 (edges_in is))
      (predecessors-counted (blocks_in is) (blocks_in is) n.items n.predecessors 0 (edges_in is)))

  -- WHAT IS CUT OUT is what was written
  pub own-cells : own_of k (length before)
      ≡ own_written k.tokens f (written_with ts k.names callees table (counts_from none before) f)
  own-cells =
      rw (s.unit, row_there)
      (own_same refl refl items_there (arguments_there _ items_there) blocks_there (predecessors_there _ blocks_there))
