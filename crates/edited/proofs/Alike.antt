-- What is written for a function in two readings that a move relates (`SimWritten`, crates/related/specs/Written.antt)
-- is seen alike by its columns: rows, items, arguments, blocks, predecessors.
use Prim.Native.Nat.{ℕ, zero, suc, ◌+◌, ◌*◌, ◌-◌, ◌<◌}
use mathlib.Core.Path.{◌≡◌, refl, sym, ap, ◌∙◌}
use mathlib.Core.List.{List, [], ◌∷◌, ◌++◌}
use mathlib.Core.Bool.{Bool, true, false}
use native.Mathlib.Omega.{arith}
use lib.ListN.{length, get_or}
use lib.Seq.{take-nil, drop-nil}
use Rattle.utils.specs.Bytes.{pick, pad_to}
use Rattle.lexer.specs.Decoded.{Tok}
use Rattle.pieces.specs.declared.Identifier.{Identifier}
use Rattle.parser.specs.Moved.{Move, SimName}
use Rattle.body.specs.Records.{first_cell, record_cells, arguments_count}
use Rattle.body.specs.declared.ItemRecord.{ItemRecord}
use Rattle.functions.specs.Functions.{Function, blocks_in}
use Rattle.functions.specs.Answer.{predecessors_in}
use Rattle.functions.specs.declared.Counts.{Counts}
use Rattle.elaborate.specs.Types.{is_call}
use Rattle.elaborate.proofs.Lists.{length-typed_arguments}
use Rattle.related.specs.Records.{SimRecord, SimItemCells, SimArgumentCells}
use Rattle.related.specs.Written.{Written, SimRow, SimBlockCells, SimWritten, written_with}
use Rattle.edited.specs.Reading.{Column, plain, Firsts, seen, seen_each, formal_columns, row_columns}
use Rattle.edited.specs.Reading.{item_table, item_columns, block_columns, variable_columns, records, first_argument}
use Rattle.edited.specs.Reading.{first_predecessor, Own, firsts_of, seen_own}
use Rattle.edited.specs.Standing.{own_written}
use Rattle.edited.proofs.Cells.{row-long}

-- Counts of two readings: names are spelled alike, and tokens, lines and places count from a moved first.
pub record Meets (m : Move) (o o' : Firsts) : Type 0 where
  pub spells : (x : ℕ) → x < m.names → o.spells (m.name x) ≡ o'.spells x
  pub token : o.token ≡ m.by + o'.token
  pub line : o.line ≡ m.down + o'.line
  pub place : o.place ≡ m.on + o'.place

-- a number from a first, both moved
pub moved : (k x a b : ℕ) → a ≡ k + b → k + x - a ≡ x - b
moved k x a b e = omega arith

-- whether a call is among these records
unfoldable calls : List (List ℕ) → Bool
calls [] = false
calls (r ∷ rs) = pick (is_call (get_or r 0 0)) true (calls rs)

later : (b c : Bool) → c ≡ true → pick b true c ≡ true
unfolding pick
later true c h = refl
later false c h = h

now : (b c : Bool) → b ≡ true → pick b true c ≡ true
unfolding pick
now b c h = rw h

-- as many cells of arguments, or of formals
pub as_many : {m : Move} {cells cells' : List ℕ} → SimArgumentCells m cells cells' → length cells ≡ length cells'
as_many SimArgumentCells.none = refl
as_many (SimArgumentCells.more x type s) = ap (λ (n : ℕ). suc (suc n)) (as_many s)

-- Arguments count from the first call's, wherever there is a call.
calls_none : (n : ℕ) → calls (records 8 n []) ≡ false
unfolding calls records is_call pick
calls_none zero = refl
calls_none (suc n) = calls_none n

module _ {m : Move} {runs : ℕ} where
  begin_one : {r r' : ItemRecord} → SimRecord m runs r r' → (c : Bool) (more more' : ℕ)
      → pick (is_call r'.kind) true c ≡ true → (c ≡ true → more ≡ runs + more')
      → pick (is_call r.kind) (first_cell r.last) more
      ≡ runs + pick (is_call r'.kind) (first_cell r'.last) more'
  unfolding is_call pick
  begin_one (SimRecord.label w x) c more more' e h = h e
  begin_one (SimRecord.binary w type left right d x y) c more more' e h = h e
  begin_one (SimRecord.unary w type left d x) c more more' e h = h e
  begin_one (SimRecord.const w type d) c more more' e h = h e
  begin_one (SimRecord.call w callee first count g) c more more' e h = refl
  begin_one (SimRecord.call_into w type callee first count d g) c more more' e h = refl
  begin_one (SimRecord.print w x) c more more' e h = h e
  begin_one (SimRecord.nop w) c more more' e h = h e
  begin_one (SimRecord.jump w x) c more more' e h = h e
  begin_one (SimRecord.branch w x y z) c more more' e h = h e
  begin_one (SimRecord.ret w) c more more' e h = h e
  begin_one (SimRecord.ret_value w x) c more more' e h = h e

  begin_alike : {cells cells' : List ℕ} → SimItemCells m runs cells cells' → (n : ℕ)
      → calls (records 8 n cells') ≡ true
      → first_argument (records 8 n cells) ≡ runs + first_argument (records 8 n cells')
  unfolding calls records first_argument
  begin_alike SimItemCells.none n e =
      absurd (let z = calls_none n in let k : true ≡ false = sym e ∙ z in let i : ◌≡◌ {A = ℕ} 0 1 = cc in omega arith)
  begin_alike (SimItemCells.more r s) zero e =
      absurd (let k : false ≡ true = e in let i : ◌≡◌ {A = ℕ} 0 1 = cc in omega arith)
  begin_alike (SimItemCells.more r s) (suc n) e = begin_one r _ _ _ e (λ c. begin_alike s n c)

module _ {m : Move} {o o' : Firsts} (q : Meets m o o') where
  spelt : {x x' : Identifier} → SimName m x x' → o.spells x.0 ≡ o'.spells x'.0
  spelt (SimName.renamed x h) = q.spells x h

  token-moved : (w : ℕ) → m.by + w - o.token ≡ w - o'.token
  token-moved w = moved m.by w o.token o'.token q.token

  -- cells behind the last column
  pub behind-alike : (cells : List ℕ) → seen o [] cells ≡ seen o' [] cells
  unfolding seen
  behind-alike [] = refl
  behind-alike (x ∷ cells) = rw (behind-alike cells)

  -- where there are no cells
  none_alike : (columns : ℕ → List Column) (w n : ℕ)
      → seen_each o columns (records w n []) ≡ seen_each o' columns (records w n [])
  unfolding seen_each records seen
  none_alike columns w zero = refl
  none_alike columns w (suc n) =
      rw (take-nil {A = ℕ} w, drop-nil {A = ℕ} w, none_alike columns w n)

  -- Items. ----------------------------------------------------------------------------------------------------------

  record_alike : {runs : ℕ} {r r' : ItemRecord} → SimRecord m runs r r'
      → (is_call r'.kind ≡ true → o.argument ≡ runs + o'.argument)
      → seen o (item_columns r.kind) (record_cells r) ≡ seen o' (item_columns r'.kind) (record_cells r')
  unfolding seen item_table is_call pick
  record_alike (SimRecord.label w x) h = rw (token-moved w, spelt x)
  record_alike (SimRecord.binary w type left right d x y) h = rw (token-moved w, spelt d, spelt x, spelt y)
  record_alike (SimRecord.unary w type left d x) h = rw (token-moved w, spelt d, spelt x)
  record_alike (SimRecord.const w type d) h = rw (token-moved w, spelt d)
  record_alike {runs} (SimRecord.call w callee first count g) h =
      rw (token-moved w, spelt g, moved runs first o.argument o'.argument (h refl))
  record_alike {runs} (SimRecord.call_into w type callee first count d g) h =
      rw (token-moved w, spelt d, spelt g, moved runs first o.argument o'.argument (h refl))
  record_alike (SimRecord.print w x) h = rw (token-moved w, spelt x)
  record_alike (SimRecord.nop w) h = rw (token-moved w)
  record_alike (SimRecord.jump w x) h = rw (token-moved w, spelt x)
  record_alike (SimRecord.branch w x y z) h = rw (token-moved w, spelt x, spelt y, spelt z)
  record_alike (SimRecord.ret w) h = rw (token-moved w)
  record_alike (SimRecord.ret_value w x) h = rw (token-moved w, spelt x)

  items-from : {runs : ℕ} {cells cells' : List ℕ} → SimItemCells m runs cells cells' → (n : ℕ)
      → (calls (records 8 n cells') ≡ true → o.argument ≡ runs + o'.argument)
      → seen_each o item_columns (records 8 n cells) ≡ seen_each o' item_columns (records 8 n cells')
  unfolding seen_each records calls
  items-from SimItemCells.none n h = none_alike item_columns 8 n
  items-from (SimItemCells.more r s) zero h = refl
  items-from (SimItemCells.more {r' = r'} {cells' = cells'} r s) (suc n) h =
      rw (
        record_alike r (λ e. h (now (is_call r'.kind) (calls (records 8 n cells')) e)),
        items-from s n (λ e. h (later (is_call r'.kind) (calls (records 8 n cells')) e)),
      )

  pub items_alike : {runs : ℕ} {cells cells' : List ℕ} → SimItemCells m runs cells cells' → (n : ℕ)
      → o.argument ≡ first_argument (records 8 n cells) → o'.argument ≡ first_argument (records 8 n cells')
      → seen_each o item_columns (records 8 n cells) ≡ seen_each o' item_columns (records 8 n cells')
  items_alike {runs} s n e e' =
      items-from s n (λ c. e ∙ begin_alike s n c ∙ ap (λ (k : ℕ). runs + k) (sym e'))

  -- Arguments and predecessors. -------------------------------------------------------------------------------------

  pub arguments-alike : {cells cells' : List ℕ} → SimArgumentCells m cells cells' → (n : ℕ)
      → seen_each o (λ _. variable_columns) (records 2 n cells) ≡ seen_each o' (λ _. variable_columns) (records 2 n cells')
  unfolding seen_each records seen
  arguments-alike SimArgumentCells.none n = none_alike (λ _. variable_columns) 2 n
  arguments-alike (SimArgumentCells.more x type s) zero = refl
  arguments-alike (SimArgumentCells.more x type s) (suc n) = rw (spelt x, arguments-alike s n)

  predecessor-alike : (r : List ℕ) → seen o (plain ∷ []) r ≡ seen o' (plain ∷ []) r
  unfolding seen
  predecessor-alike [] = refl
  predecessor-alike (x ∷ r) = rw (behind-alike r)

  pub predecessors-alike : (rs : List (List ℕ)) → seen_each o (λ _. plain ∷ []) rs ≡ seen_each o' (λ _. plain ∷ []) rs
  unfolding seen_each
  predecessors-alike [] = refl
  predecessors-alike (r ∷ rs) = rw (predecessor-alike r, predecessors-alike rs)

  -- Blocks. ---------------------------------------------------------------------------------------------------------

  blocks_from_lem : {items preds : ℕ} {cells cells' : List ℕ} → SimBlockCells items preds cells cells'
      → o.item ≡ items + o'.item → o.predecessor ≡ preds + o'.predecessor → (n : ℕ)
      → seen_each o (λ _. block_columns) (records 8 n cells) ≡ seen_each o' (λ _. block_columns) (records 8 n cells')
  unfolding seen_each records seen
  blocks_from_lem SimBlockCells.none e p n = none_alike (λ _. block_columns) 8 n
  blocks_from_lem (SimBlockCells.more first count goes one two from many dead s) e p zero = refl
  blocks_from_lem {items} {preds} (SimBlockCells.more first count goes one two from many dead s) e p (suc n) =
      rw (
        moved items first o.item o'.item e,
        moved preds from o.predecessor o'.predecessor p,
        blocks_from_lem s e p n,
      )

  -- predecessors count from those of the first block
  pub blocks-alike : {items preds : ℕ} {cells cells' : List ℕ} → SimBlockCells items preds cells cells'
      → o.item ≡ items + o'.item → (n : ℕ) → o.predecessor ≡ first_predecessor (records 8 n cells)
      → o'.predecessor ≡ first_predecessor (records 8 n cells')
      → seen_each o (λ _. block_columns) (records 8 n cells) ≡ seen_each o' (λ _. block_columns) (records 8 n cells')
  unfolding records seen_each
  blocks-alike SimBlockCells.none e n p p' = none_alike (λ _. block_columns) 8 n
  blocks-alike (SimBlockCells.more first count goes one two from many dead s) e zero p p' = refl
  blocks-alike {items} {preds} (SimBlockCells.more first count goes one two from many dead s) e (suc n) p p' =
      blocks_from_lem (SimBlockCells.more first count goes one two from many dead s) e
      (p ∙ ap (λ (k : ℕ). preds + k) (sym p')) (suc n)

  -- The row. --------------------------------------------------------------------------------------------------------

  formals-alike : {cells cells' : List ℕ} → SimArgumentCells m cells cells' → (n : ℕ) → length cells ≡ n * 2
      → (rest : List ℕ)
      → seen o (formal_columns n) (cells ++ rest) ≡ seen o' (formal_columns n) (cells' ++ rest)
  unfolding seen formal_columns
  formals-alike SimArgumentCells.none zero h rest = behind-alike rest
  formals-alike SimArgumentCells.none (suc n) h rest = absurd (omega (arith, h))
  formals-alike (SimArgumentCells.more x type s) zero h rest = absurd (omega (arith, h))
  formals-alike (SimArgumentCells.more x type s) (suc n) h rest =
      rw (spelt x, formals-alike s n (omega (arith, h)) rest)

  pub row-alike : {items blocks : ℕ} {r r' : List ℕ} → SimRow m items blocks r r' → length r ≡ 13 + get_or r 12 0 * 2
      → o.item ≡ items + o'.item → o.block ≡ blocks + o'.block
      → seen o (row_columns (get_or (pad_to 45 r) 12 0)) (pad_to 45 r)
      ≡ seen o' (row_columns (get_or (pad_to 45 r') 12 0)) (pad_to 45 r')
  unfolding seen
  row-alike {items} {blocks}
      (SimRow.row token last place long line ret type first count base many formals x s) h e b =
      rw (
        token-moved token,
        spelt x,
        token-moved last,
        moved m.on place o.place o'.place q.place,
        moved m.down line o.line o'.line q.line,
        moved items first o.item o'.item e,
        moved blocks base o.block o'.block b,
        as_many s,
        formals-alike s formals (omega (arith, h)) _,
      )

-- All of it. --------------------------------------------------------------------------------------------------------

-- what is known of a function's part of the slices, however it is typed
pub record Laid (f : Function) (w : Written) : Type 0 where
  pub long : length w.row ≡ 13 + get_or w.row 12 0 * 2
  pub token : get_or (pad_to 45 w.row) 0 0 ≡ f.token
  pub last : get_or (pad_to 45 w.row) 2 0 ≡ f.next - 1
  pub items : get_or (pad_to 45 w.row) 9 0 ≡ length f.items
  pub arguments : length w.arguments ≡ arguments_count f.items * 2
  pub blocks : get_or (pad_to 45 w.row) 11 0 ≡ length (blocks_in f.items)
  pub predecessors : w.predecessors ≡ predecessors_in f.items

pub laid : (ts : List Tok) (names : List ℕ) (callees : ℕ → ℕ) (table : List ℕ) (n : Counts) (f : Function)
    → Laid f (written_with ts names callees table n f)
laid ts names callees table n f =
    record {
      long = row-long ts names f n.items n.blocks;
      token = refl;
      last = refl;
      items = refl;
      arguments = length-typed_arguments table f.items;
      blocks = refl;
      predecessors = refl;
    }

-- the cells of two rows that the readings count by
pub record RowMeets (m : Move) (items blocks : ℕ) (r r' : List ℕ) : Type 0 where
  pub token : get_or r 0 0 ≡ m.by + get_or r' 0 0
  pub last : get_or r 2 0 ≡ m.by + get_or r' 2 0
  pub place : get_or r 3 0 ≡ m.on + get_or r' 3 0
  pub line : get_or r 5 0 ≡ m.down + get_or r' 5 0
  pub first : get_or r 8 0 ≡ items + get_or r' 8 0
  pub count : get_or r 9 0 ≡ get_or r' 9 0
  pub base : get_or r 10 0 ≡ blocks + get_or r' 10 0
  pub many : get_or r 11 0 ≡ get_or r' 11 0

pub row_meets : {m : Move} {items blocks : ℕ} {r r' : List ℕ} → SimRow m items blocks r r'
    → RowMeets m items blocks (pad_to 45 r) (pad_to 45 r')
row_meets (SimRow.row token last place long line ret type first count base many formals x s) =
    record {
      token = refl;
      last = refl;
      place = refl;
      line = refl;
      first = refl;
      count = refl;
      base = refl;
      many = refl;
    }

module _ {m : Move} {n : Counts} {w w' : Written} (s : SimWritten m n w w') {f f' : Function} (d : Laid f w)
    (d' : Laid f' w') (spells spells' : ℕ → List ℕ) (alike : (x : ℕ) → x < m.names → spells (m.name x) ≡ spells' x)
    (first first' : ℕ) (lines : first ≡ m.down + first') (tokens tokens' : List ℕ) where
  abbrev own : Own
  own = own_written tokens f w

  abbrev own' : Own
  own' = own_written tokens' f' w'

  abbrev o : Firsts
  o = firsts_of spells first own

  abbrev o' : Firsts
  o' = firsts_of spells' first' own'

  rows : RowMeets m n.items n.blocks own.row own'.row
  rows = row_meets s.rows

  pub meets : Meets m o o'
  meets = record { spells = alike; token = rows.token; line = lines; place = rows.place }

  pub row_same : (seen_own o own).row ≡ (seen_own o' own').row
  row_same = row-alike meets s.rows d.long rows.first rows.base

  pub items-same : (seen_own o own).items ≡ (seen_own o' own').items
  items-same =
      let k : ℕ = length f.items in
      let e : k ≡ length f'.items = sym d.items ∙ rows.count ∙ d'.items in
      items_alike meets s.items k refl (ap (λ (i : ℕ). first_argument (records 8 i w'.items)) (sym e))
      ∙ ap (λ (i : ℕ). seen_each o' item_columns (records 8 i w'.items)) e

  pub arguments-same : (seen_own o own).arguments ≡ (seen_own o' own').arguments
  arguments-same =
      let e : arguments_count f.items ≡ arguments_count f'.items =
      omega (arith, d.arguments, d'.arguments, as_many s.arguments) in
      arguments-alike meets s.arguments (arguments_count f.items)
      ∙ ap (λ (i : ℕ). seen_each o' (λ _. variable_columns) (records 2 i w'.arguments)) e

  pub blocks-same : (seen_own o own).blocks ≡ (seen_own o' own').blocks
  blocks-same =
      let k : ℕ = length (blocks_in f.items) in
      let e : k ≡ length (blocks_in f'.items) = sym d.blocks ∙ rows.many ∙ d'.blocks in
      blocks-alike meets s.blocks rows.first k refl
      (ap (λ (i : ℕ). first_predecessor (records 8 i w'.blocks)) (sym e))
      ∙ ap (λ (i : ℕ). seen_each o' (λ _. block_columns) (records 8 i w'.blocks)) e

  pub predecessors-same : (seen_own o own).predecessors ≡ (seen_own o' own').predecessors
  predecessors-same =
      let e : predecessors_in f.items ≡ predecessors_in f'.items =
      sym d.predecessors ∙ s.predecessors ∙ d'.predecessors in
      predecessors-alike meets own.predecessors
      ∙ ap (λ (i : ℕ). seen_each o' (λ _. plain ∷ []) (records 1 i w.predecessors)) (ap length e)
      ∙ ap (λ (l : List ℕ). seen_each o' (λ _. plain ∷ []) (records 1 (length (predecessors_in f'.items)) l))
      s.predecessors
