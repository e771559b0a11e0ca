-- Typing the cells in which a function is stored is typing the function: its blocks and their items are read back from
-- the records, its successors from the pairs of cells, and its formals from its row.
use Prim.Native.Nat.{ℕ, zero, suc, ◌+◌, ◌*◌, ◌≤◌, ◌<◌}
use mathlib.Core.Path.{◌≡◌, refl, ap, fun_ext}
use mathlib.Core.List.{List, [], ◌∷◌, ◌++◌}
use native.Mathlib.Omega.{arith}
use lib.ListN.{length, get_or, drop}
use Rattle.utils.specs.Bytes.{pad_to}
use Rattle.graph.specs.Walk.{block_order}
use Rattle.graph.specs.Records.{block_at, recorded}
use Rattle.graph.specs.declared.BlockRecord.{BlockRecord}
use Rattle.graph.proofs.Rows.{counted_is}
use Rattle.graph.proofs.Once.{order_permutation, order_below}
use Rattle.graph.proofs.Below.{order_depends_below}
use Rattle.graph.proofs.Callers.{blocks_few}
use Rattle.lexer.specs.Decoded.{Tok}
use Rattle.parser.specs.Runs.{type_cell}
use Rattle.body.specs.Body.{Item}
use Rattle.link.specs.Blocks.{Block, fresh}
use Rattle.body.specs.Shapes.{shapes_of}
use Rattle.link.specs.Edges.{successors}
use Rattle.parser.specs.declared.Variable.{Variable}
use Rattle.body.specs.Records.{items_cells, arguments_cells}
use Rattle.link.specs.Cells.{block_cells}
use Rattle.link.specs.Table.{leading}
use Rattle.link.proofs.Laws.{Below, Parted, blocks_partition}
use Rattle.link.proofs.Edges.{Thin, thin_items, places-few}
use Rattle.functions.specs.Functions.{Function, blocks_in}
use Rattle.functions.specs.Columns.{row_at}
use Rattle.functions.specs.Rows.{row_cells}
use Rattle.functions.specs.Answer.{edges_in}
use Rattle.functions.specs.Laid.{Fits}
use Rattle.functions.specs.declared.Counts.{Counts}
use Rattle.functions.proofs.Standing.{cell_there, rest_there, row-token, row-ret, row_base, row-blocks, row-formals}
use Rattle.functions.proofs.Standing.{row_at_most}
use Rattle.sema.specs.Typing.{Global}
use Rattle.sema.specs.Globals.{globals_in}
use Rattle.sema.specs.Blocks.{type_function_d, formals_in, blocks_at, in_order, type_row_d}
use Rattle.sema.specs.Program.{numbered, ordered_blocks}
use Rattle.sema.proofs.Back.{items_back, block_back, formals_back}

-- Block records. ----------------------------------------------------------------------------------------------------

abbrev no_block : Block
no_block = fresh [] 0

-- the record of block b, whose successors are s
pub record RecordStands (first : ℕ) (r : BlockRecord) (b : Block) (s : List ℕ) : Type 0 where
  pub begins : r.first ≡ first + b.first
  pub has_operations : r.operations ≡ b.operations
  pub count : r.successors ≡ length s
  pub one : r.to.0 ≡ get_or s 0 0
  pub another : r.other.0 ≡ get_or s 1 0

cell_is : (k j m : ℕ) (cells l : List ℕ) → m ≡ k + j → drop k cells ≡ l → get_or cells m 0 ≡ get_or l j 0
cell_is k j m cells l e h = rw e (cell_there k j cells l h)

module _ (first : ℕ) (all : List (List ℕ)) (cells rest : List ℕ) where
  pub record_there : (v : ℕ) (bs : List Block) (ss : List (List ℕ)) (used j at k : ℕ) → length ss ≡ length bs
      → v < length bs → k * 8 ≡ at + v * 8 → drop at cells ≡ block_cells first used j all ss bs ++ rest
      → RecordStands first (block_at cells k) (get_or bs v no_block) (get_or ss v [])
  unfolding block_cells
  record_there v [] ss used j at k e g q h = absurd (omega arith)
  record_there v (b ∷ bs) [] used j at k e g q h = absurd (omega arith)
  record_there zero (b ∷ bs) (s ∷ ss) used j at k e g q h =
      let l = block_cells first used j all (s ∷ ss) (b ∷ bs) ++ rest in
      record {
        begins = cell_is at 0 (k * 8) cells l (omega arith) h;
        has_operations = cell_is at 1 (k * 8 + 1) cells l (omega arith) h;
        count = cell_is at 2 (k * 8 + 2) cells l (omega arith) h;
        one = cell_is at 3 (k * 8 + 3) cells l (omega arith) h;
        another = cell_is at 4 (k * 8 + 4) cells l (omega arith) h;
      }
  record_there (suc v) (b ∷ bs) (s ∷ ss) used j at k e g q h =
      let l = block_cells first used j all (s ∷ ss) (b ∷ bs) ++ rest in
      record_there v bs ss _ (j + 1) (at + 8) k (omega arith) (omega arith) (omega arith)
      (rest_there at 8 cells l h)

-- Successors. -------------------------------------------------------------------------------------------------------

length-successors : (all bs : List Block) → length (successors all bs) ≡ length bs
unfolding successors
length-successors all [] = refl
length-successors all (b ∷ bs) = ap suc (length-successors all bs)

two-at_most : (all bs : List Block) (v : ℕ) → Thin bs → length (get_or (successors all bs) v []) ≤ 2
unfolding successors
two-at_most all [] v t = omega arith
two-at_most all (b ∷ bs) zero t = omega (arith, places-few all b.goes, t.0)
two-at_most all (b ∷ bs) (suc v) t = two-at_most all bs v t.1

-- Items of a block. -------------------------------------------------------------------------------------------------

parted_low : (bs : List Block) (start end : ℕ) → Parted start end bs → start ≤ end + 1
parted_low [] start end p = omega arith
parted_low (b ∷ bs) start end p =
    omega (arith, p.0, parted_low bs (b.first + b.operations + 1) end p.1)

parted_inside : (bs : List Block) (start end v : ℕ) → Parted start end bs → v < length bs
    → (get_or bs v no_block).first + (get_or bs v no_block).operations ≤ end
parted_inside [] start end v p h = absurd (omega arith)
parted_inside (b ∷ bs) start end zero p h =
    omega (arith, parted_low bs (b.first + b.operations + 1) end p.1)
parted_inside (b ∷ bs) start end (suc v) p h =
    parted_inside bs (b.first + b.operations + 1) end v p.1 (omega arith)

length_parts : (is : List Item) → length (shapes_of is) ≡ length is
unfolding shapes_of
length_parts [] = refl
length_parts (i ∷ is) = ap suc (length_parts is)

block_inside : (is : List Item) (v : ℕ) → v < length (blocks_in is)
    → (get_or (blocks_in is) v no_block).first + (get_or (blocks_in is) v no_block).operations ≤ length is
block_inside is v h =
    let ps = shapes_of is in
    omega (arith, parted_inside (blocks_in is) (leading ps) (length ps) v (blocks_partition ps) h, length_parts is)

-- The block order. --------------------------------------------------------------------------------------------------

all-below : (n : ℕ) (l : List ℕ) → ((k : ℕ) → k < length l → get_or l k 0 < n) → Below n l
all-below n [] h = tt
all-below n (x ∷ xs) h = (h 0 (omega arith), all-below n xs (λ k g. h (suc k) (omega arith)))

order-all-below : (g : ℕ → List ℕ) (n : ℕ) → Below n (block_order g n)
order-all-below g n =
    all-below n (block_order g n) (λ k h. order_below g n k (omega (arith, (order_permutation g n).long)))

module _ (is : List Item) (items args blocks : List ℕ) (first used base before : ℕ) (r2 r3 r4 : List ℕ)
    (items-stand : drop (first * 8) items ≡ items_cells used is ++ r2)
    (arguments-stand : drop (used * 2) args ≡ arguments_cells is ++ r3)
    (blocks-stand : drop (base * 8) blocks
    ≡ block_cells first before 0 (edges_in is) (edges_in is) (blocks_in is) ++ r4)
    (few : length (blocks_in is) ≤ 256) where
  block_stands : (v : ℕ) → v < length (blocks_in is)
      → RecordStands first (block_at blocks (base + v)) (get_or (blocks_in is) v no_block) (get_or (edges_in is) v [])
  block_stands v h =
      record_there first (edges_in is) blocks r4 v (blocks_in is) (edges_in is) before 0 (base * 8) (base + v)
      (length-successors (blocks_in is) (blocks_in is)) h (omega arith) blocks-stand

  pub successors_back : (v : ℕ) → v < length (blocks_in is) → recorded blocks base v ≡ get_or (edges_in is) v []
  successors_back v h =
      let b = block_stands v h in
      rw (b.count, b.one, b.another)
      (counted_is (get_or (edges_in is) v []) (two-at_most (blocks_in is) (blocks_in is) v (thin_items is)))

  pub blocks_back : (vs : List ℕ) → Below (length (blocks_in is)) vs
      → blocks_at items args blocks base vs ≡ numbered is (blocks_in is) vs
  unfolding blocks_at numbered
  blocks_back [] h = refl
  blocks_back (v ∷ vs) h =
      let b = get_or (blocks_in is) v no_block in
      let r = block_stands v h.0 in
      let all = items_back is items args first used r2 r3 items-stand arguments-stand in
      rw (
        r.begins,
        r.has_operations,
        block_back is items args first b.first b.operations all (block_inside is v h.0),
        blocks_back vs h.1,
      )

  pub in_order_lem : in_order items args blocks base (length (blocks_in is)) ≡ ordered_blocks is
  in_order_lem =
      let n = length (blocks_in is) in
      let g : ℕ → List ℕ = λ v. get_or (edges_in is) v [] in
      rw (blocks_few n few, order_depends_below (recorded blocks base) g n successors_back)
      (blocks_back (block_order g n) (order-all-below g n))

-- A function. -------------------------------------------------------------------------------------------------------

same_typed : (ts : List Tok) (g g' : ℕ → Global) (ret ret' token token' : ℕ) (vs vs' : List Variable)
    (bs bs' : List (List Item)) (t : List ℕ) → g ≡ g' → ret ≡ ret' → token ≡ token' → vs ≡ vs' → bs ≡ bs'
    → type_function_d ts g ret token vs bs t ≡ type_function_d ts g' ret' token' vs' bs' t
same_typed ts g g' ret ret' token token' vs vs' bs bs' t p q r s u = rw (p, q, r, s, u)

module _ (ts : List Tok) (names : List ℕ) (n : Counts) (f : Function) (rows items args blocks : List ℕ) (total : ℕ)
    (g : ℕ → Global) (t r1 r2 r3 r4 : List ℕ) where
  pub row_typed : ((name : ℕ) → globals_in rows total name ≡ g name)
      → drop (row_at n.functions) rows ≡ row_cells ts names f n.items n.blocks ++ r1
      → drop (n.items * 8) items ≡ items_cells n.arguments f.items ++ r2
      → drop (n.arguments * 2) args ≡ arguments_cells f.items ++ r3
      → drop (n.blocks * 8) blocks
      ≡ block_cells n.items n.predecessors 0 (edges_in f.items) (edges_in f.items) (blocks_in f.items) ++ r4
      → Fits n f
      → type_row_d ts rows total items args blocks n.functions t
      ≡ type_function_d ts g (type_cell f.head.ret) f.token f.head.formals (ordered_blocks f.items)
      (pad_to (length t) [])
  row_typed globals row records arguments links fits =
      let i = n.functions in
      let formals = f.head.formals in
      same_typed ts (globals_in rows total) g _ (type_cell f.head.ret) _ f.token (formals_in rows i) formals _
      (ordered_blocks f.items) (pad_to (length t) [])
      (fun_ext globals)
      (row-ret ts names f n.items n.blocks rows i r1 row)
      (row-token ts names f n.items n.blocks rows i r1 row)
      (rw (row_at_most ts names f n.items n.blocks rows i r1 row fits.formals_few)
      (formals_back formals rows _ r1 (row-formals ts names f n.items n.blocks rows i r1 row)))
      (rw (
        row_base ts names f n.items n.blocks rows i r1 row,
        row-blocks ts names f n.items n.blocks rows i r1 row,
      )
      (in_order_lem f.items items args blocks n.items n.arguments n.blocks n.predecessors r2 r3 r4 records
      arguments links fits.few_blocks))
