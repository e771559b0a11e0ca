-- What each function of this crate does, in terms of the cells that it reads.
use Rattle.std.specs.Prelude.{ℕ, zero, suc, ◌+◌, ◌-◌, ◌*◌, ◌≤◌, ◌≡◌, List, [], ◌∷◌, ◌++◌, Bool, true, false, ltb, eqb}
use Rattle.std.specs.Prelude.{length, get_or, take, Option, Some, None, Result, Ok, Err}
use Rattle.std.proofs.lemmas.List.Edits.{sets}
use Rattle.utils.specs.Bytes.{pick}
use Rattle.graph.specs.Records.{block_record, cells_of, block_at}
use Rattle.body.specs.Kinds as K
use Rattle.utils.specs.Limits.{most_labels}
use Rattle.graph.specs.declared.BlockId.{BlockId}
use Rattle.graph.specs.declared.BlockRecord.{BlockRecord}
use Rattle.body.specs.Shapes.{Shape, name, operation, names_in}
use Rattle.link.specs.Blocks.{Block}
use Rattle.link.specs.Edges.{Place, at, nowhere, missing, places, Resolved, fine, refused, predecessors}
use Rattle.parser.specs.declared.Refusal.{Refusal}
use Rattle.body.specs.Records.{record_at, parts_at}
use Rattle.body.specs.Room.{filled}
use Rattle.body.specs.declared.ItemRecord.{ItemRecord}
use Rattle.body.specs.declared.Last.{Last}
use Rattle.body.specs.declared.Last.TheVariants as L
use Rattle.link.specs.Table.{label_place, leading}
use Rattle.link.specs.Cells.{bit}
use Rattle.link.specs.declared.Goes.{Goes}

-- a block's cells
abbrev pub block_width : ℕ
block_width = 8

-- the slices' cells: 1,024 blocks, and two predecessors for each
abbrev pub blocks_size : ℕ
blocks_size = 8192

abbrev pub predecessors_size : ℕ
predecessors_size = 2048

-- What `link` asks: the items and the labels of a function as its body left them, and room for its blocks and edges.
pub record Ready (items : List ℕ) (first count : ℕ) (labels : List ℕ) (labelled : ℕ) (blocks : List ℕ) (base : ℕ)
    (preds : List ℕ) (used : ℕ) : Type 0 where
  pub items_there : (first + count) * 8 ≤ length items
  pub few-items : first + count ≤ 3072
  pub few-labels : labelled ≤ most_labels
  pub labels_there : labelled ≤ length labels
  pub labels_are : take labelled labels ≡ names_in (parts_at items first count)
  pub few_blocks : base + filled true (parts_at items first count) ≤ 1024
  pub blocks_there : blocks_size ≤ length blocks
  pub few-before : used ≤ base * 2
  pub predecessors_there : predecessors_size ≤ length preds

-- What cutting the items into blocks needs of it, with how many labels stand before the first operation.
pub record Cut (items : List ℕ) (first count : ℕ) (names : List ℕ) (before : ℕ) (blocks : List ℕ) (base : ℕ)
    : Type 0 where
  pub items_there : (first + count) * 8 ≤ length items
  pub few-items : first + count ≤ 3072
  pub names_are : names ≡ names_in (parts_at items first count)
  pub before_are : before ≡ leading (parts_at items first count)
  pub before-few : before ≤ count
  pub few_blocks : base + filled true (parts_at items first count) ≤ 1024
  pub blocks_there : blocks_size ≤ length blocks

-- Labels. -----------------------------------------------------------------------------------------------------------

abbrev pub block_id : ℕ → BlockId
block_id k = record { 0 = k }

abbrev pub found_of : Place → Option BlockId
found_of (at k) = Some (block_id k)
found_of nowhere = None

-- what follows a label that was found, and one that was not
unfoldable pub then_found : {A : Type 0} → Option BlockId → (BlockId → A) → A → A
then_found (Some k) found none = found k
then_found None found none = none

-- where the label of a `jmp` leads
unfoldable pub one_d : ℕ → List ℕ → ℕ → ℕ → Result Goes Refusal
one_d before names token l =
    then_found (found_of (label_place before 0 names l)) (λ x. Ok (record { count = 1; to = x; other = block_id 0 }))
    (Err (missing token l))

-- where those of a `br` lead, the first of them resolved first
unfoldable pub two_d : ℕ → List ℕ → ℕ → ℕ → ℕ → Result Goes Refusal
two_d before names token l m =
    then_found (found_of (label_place before 0 names l)) (λ x.
    then_found (found_of (label_place before 0 names m)) (λ y. Ok (record { count = 2; to = x; other = y }))
    (Err (missing token m)))
    (Err (missing token l))

abbrev pub leads_nowhere : Goes
leads_nowhere = record { count = 0; to = block_id 0; other = block_id 0 }

-- where a block leads whose last operation has this record: by its kind and its last two cells
unfoldable pub leads_by : ℕ → List ℕ → ℕ → ℕ → Last → Result Goes Refusal
leads_by before names kind token (L.Name l t) =
    pick (eqb kind K.jump) (one_d before names token l.0) (Ok leads_nowhere)
leads_by before names kind token (L.Labels l m) = two_d before names token l.0 m.0
leads_by before names kind token (L.Run first count) = Ok leads_nowhere

unfoldable pub goes_d : ℕ → List ℕ → ItemRecord → Result Goes Refusal
goes_d before names r = leads_by before names r.kind r.token r.last

-- Blocks. -----------------------------------------------------------------------------------------------------------

-- how many operations stand before the next label
unfoldable pub run : List Shape → ℕ
run [] = 0
run (name l ∷ ps) = 0
run (operation w goes ∷ ps) = run ps + 1

-- record k, once the block's labels are resolved; its predecessors and its dead mark are 0 until all blocks stand
abbrev pub put_goes : List ℕ → ℕ → ℕ → ℕ → Result Goes Refusal → List ℕ
put_goes cells k from n (Ok g) =
    sets cells (k * 8) (cells_of (block_record from n g.count g.to.0 g.other.0 0 0 0))
put_goes cells k from n (Err e) = cells

-- how many blocks there are after one that leads there
abbrev pub counted_by : ℕ → Result Goes Refusal → Result ℕ Refusal
counted_by n (Ok g) = Ok (n + 1)
counted_by n (Err e) = Err e

-- Record k after the block of the operations from `from` to before `stop`, which stands there then: `empty` where there
-- are none.
unfoldable pub added_d : ℕ → List ℕ → List ℕ → ℕ → ℕ → Refusal → ℕ → Result ℕ Refusal
added_d before names items from stop empty k =
    pick (eqb stop from) (Err empty) (counted_by k (goes_d before names (record_at items (stop - 1))))

unfoldable pub added_cells : ℕ → List ℕ → List ℕ → ℕ → ℕ → List ℕ → ℕ → List ℕ
added_cells before names items from stop cells k =
    pick (eqb stop from) cells
    (put_goes cells k from (stop - from) (goes_d before names (record_at items (stop - 1))))

abbrev pub closed_of : ℕ → Block → List ℕ → BlockRecord
closed_of first b s = block_record (first + b.first) b.operations (length s) (get_or s 0 0) (get_or s 1 0) 0 0 0

-- the records of these blocks from record k on; `all` are all blocks of the function
unfoldable pub put_closed : List Block → ℕ → List ℕ → ℕ → List Block → List ℕ
put_closed all first cells k [] = cells
put_closed all first cells k (b ∷ bs) =
    put_closed all first (sets cells (k * 8) (cells_of (closed_of first b (places all b.goes)))) (k + 1) bs

abbrev pub numbered_by : List Block → Resolved → Result ℕ Refusal
numbered_by bs fine = Ok (length bs)
numbered_by bs (refused e) = Err e

abbrev pub ClosedHeld : List Block → ℕ → ℕ → List ℕ → List ℕ → Result ℕ Refusal → Type 0
ClosedHeld all first base cells₀ cells (Ok n) = cells ≡ put_closed all first cells₀ base all
ClosedHeld all first base cells₀ cells (Err e) = Unit

-- Edges. ------------------------------------------------------------------------------------------------------------

-- whether successor i of a block that has so many of them is block j
unfoldable pub enters_d : ℕ → ℕ → ℕ → ℕ → Bool
enters_d count i target j = pick (ltb i count) (eqb target j) false

-- the successors of n blocks from block k on, of a graph
unfoldable pub links_from : (ℕ → List ℕ) → ℕ → ℕ → List (List ℕ)
links_from goes k zero = []
links_from goes k (suc n) = goes k ∷ links_from goes (k + 1) n

-- the predecessors of m blocks from block j on
unfoldable pub entries_from : ℕ → List (List ℕ) → ℕ → List ℕ
entries_from j all zero = []
entries_from j all (suc m) = predecessors j 0 all ++ entries_from (j + 1) all m

-- block j's dead mark where so many edges enter it
abbrev pub mark_of : ℕ → ℕ → ℕ
mark_of j n = bit (pick (eqb j 0) false (eqb n 0))

-- block j's record with its predecessors, n of them from `used` on, and the dead mark
abbrev pub entered_by : BlockRecord → ℕ → ℕ → ℕ → BlockRecord
entered_by b j used n =
    block_record b.first b.operations b.successors b.to.0 b.other.0 used n (mark_of j n)

-- the records from record k on of m blocks from block j on, each with them
unfoldable pub put_entered : ℕ → ℕ → List (List ℕ) → List ℕ → ℕ → ℕ → List ℕ
put_entered j used all cells k zero = cells
put_entered j used all cells k (suc m) =
    put_entered (j + 1) (used + length (predecessors j 0 all)) all
    (sets cells (k * 8) (cells_of (entered_by (block_at cells k) j used (length (predecessors j 0 all))))) (k + 1) m
