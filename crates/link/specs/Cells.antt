-- A function's block records, eight cells each (docs/INTERFACE.md): the index of its first operation among all items,
-- how many operations it has, how many successors and the pair of them, where its predecessors begin, how many they
-- are, and the dead mark. Blocks are numbered from the function's first.
use Rattle.std.specs.Prelude.{ℕ, ◌+◌, ◌*◌, ◌≡◌, List, [], ◌∷◌, ◌++◌, Bool, true, false, length, get_or, Result, Ok, Err}
use Rattle.parser.specs.declared.Refusal.{Refusal}
use Rattle.std.proofs.lemmas.List.Edits.{sets}
use Rattle.graph.specs.Records.{block_record, cells_of}
use Rattle.graph.specs.declared.BlockRecord.{BlockRecord}
use Rattle.body.specs.Shapes.{Shape}
use Rattle.link.specs.Blocks.{Block, blocks_of}
use Rattle.link.specs.Edges.{Resolved, fine, refused, resolve_d, successors, predecessors, is_dead}
use Rattle.link.specs.declared.Linked.{Linked}

abbrev pub bit : Bool → ℕ
bit true = 1
bit false = 0

-- block j's record, where the function's items begin at `first` and block j's predecessors at `used`; `s` are its
-- successors, `all` those of all blocks
abbrev pub linked_record : ℕ → ℕ → ℕ → List (List ℕ) → List ℕ → Block → BlockRecord
linked_record first used j all s b =
    block_record (first + b.first) b.operations (length s) (get_or s 0 0) (get_or s 1 0)
    used (length (predecessors j 0 all)) (bit (is_dead j all))

-- the cells of these blocks from block j on, whose successors are `goes`
unfoldable pub block_cells : ℕ → ℕ → ℕ → List (List ℕ) → List (List ℕ) → List Block → List ℕ
block_cells first used j all goes [] = []
block_cells first used j all [] (b ∷ bs) = []
block_cells first used j all (s ∷ ss) (b ∷ bs) =
    cells_of (linked_record first used j all s b)
    ++ block_cells first (used + length (predecessors j 0 all)) (j + 1) all ss bs

-- the predecessors of these blocks, from block j on, one block's after the other's
unfoldable pub predecessor_cells : ℕ → List (List ℕ) → List Block → List ℕ
predecessor_cells j all [] = []
predecessor_cells j all (b ∷ bs) = predecessors j 0 all ++ predecessor_cells (j + 1) all bs

-- how many blocks and predecessors there are, or the refusal; `name` is the function's name token
abbrev pub linked_by : List Block → Resolved → Result Linked Refusal
linked_by bs fine =
    Ok (record {
      blocks = length bs;
      predecessors = length (predecessor_cells 0 (successors bs bs) bs);
    })
linked_by bs (refused e) = Err e

unfoldable pub link_d : ℕ → List Shape → Result Linked Refusal
link_d name ps = linked_by (blocks_of ps) (resolve_d name (blocks_of ps))

-- The records stand from the record `base` on, the predecessors from `used` on. A refusal says nothing of them.
pub record Linking (ps : List Shape) (first base used : ℕ) (blocks₀ blocks predecessors₀ preds : List ℕ) : Type 0 where
  pub blocks_are : blocks ≡ sets blocks₀ (base * 8)
      (block_cells first used 0 (successors (blocks_of ps) (blocks_of ps)) (successors (blocks_of ps) (blocks_of ps))
      (blocks_of ps))
  pub predecessors_are : preds ≡ sets predecessors₀ used
      (predecessor_cells 0 (successors (blocks_of ps) (blocks_of ps)) (blocks_of ps))

abbrev pub LinkHeld : (ps : List Shape) (first base used : ℕ) (blocks₀ blocks predecessors₀ preds : List ℕ)
    → Result Linked Refusal → Type 0
LinkHeld ps first base used blocks₀ blocks predecessors₀ preds (Ok l) =
    Linking ps first base used blocks₀ blocks predecessors₀ preds
LinkHeld ps first base used blocks₀ blocks predecessors₀ preds (Err e) = Unit
