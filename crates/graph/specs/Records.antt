-- Where a function's graph comes from: the block records that a caller lends, eight cells each (docs/INTERFACE.md).
-- Successors are block numbers counted from the function's first block. Whatever the cells hold, they are a graph: a
-- count above 2 is 2, a cell past the end is 0, a function has at most 256 blocks, and an edge to a block that is not
-- there is no edge.
use Rattle.std.specs.Prelude.{ℕ, zero, suc, ◌+◌, ◌*◌, ◌≤◌, ◌<◌, ◌≡◌, List, [], ◌∷◌, ltb, get_or}
use Rattle.utils.specs.Bytes.{pick}
use Rattle.utils.specs.Limits.{most_blocks}
use Rattle.graph.specs.declared.BlockRecord.{BlockRecord}

abbrev pub block_record : ℕ → ℕ → ℕ → ℕ → ℕ → ℕ → ℕ → ℕ → BlockRecord
block_record first operations successors to other entries predecessors dead =
    record {
      first = first;
      operations = operations;
      successors = successors;
      to = record { 0 = to };
      other = record { 0 = other };
      entries = entries;
      predecessors = predecessors;
      dead = dead;
    }

-- a record's cells, and the record that the cells hold at an index
abbrev pub cells_of : BlockRecord → List ℕ
cells_of b =
    b.first ∷ b.operations ∷ b.successors ∷ b.to.0 ∷ b.other.0 ∷ b.entries ∷ b.predecessors ∷ b.dead ∷ []

abbrev pub block_at : List ℕ → ℕ → BlockRecord
block_at cells i =
    block_record
    (get_or cells (i * 8) 0)
    (get_or cells (i * 8 + 1) 0)
    (get_or cells (i * 8 + 2) 0)
    (get_or cells (i * 8 + 3) 0)
    (get_or cells (i * 8 + 4) 0)
    (get_or cells (i * 8 + 5) 0)
    (get_or cells (i * 8 + 6) 0)
    (get_or cells (i * 8 + 7) 0)

-- "each block has a pair of successor cells and a count"
abbrev pub counted : ℕ → ℕ → ℕ → List ℕ
counted zero a b = []
counted (suc zero) a b = a ∷ []
counted (suc (suc k)) a b = a ∷ b ∷ []

abbrev pub successors_of : BlockRecord → List ℕ
successors_of b = counted b.successors b.to.0 b.other.0

-- The successors of block v of a function whose first block has the record `first`.
abbrev pub recorded : List ℕ → ℕ → ℕ → List ℕ
recorded cells first v = successors_of (block_at cells (first + v))

-- The same, as rows of two cells and the counts beside them hold them.
abbrev pub row_of : List (List ℕ) → List ℕ → ℕ → List ℕ
row_of rows counts v = counted (get_or counts v 0) (get_or (get_or rows v []) 0 0) (get_or (get_or rows v []) 1 0)

-- The rows of the n blocks from the record `first` on hold their records' pairs and counts; the others are as before.
pub record Loaded (cells : List ℕ) (first n : ℕ) (rows₀ rows : List (List ℕ)) (counts₀ counts : List ℕ) : Type 0 where
  pub pairs : (v : ℕ) → v < n
      → get_or rows v [] ≡ (block_at cells (first + v)).to.0 ∷ (block_at cells (first + v)).other.0 ∷ []
  pub counted_so : (v : ℕ) → v < n → get_or counts v 0 ≡ (block_at cells (first + v)).successors
  pub other_pairs : (v : ℕ) → n ≤ v → get_or rows v [] ≡ get_or rows₀ v []
  pub other_counts : (v : ℕ) → n ≤ v → get_or counts v 0 ≡ get_or counts₀ v 0

-- How many blocks are looked at, of so many.
unfoldable pub at_most256 : ℕ → ℕ
at_most256 count = pick (ltb most_blocks count) most_blocks count
