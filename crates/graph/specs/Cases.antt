-- Small graphs with their orders and the blocks met, and the edges of each rule. One table with one claim, `all_right`,
-- shown by computation.
use Rattle.std.specs.Prelude.{ℕ, zero, suc, ◌+◌, ◌≡◌, refl, List, [], ◌∷◌, ◌++◌, Bool, true, false, length, get_or, replicate}
use Rattle.utils.specs.Bytes.{pick, same_bytes}
use Rattle.graph.specs.Walk.{walk_from, walked, met_blocks, never_met, block_order}
use Rattle.graph.specs.Records.{recorded, at_most256}

-- To unfold this is to unfold the whole definition.
unfoldable pub opened : ℕ
unfolding pick same_bytes walk_from walked met_blocks never_met block_order at_most256
opened = 0

-- Rows. -------------------------------------------------------------------------------------------------------------

-- A graph, what its order must be, and which blocks must be met.
pub record Case : Type 0 where
  pub successors : ℕ → List ℕ
  pub blocks : ℕ
  pub order : List ℕ
  pub met : List ℕ

-- a graph by its blocks' successors
graph : List (List ℕ) → List ℕ → List ℕ → Case
graph g order met = record { successors = λ v. get_or g v []; blocks = length g; order = order; met = met }

joined : List (List ℕ) → List ℕ
joined [] = []
joined (x ∷ xs) = x ++ joined xs

-- a function by block records, its first block's record and its count of blocks
records : List (List ℕ) → ℕ → ℕ → List ℕ → List ℕ → Case
records rs first count order met =
    record { successors = recorded (joined rs) first; blocks = at_most256 count; order = order; met = met }

-- a record with so many successors, and these
block : ℕ → ℕ → ℕ → List ℕ
block count a b = 9 ∷ 9 ∷ count ∷ a ∷ b ∷ 9 ∷ 9 ∷ 9 ∷ []

-- n numbers from k on, rising
rising : ℕ → ℕ → List ℕ
rising k zero = []
rising k (suc n) = k ∷ rising (k + 1) n

-- The table. --------------------------------------------------------------------------------------------------------

cases : List Case
cases =
    -- A diamond: last successor first, so the first successor's side stands first.
    graph ((2 ∷ 1 ∷ []) ∷ (3 ∷ []) ∷ (3 ∷ []) ∷ [] ∷ []) (0 ∷ 2 ∷ 1 ∷ 3 ∷ []) (1 ∷ 1 ∷ 1 ∷ 1 ∷ []) ∷
    -- Blocks never met, by rising number, whatever they lead to.
    graph ((4 ∷ []) ∷ (0 ∷ []) ∷ [] ∷ (1 ∷ 2 ∷ []) ∷ [] ∷ []) (0 ∷ 4 ∷ 1 ∷ 2 ∷ 3 ∷ []) (1 ∷ 0 ∷ 0 ∷ 0 ∷ 1 ∷ []) ∷
    -- An edge to a block that is not there is no edge.
    graph ((7 ∷ 1 ∷ []) ∷ (2 ∷ []) ∷ []) (0 ∷ 1 ∷ []) (1 ∷ 1 ∷ []) ∷
    -- Block records: a count above 2 is 2. A cell past the end is 0.
    records (block 3 2 1 ∷ block 4294967295 0 2 ∷ []) 0 3 (0 ∷ 1 ∷ 2 ∷ []) (1 ∷ 1 ∷ 1 ∷ []) ∷
    records ((9 ∷ 9 ∷ 2 ∷ 1 ∷ []) ∷ []) 0 2 (0 ∷ 1 ∷ []) (1 ∷ 1 ∷ []) ∷
    -- At most 256 blocks.
    records [] 0 257 (rising 0 256) (1 ∷ replicate 255 0) ∷
    []

-- every part alike
right_case : Case → Bool
right_case c =
    pick (same_bytes (block_order c.successors c.blocks) c.order)
    (same_bytes (met_blocks c.successors c.blocks) c.met) false

right : List Case → Bool
right [] = true
right (c ∷ cs) = let more = right cs in pick (right_case c) more false

all_right : right cases ≡ true
unfolding opened right right_case cases graph records joined block rising
all_right = refl
