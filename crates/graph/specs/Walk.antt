-- Document 01, "Typing", the block order: "walk depth first from block 0, last successor first; number blocks as the
-- walk leaves them; highest first. Blocks the walk never meets follow by rising block number."
-- A graph is which successors each block has, in their order, and how many blocks there are. An edge to a block that
-- is not there is no edge. Definitions alone; their laws stand in proofs/.
use Rattle.std.specs.Prelude.{ℕ, zero, suc, ◌+◌, ◌≡◌, List, [], ◌∷◌, ◌++◌, Bool, eqb, get_or, set, replicate}
use Rattle.utils.specs.Bytes.{pick}

-- Where a walk is: for each block 1 once the walk has met it and 0 before, and the blocks it has left, the last first.
pub record Walk : Type 0 where
  pub met : List ℕ
  pub left : List ℕ

-- No block is met.
abbrev pub fresh : ℕ → Walk
fresh n = record { met = replicate n 0; left = [] }

-- Whether a block is still to be met. A block that is not there never is.
abbrev pub is_new : ℕ → Walk → Bool
is_new v s = eqb (get_or s.met v 1) 0

abbrev pub meet : ℕ → Walk → Walk
meet v s = record { met = set s.met v 1; left = s.left }

-- "number blocks as the walk leaves them; highest first": the block left last stands in front.
abbrev pub leave : ℕ → Walk → Walk
leave v s = record { met = s.met; left = v ∷ s.left }

-- "last successor first": on from each block of a list, the last first.
abbrev pub last_first : (ℕ → Walk → Walk) → List ℕ → Walk → Walk
last_first from [] s = s
last_first from (v ∷ vs) s = from v (last_first from vs s)

-- "walk depth first": a new block is met, the walk goes on from its successors, and leaves it. The first number bounds
-- how deep the walk goes; as many as there are blocks is enough (`depth_enough`, proofs/Depth.antt).
unfoldable pub walk_from : (ℕ → List ℕ) → ℕ → ℕ → Walk → Walk
walk_from successors zero v s = s
walk_from successors (suc deep) v s =
    let on = leave v (last_first (walk_from successors deep) (successors v) (meet v s)) in
    pick (is_new v s) on s

-- "from block 0"
unfoldable pub walked : (ℕ → List ℕ) → ℕ → Walk
walked successors n = walk_from successors n 0 (fresh n)

-- For each block 1 if the walk meets it, else 0.
unfoldable pub met_blocks : (ℕ → List ℕ) → ℕ → List ℕ
met_blocks successors n = (walked successors n).met

abbrev pub Met : (ℕ → List ℕ) → ℕ → ℕ → Type 0
Met successors n v = get_or (met_blocks successors n) v 0 ≡ 1

-- "Blocks the walk never meets .. by rising block number": of the blocks from k on, by whether each was met.
unfoldable pub never_met : ℕ → List ℕ → List ℕ
never_met k [] = []
never_met k (flag ∷ flags) =
    let more = never_met (k + 1) flags in
    pick (eqb flag 0) (k ∷ more) more

-- The block order.
unfoldable pub block_order : (ℕ → List ℕ) → ℕ → List ℕ
block_order successors n = (walked successors n).left ++ never_met 0 (met_blocks successors n)
