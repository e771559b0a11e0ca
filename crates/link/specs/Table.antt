-- Where a label's block is found: the Rust's LabelsToBlocks as the function's labels in text order, with how many of
-- them stand before the first operation. Those name block 0, and each later one opens the next block. That this is the
-- block which has the label among its own is `place_of-label` (proofs/).
use Rattle.std.specs.Prelude.{ℕ, ◌+◌, ◌-◌, List, [], ◌∷◌, ltb, eqb}
use Rattle.utils.specs.Bytes.{pick}
use Rattle.body.specs.Shapes.{Shape, name, operation}
use Rattle.link.specs.Edges.{Place, at, nowhere}

-- how many labels stand before the first operation
unfoldable pub leading : List Shape → ℕ
leading [] = 0
leading (name l ∷ ps) = leading ps + 1
leading (operation w goes ∷ ps) = 0

-- the block that label i opens or names
unfoldable pub block_of : ℕ → ℕ → ℕ
block_of before i = pick (ltb i before) 0 (i + 1 - before)

-- the block of the label with this name, among the labels from the one numbered i on
unfoldable pub label_place : ℕ → ℕ → List ℕ → ℕ → Place
label_place before i [] l = nowhere
label_place before i (x ∷ xs) l =
    let more = label_place before (i + 1) xs l in
    pick (eqb x l) (at (block_of before i)) more
