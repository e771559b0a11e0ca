-- The worklist's answers. What `new` and `pop` give together, every block of the order, one after the other, is said in
-- proofs/Callers.antt.
use Rattle.std.specs.Prelude.{ℕ, ◌+◌, List, Option, Some, None, Bool, false, ltb, eqb, get_or}
use Rattle.std.proofs.Math.Seq.{slice}
use Rattle.utils.specs.Bytes.{pick}
use Rattle.utils.specs.Limits.{most_blocks}
use Rattle.graph.specs.declared.RPOWorklist.{RPOWorklist}
use Rattle.graph.specs.declared.BlockId.{BlockId}

-- So many blocks of the order were taken, of so many.
abbrev pub worklist : ℕ → ℕ → RPOWorklist
worklist taken blocks = record { taken = taken; blocks = blocks }

-- The blocks still to be taken of an order.
abbrev pub remaining : List ℕ → RPOWorklist → List ℕ
remaining order w = slice w.taken w.blocks order

-- The next block of an order, where there is one, and the worklist after it; an order has at most 256.
unfoldable pub popped : List ℕ → RPOWorklist → Option (BlockId × RPOWorklist)
popped order w =
    let next = Some (record { 0 = get_or order w.taken 0 }, worklist (w.taken + 1) w.blocks) in
    pick (ltb w.taken w.blocks) (pick (ltb w.taken most_blocks) next None) None

-- Whether block v's flag is set; there are at most 256.
unfoldable pub flagged : List ℕ → ℕ → Bool
flagged flags v = pick (ltb v most_blocks) (eqb (get_or flags v 0) 1) false
