-- Which parts are in which block. From front to back, the parts are the blocks' labels and operations and nothing else:
-- so every operation is in exactly one block, and a part that is in no block is a label.
-- A function's items make one part each, in their order (`parts_of`), so the same is true of items.
use Prim.Native.Nat.{ℕ, ◌+◌}
use mathlib.Core.Path.{◌≡◌, refl, ap}
use mathlib.Core.List.{List, [], ◌∷◌, ◌++◌, map, append-nil, append_assoc}
use native.Mathlib.Omega.{arith}
use lib.ListN.{length, length-append}
use Rattle.body.specs.Shapes.{Shape, name, operation, names_in}
use Rattle.link.specs.Blocks.{Block, fresh, grown, blocks_from, blocks_after, blocks_of}
use Rattle.link.specs.Table.{leading}

-- A block's token, and the labels that it goes to, are those of the last of its operations, if it has one.
pub data Ends (b : Block) : List Shape → Type 0 where
  empty : b.token ≡ 0 → b.goes ≡ [] → Ends b []
  ending : (front : List Shape) → Ends b (front ++ (operation b.token b.goes ∷ []))

-- Block b has these labels and these operations, the first of them at index `at`.
pub record Holds (labels : List ℕ) (at : ℕ) (ops : List Shape) (b : Block) : Type 0 where
  pub named : b.labels ≡ labels
  pub begins : b.first ≡ at
  pub counted : b.operations ≡ length ops
  pub no_label : names_in ops ≡ []
  pub ends : Ends b ops

-- The parts from index `at` on: the operations of a block that has these labels; then, for each later block, its one
-- label and its operations.
pub data Blocked : List ℕ → ℕ → List Shape → List Block → Type 0 where
  final : {labels : List ℕ} {at : ℕ} {ops : List Shape} {b : Block} → Holds labels at ops b
      → Blocked labels at ops (b ∷ [])
  followed : {labels : List ℕ} {at l : ℕ} {ops ps : List Shape} {b : Block} {bs : List Block} → Holds labels at ops b
      → Blocked (l ∷ []) (at + length ops + 1) ps bs → Blocked labels at (ops ++ (name l ∷ ps)) (b ∷ bs)

-- All parts: block 0's labels, which are the leading ones up to the first operation, then the rest.
pub record Partition (ps : List Shape) (bs : List Block) : Type 0 where
  pub labels : List ℕ
  pub rest : List Shape
  pub whole : ps ≡ map name labels ++ rest
  pub all_leading : leading rest ≡ 0
  pub blocked : Blocked labels (length labels) rest bs

-- The proof goes along the parts with what was read so far: leading labels, then the open block's operations.

holds_none : (labels : List ℕ) (at here : ℕ) → here ≡ at → Holds labels at [] (fresh labels here)
unfolding names_in
holds_none labels at here e =
    record { named = refl; begins = e; counted = refl; no_label = refl; ends = empty refl refl }

no_label-more : (ops : List Shape) (w : ℕ) (goes : List ℕ) → names_in ops ≡ []
    → names_in (ops ++ (operation w goes ∷ [])) ≡ []
unfolding names_in
no_label-more [] w goes h = refl
no_label-more (name l ∷ ops) w goes h = absurd (cc)
no_label-more (operation v g ∷ ops) w goes h = no_label-more ops w goes h

holds_more : (labels : List ℕ) (at : ℕ) (ops : List Shape) (b : Block) (w : ℕ) (goes : List ℕ) → Holds labels at ops b
    → Holds labels at (ops ++ (operation w goes ∷ [])) (grown b w goes)
holds_more labels at ops b w goes h =
    record {
      named = h.named;
      begins = h.begins;
      counted = omega (arith, h.counted, length-append ops (operation w goes ∷ []));
      no_label = no_label-more ops w goes h.no_label;
      ends = ending ops;
    }

blocked_from : (ps ops : List Shape) (labels : List ℕ) (at here : ℕ) (b : Block) → Holds labels at ops b
    → here ≡ at + length ops → Blocked labels at (ops ++ ps) (blocks_from here b ps)
unfolding blocks_from
blocked_from [] ops labels at here b h e = rw (append-nil ops) (final h)
blocked_from (name l ∷ ps) ops labels at here b h e =
    let none = holds_none (l ∷ []) (at + length ops + 1) (here + 1) (omega arith) in
    followed h (blocked_from ps [] (l ∷ []) (at + length ops + 1) (here + 1) _ none (omega arith))
blocked_from (operation w goes ∷ ps) ops labels at here b h e =
    let o = operation w goes ∷ [] in
    rw (← append_assoc ops o ps)
    (blocked_from ps (ops ++ o) labels at (here + 1) (grown b w goes) (holds_more labels at ops b w goes h)
    (omega (arith, length-append ops o)))

name-moves : (labels : List ℕ) (l : ℕ) (ps : List Shape)
    → map name labels ++ (name l ∷ ps) ≡ map name (labels ++ (l ∷ [])) ++ ps
name-moves [] l ps = refl
name-moves (k ∷ labels) l ps = ap (λ qs. name k ∷ qs) (name-moves labels l ps)

partition_after : (ps : List Shape) (labels : List ℕ) (here : ℕ) → here ≡ length labels
    → Partition (map name labels ++ ps) (blocks_after here labels ps)
unfolding blocks_after leading
partition_after [] labels here e =
    record {
      labels = labels;
      rest = [];
      whole = refl;
      all_leading = refl;
      blocked = final (holds_none labels (length labels) here e);
    }
partition_after (name l ∷ ps) labels here e =
    rw (name-moves labels l ps)
    (partition_after ps (labels ++ (l ∷ [])) (here + 1) (omega (arith, length-append labels (l ∷ []))))
partition_after (operation w goes ∷ ps) labels here e =
    record {
      labels = labels;
      rest = operation w goes ∷ ps;
      whole = refl;
      all_leading = refl;
      blocked =
          blocked_from (operation w goes ∷ ps) [] labels (length labels) here _
          (holds_none labels (length labels) here e) (omega arith);
    }

-- Blocks partition the parts.
pub blocks_are : (ps : List Shape) → Partition ps (blocks_of ps)
blocks_are ps = partition_after ps [] 0 refl
