-- The blocks that a body's items make (document 01, "Functions, labels, edges").
use Rattle.std.specs.Prelude.{ℕ, ◌+◌, List, [], ◌∷◌, ◌++◌}
use Rattle.body.specs.Shapes.{Shape, name, operation}

-- A block: the labels that name it, the index of its first operation among the items, how many operations it has, and
-- of the last of them the token and the labels that it goes to.
pub record Block : Type 0 where
  pub labels : List ℕ
  pub first : ℕ
  pub operations : ℕ
  pub token : ℕ
  pub goes : List ℕ

-- no operation yet; the next item is the one at this index
abbrev pub fresh : List ℕ → ℕ → Block
fresh labels at = record { labels = labels; first = at; operations = 0; token = 0; goes = [] }

-- one operation more
abbrev pub grown : Block → ℕ → List ℕ → Block
grown b token goes =
    record { labels = b.labels; first = b.first; operations = b.operations + 1; token = token; goes = goes }

-- From the item at this index on, within block b. Any later label opens a new block, so two labels in a row there leave
-- an empty block.
unfoldable pub blocks_from : ℕ → Block → List Shape → List Block
blocks_from at b [] = b ∷ []
blocks_from at b (name l ∷ ps) = b ∷ blocks_from (at + 1) (fresh (l ∷ []) (at + 1)) ps
blocks_from at b (operation w goes ∷ ps) = blocks_from (at + 1) (grown b w goes) ps

-- A label before the first operation names block 0.
unfoldable pub blocks_after : ℕ → List ℕ → List Shape → List Block
blocks_after at labels [] = fresh labels at ∷ []
blocks_after at labels (name l ∷ ps) = blocks_after (at + 1) (labels ++ (l ∷ [])) ps
blocks_after at labels (operation w goes ∷ ps) = blocks_from at (fresh labels at) (operation w goes ∷ ps)

abbrev pub blocks_of : List Shape → List Block
blocks_of ps = blocks_after 0 [] ps
