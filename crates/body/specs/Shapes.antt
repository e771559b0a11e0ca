-- What blocks are made of: of an item only this matters, that it is a label, or an operation with its token and the
-- labels that it goes to.
use Rattle.std.specs.Prelude.{ℕ, List, [], ◌∷◌}
use Rattle.pieces.specs.declared.Identifier.{Identifier}
use Rattle.body.specs.Body.{Item, label, plain, call, call_into, operation_token, targets}

-- A label's name and a block's number are both numbers here: `labels` and `goes` hold names, and `places` and all that
-- stands behind it (Edges.antt) holds block numbers.
pub data Shape : Type 0 where
  name : ℕ → Shape
  operation : ℕ → List ℕ → Shape

abbrev pub numbers_of : List Identifier → List ℕ
numbers_of [] = []
numbers_of (l ∷ ls) = l.0 ∷ numbers_of ls

abbrev pub shape_of : Item → Shape
shape_of (label w l) = name l.0
shape_of (plain o) = operation (operation_token o) (numbers_of (targets o))
shape_of (call w g xs) = operation w []
shape_of (call_into w v g xs) = operation w []

unfoldable pub shapes_of : List Item → List Shape
shapes_of [] = []
shapes_of (i ∷ is) = shape_of i ∷ shapes_of is

-- the labels among them
unfoldable pub names_in : List Shape → List ℕ
names_in [] = []
names_in (name l ∷ ps) = l ∷ names_in ps
names_in (operation w goes ∷ ps) = names_in ps
