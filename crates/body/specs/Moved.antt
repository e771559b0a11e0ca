-- Two readings of one body: related items (crates/parser/specs/Moved.antt has the relation of tokens and names).
use Rattle.std.specs.Prelude.{ℕ, ◌+◌, ◌≤◌, ◌<◌, List, Result, Ok, Err}
use Rattle.pieces.specs.declared.Identifier.{Identifier}
use Rattle.body.specs.Body.{Item, ItemAt, Body}
use Rattle.body.specs.Shapes.{Shape}
use Rattle.parser.specs.declared.Refusal.{Refusal}
use Rattle.parser.specs.declared.Variable.{Variable}
use Rattle.parser.specs.declared.Operation.{Operation}
use Rattle.parser.specs.Moved.{Move, SimName, SimE, SimV, SimO, Each, SimNumber}

-- the same item, with its token, one of the first n, moved and its names renamed
pub data SimItem (m : Move) (n : ℕ) : Item → Item → Type 0 where
  label : (w : ℕ) {l l' : Identifier} → SimName m l l' → w < n
      → SimItem m n (Item.label (m.by + w) l) (Item.label w l')
  plain : {o o' : Operation} → SimO m n o o' → SimItem m n (Item.plain o) (Item.plain o')
  call : (w : ℕ) {g g' : Identifier} {xs xs' : List Variable} → SimName m g g' → Each (SimV m) xs xs' → w < n
      → SimItem m n (Item.call (m.by + w) g xs) (Item.call w g' xs')
  call_into : (w : ℕ) {v v' : Variable} {g g' : Identifier} {xs xs' : List Variable}
      → SimV m v v' → SimName m g g' → Each (SimV m) xs xs' → w < n
      → SimItem m n (Item.call_into (m.by + w) v g xs) (Item.call_into w v' g' xs')

pub data SimItemAt (m : Move) (l : ℕ) : ItemAt → ItemAt → Type 0 where
  item : {i i' : Item} → SimItem m l i i' → (at : ℕ) → at < l
      → SimItemAt m l (ItemAt.item i (m.by + at)) (ItemAt.item i' at)
  refused : (e e' : Refusal) → SimE m l e e' → SimItemAt m l (ItemAt.refused e) (ItemAt.refused e')

-- where the closing brace, which may be the last token, was asked for; the index behind it isn't 0
pub data SimBrace (m : Move) (l : ℕ) : Result ℕ Refusal → Result ℕ Refusal → Type 0 where
  at : (i : ℕ) → i ≤ l → 1 ≤ i → SimBrace m l (Ok (m.by + i)) (Ok i)
  refused : (e e' : Refusal) → SimE m l e e' → SimBrace m l (Err e) (Err e')

pub record SimBody (m : Move) (l : ℕ) (r r' : Body) : Type 0 where
  pub items : Each (SimItem m l) r.items r'.items
  pub end : SimBrace m l r.end r'.end

-- the same part, with its token, one of the first n, moved and its names renamed
pub data SimShape (m : Move) (n : ℕ) : Shape → Shape → Type 0 where
  name : {l l' : ℕ} → SimNumber m l l' → SimShape m n (Shape.name l) (Shape.name l')
  operation : (w : ℕ) {goes goes' : List ℕ} → Each (SimNumber m) goes goes' → w < n
      → SimShape m n (Shape.operation (m.by + w) goes) (Shape.operation w goes')
