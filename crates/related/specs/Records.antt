-- The cells that check writes for two readings of one function: the same records but for names renamed, tokens moved,
-- and the starts of runs of arguments, which are `runs` on.
use Rattle.std.specs.Prelude.{ℕ, ◌+◌, ◌<◌, ◌≡◌, List, [], ◌∷◌, ◌++◌}
use Rattle.body.specs.Kinds as K
use Rattle.pieces.specs.declared.Identifier.{Identifier}
use Rattle.parser.specs.Moved.{Move, SimName, SimNumber}
use Rattle.body.specs.Records.{none as no_name, nothing, item_record, record_cells}
use Rattle.body.specs.declared.ItemRecord.{ItemRecord}
use Rattle.body.specs.declared.Last.TheVariants as L

-- By the record's kind (crates/body/specs/Records.antt): which of its parts are names. Types are the same in both.
pub data SimRecord (m : Move) (runs : ℕ) : ItemRecord → ItemRecord → Type 0 where
  label : (w : ℕ) {l l' : Identifier} → SimName m l l'
      → SimRecord m runs (item_record K.label (m.by + w) no_name 0 no_name 0 (L.Name l 0))
      (item_record K.label w no_name 0 no_name 0 (L.Name l' 0))
  binary : (w type left right : ℕ) {d d' x x' y y' : Identifier} → SimName m d d' → SimName m x x' → SimName m y y'
      → SimRecord m runs (item_record K.binary (m.by + w) d type x left (L.Name y right))
      (item_record K.binary w d' type x' left (L.Name y' right))
  unary : (w type left : ℕ) {d d' x x' : Identifier} → SimName m d d' → SimName m x x'
      → SimRecord m runs (item_record K.unary (m.by + w) d type x left nothing)
      (item_record K.unary w d' type x' left nothing)
  const : (w type : ℕ) {d d' : Identifier} → SimName m d d'
      → SimRecord m runs (item_record K.const (m.by + w) d type no_name 0 nothing)
      (item_record K.const w d' type no_name 0 nothing)
  call : (w callee first count : ℕ) {g g' : Identifier} → SimName m g g'
      → SimRecord m runs (item_record K.call (m.by + w) no_name 0 g callee (L.Run (runs + first) count))
      (item_record K.call w no_name 0 g' callee (L.Run first count))
  call_into : (w type callee first count : ℕ) {d d' g g' : Identifier} → SimName m d d' → SimName m g g'
      → SimRecord m runs (item_record K.call_into (m.by + w) d type g callee (L.Run (runs + first) count))
      (item_record K.call_into w d' type g' callee (L.Run first count))
  print : (w : ℕ) {x x' : Identifier} → SimName m x x'
      → SimRecord m runs (item_record K.print (m.by + w) no_name 0 x 0 nothing)
      (item_record K.print w no_name 0 x' 0 nothing)
  nop : (w : ℕ)
      → SimRecord m runs (item_record K.nop (m.by + w) no_name 0 no_name 0 nothing)
      (item_record K.nop w no_name 0 no_name 0 nothing)
  jump : (w : ℕ) {l l' : Identifier} → SimName m l l'
      → SimRecord m runs (item_record K.jump (m.by + w) no_name 0 no_name 0 (L.Name l 0))
      (item_record K.jump w no_name 0 no_name 0 (L.Name l' 0))
  branch : (w : ℕ) {x x' y y' z z' : Identifier} → SimName m x x' → SimName m y y' → SimName m z z'
      → SimRecord m runs (item_record K.branch (m.by + w) no_name 0 x 0 (L.Labels y z))
      (item_record K.branch w no_name 0 x' 0 (L.Labels y' z'))
  ret : (w : ℕ)
      → SimRecord m runs (item_record K.ret (m.by + w) no_name 0 no_name 0 nothing)
      (item_record K.ret w no_name 0 no_name 0 nothing)
  ret_value : (w : ℕ) {x x' : Identifier} → SimName m x x'
      → SimRecord m runs (item_record K.ret_value (m.by + w) no_name 0 x 0 nothing)
      (item_record K.ret_value w no_name 0 x' 0 nothing)

-- the cells of records, one by one
pub data SimItemCells (m : Move) (runs : ℕ) : List ℕ → List ℕ → Type 0 where
  none : SimItemCells m runs [] []
  more : {r r' : ItemRecord} {cells cells' : List ℕ} → SimRecord m runs r r' → SimItemCells m runs cells cells'
      → SimItemCells m runs (record_cells r ++ cells) (record_cells r' ++ cells')

-- the cells of arguments: a name and its type each
pub data SimArgumentCells (m : Move) : List ℕ → List ℕ → Type 0 where
  none : SimArgumentCells m [] []
  more : {x x' : ℕ} {cells cells' : List ℕ} → SimNumber m x x' → (type : ℕ) → SimArgumentCells m cells cells'
      → SimArgumentCells m (x ∷ type ∷ cells) (x' ∷ type ∷ cells')

-- A renamed callee has the number of the function type that the callee has.
pub record SameCallees (m : Move) (g g' : ℕ → ℕ) : Type 0 where
  pub same : (x : ℕ) → x < m.names → g (m.name x) ≡ g' x
