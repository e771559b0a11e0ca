-- The simulation of demand 3 for the records that check writes: crates/elaborate/specs/Types.antt.
use Prim.Native.Nat.{ℕ, ◌+◌}
use mathlib.Core.Path.{◌≡◌, refl}
use mathlib.Core.List.{List, ◌++◌}
use native.Mathlib.Omega.{arith}
use lib.ListN.{length}
use Rattle.utils.specs.Bytes.{pick}
use Rattle.body.specs.Body.{Item, arguments_in}
use Rattle.parser.specs.Moved.{Move, SimName, SimV, SimO, Each}
use Rattle.body.specs.Moved.{SimItem}
use Rattle.parser.specs.declared.Variable.{Variable}
use Rattle.body.proofs.SimItems.{count_s}
use Rattle.body.specs.Records.{record_of, operation_record}
use Rattle.functions.specs.Functions.{Function}
use Rattle.elaborate.specs.Types.{callee_in, is_call, typed_last, typed_record, typed_items_cells, typed_variables}
use Rattle.elaborate.specs.Types.{typed_arguments_cells}
use Rattle.related.specs.Tables.{Tables, SameHead, Apart}
use Rattle.related.specs.Records.{SimRecord, SimItemCells, SimArgumentCells, SameCallees}

-- Callees. -----------------------------------------------------------------------------------------------------------

-- a name that is related has the same function type's number in both
pub callee_in_s : {S : ℕ → ℕ → Type 0} {fs fs' : List Function} {x x' : ℕ} → Apart S → Each (SameHead S) fs fs' → S x x'
    → callee_in fs x ≡ callee_in fs' x'
unfolding callee_in
callee_in_s apart Each.none p = refl
callee_in_s {x = x} {x'} apart (Each.more {x = f} {x' = f'} q r) p =
    rw (apart f.head.name.0 f'.head.name.0 x x' q.name p, q.type, callee_in_s apart r p) refl

-- Records. -----------------------------------------------------------------------------------------------------------

-- as many arguments in both
pub arguments_in_s : {m : Move} {n : ℕ} {i i' : Item} → SimItem m n i i' → Each (SimV m) (arguments_in i) (arguments_in i')
arguments_in_s (SimItem.label w q h) = Each.none
arguments_in_s (SimItem.plain q) = Each.none
arguments_in_s (SimItem.call w g xs h) = xs
arguments_in_s (SimItem.call_into w v g xs h) = xs

module _ {m : Move} {n : ℕ} {t t' : List ℕ} {callees callees' : ℕ → ℕ} (q : Tables m t t')
    (c : SameCallees m callees callees') (runs : ℕ) where
  pub record_s : (used : ℕ) {i i' : Item} → SimItem m n i i'
      → SimRecord m runs (typed_record t callees (record_of (runs + used) i)) (typed_record t' callees' (record_of used i'))
  unfolding typed_record typed_last record_of operation_record is_call pick
  record_s used (SimItem.label w (SimName.renamed x h) below) = SimRecord.label w (SimName.renamed x h)
  record_s used
      (SimItem.plain (SimO.binary w (SimV.of (SimName.renamed d j) type) (SimName.renamed x h) (SimName.renamed y g)
      below)) =
      rw (q.same x h, q.same y g)
      (SimRecord.binary w _ _ _ (SimName.renamed d j) (SimName.renamed x h) (SimName.renamed y g))
  record_s used (SimItem.plain (SimO.unary w (SimV.of (SimName.renamed d j) type) (SimName.renamed x h) below)) =
      rw (q.same x h) (SimRecord.unary w _ _ (SimName.renamed d j) (SimName.renamed x h))
  record_s used (SimItem.plain (SimO.const w (SimV.of (SimName.renamed d j) type) below)) =
      SimRecord.const w _ (SimName.renamed d j)
  record_s used (SimItem.plain (SimO.jump w (SimName.renamed x h) below)) = SimRecord.jump w (SimName.renamed x h)
  record_s used (SimItem.plain (SimO.branch w (SimName.renamed x h) (SimName.renamed y g) (SimName.renamed z j) below)) =
      SimRecord.branch w (SimName.renamed x h) (SimName.renamed y g) (SimName.renamed z j)
  record_s used (SimItem.plain (SimO.ret w below)) = SimRecord.ret w
  record_s used (SimItem.plain (SimO.ret_value w (SimName.renamed x h) below)) =
      SimRecord.ret_value w (SimName.renamed x h)
  record_s used (SimItem.plain (SimO.print w (SimName.renamed x h) below)) = SimRecord.print w (SimName.renamed x h)
  record_s used (SimItem.plain (SimO.nop w below)) = SimRecord.nop w
  record_s used (SimItem.call w (SimName.renamed x h) xs below) =
      rw (c.same x h, count_s xs) (SimRecord.call w _ used _ (SimName.renamed x h))
  record_s used (SimItem.call_into w (SimV.of (SimName.renamed d j) type) (SimName.renamed x h) xs below) =
      rw (c.same x h, count_s xs) (SimRecord.call_into w _ _ used _ (SimName.renamed d j) (SimName.renamed x h))

  -- THE SIMULATION of a function's items as check writes them
  pub item_cells_s : (used : ℕ) {is is' : List Item} → Each (SimItem m n) is is'
      → SimItemCells m runs (typed_items_cells t callees (runs + used) is) (typed_items_cells t' callees' used is')
  unfolding typed_items_cells
  item_cells_s used Each.none = SimItemCells.none
  item_cells_s used (Each.more {x = i} {x' = i'} {xs = is} {xs' = is'} p r) =
      let e : runs + used + length (arguments_in i) ≡ runs + (used + length (arguments_in i')) =
      omega (arith, count_s (arguments_in_s p)) in
      rw e (SimItemCells.more (record_s used p) (item_cells_s (used + length (arguments_in i')) r))

module _ {m : Move} {t t' : List ℕ} (q : Tables m t t') where
  typed_variables_s : {vs vs' : List Variable} {cells cells' : List ℕ} → Each (SimV m) vs vs'
      → SimArgumentCells m cells cells'
      → SimArgumentCells m (typed_variables t vs ++ cells) (typed_variables t' vs' ++ cells')
  unfolding typed_variables
  typed_variables_s Each.none a = a
  typed_variables_s (Each.more (SimV.of (SimName.renamed x h) type) r) a =
      rw (q.same x h) (SimArgumentCells.more (SimName.renamed x h) _ (typed_variables_s r a))

  -- .. and of its arguments
  pub argument_cells_s : {n : ℕ} {is is' : List Item} → Each (SimItem m n) is is'
      → SimArgumentCells m (typed_arguments_cells t is) (typed_arguments_cells t' is')
  unfolding typed_arguments_cells
  argument_cells_s Each.none = SimArgumentCells.none
  argument_cells_s (Each.more p r) = typed_variables_s (arguments_in_s p) (argument_cells_s r)
