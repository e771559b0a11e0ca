-- Decoding what was stored: the records of items give the items' parts.
use Prim.Native.Nat.{ℕ, ◌+◌, ◌*◌, ◌≤◌}
use mathlib.Core.Path.{◌≡◌, refl, sym, ap, ◌∙◌}
use mathlib.Core.List.{List, [], ◌∷◌, ◌++◌, append_assoc}
use native.Mathlib.Omega.{arith}
use lib.ListN.{length, take, length-append}
use lib.Seq.{sets, sets-eq, length-take-le, get_or-append_seam, get_or-append-add}
use Rattle.utils.specs.Bytes.{pick}
use Rattle.body.specs.Body.{Item, label, plain, call, call_into, arguments_in}
use Rattle.body.specs.Shapes.{shape_of, shapes_of}
use Rattle.parser.specs.declared.Operation.TheVariants as O
use Rattle.body.specs.Records.{operation_record, record_of, first_cell, second_cell, record_cells, items_cells, last_of}
use Rattle.body.specs.Records.{record_at, goes_by, record_part, parts_at}
use Rattle.body.specs.declared.ItemRecord.{ItemRecord}
use Rattle.body.proofs.Lay.{length-items_cells}

-- an item's record gives its part back
pub part_of_record : (used : ℕ) (i : Item) → record_part (record_of used i) ≡ shape_of i
unfolding record_part record_of operation_record goes_by pick
part_of_record used (label w l) = refl
part_of_record used (plain (O.BinaryOp w v x y)) = refl
part_of_record used (plain (O.UnaryOp w v x)) = refl
part_of_record used (plain (O.Const w v)) = refl
part_of_record used (plain (O.Jump w l)) = refl
part_of_record used (plain (O.Branch w x l m)) = refl
part_of_record used (plain (O.Ret w)) = refl
part_of_record used (plain (O.RetValue w x)) = refl
part_of_record used (plain (O.Print w x)) = refl
part_of_record used (plain (O.Nop w)) = refl
part_of_record used (call w g xs) = refl
part_of_record used (call_into w v g xs) = refl

-- the last two cells of an item's record give back what they hold
pub last_back : (used : ℕ) (i : Item)
    → last_of (record_of used i).kind (first_cell (record_of used i).last) (second_cell (record_of used i).last)
    ≡ (record_of used i).last
unfolding last_of record_of operation_record pick
last_back used (label w l) = refl
last_back used (plain (O.BinaryOp w v x y)) = refl
last_back used (plain (O.UnaryOp w v x)) = refl
last_back used (plain (O.Const w v)) = refl
last_back used (plain (O.Jump w l)) = refl
last_back used (plain (O.Branch w x l m)) = refl
last_back used (plain (O.Ret w)) = refl
last_back used (plain (O.RetValue w x)) = refl
last_back used (plain (O.Print w x)) = refl
last_back used (plain (O.Nop w)) = refl
last_back used (call w g xs) = refl
last_back used (call_into w v g xs) = refl

-- the record of an item whose cells stand at its index
pub record_there : (pre : List ℕ) (used : ℕ) (i : Item) (rest : List ℕ) (first : ℕ) → length pre ≡ first * 8
    → record_at (pre ++ (record_cells (record_of used i) ++ rest)) first ≡ record_of used i
record_there pre used i rest first e =
    rw (← e, get_or-append_seam)
    (simp (get_or-append-add, last_back used i))

-- the parts of items whose cells stand from an index on, whatever stands before and behind them
pub parts_there : (pre : List ℕ) (used : ℕ) (is : List Item) (rest : List ℕ) (first : ℕ) → length pre ≡ first * 8
    → parts_at (pre ++ (items_cells used is ++ rest)) first (length is) ≡ shapes_of is
unfolding parts_at shapes_of items_cells
parts_there pre used [] rest first e = refl
parts_there pre used (i ∷ is) rest first e =
    let r : ItemRecord = record_of used i in
    let behind : List ℕ = items_cells (used + length (arguments_in i)) is ++ rest in
    let all : List ℕ = pre ++ (record_cells r ++ behind) in
    let far : length (pre ++ record_cells r) ≡ (first + 1) * 8 = omega (arith, length-append pre (record_cells r)) in
    let one : record_part (record_at all first) ≡ shape_of i =
    ap record_part (record_there pre used i behind first e) ∙ part_of_record used i in
    let more : parts_at all (first + 1) (length is) ≡ shapes_of is =
    ap (λ (cells : List ℕ). parts_at cells (first + 1) (length is)) (sym (append_assoc pre (record_cells r) behind))
    ∙ parts_there (pre ++ record_cells r) (used + length (arguments_in i)) is rest (first + 1) far in
    cc

-- THE DECODING of stored items
pub parts_stored : (cells cells₀ : List ℕ) (used first : ℕ) (is : List Item)
    → cells ≡ sets cells₀ (first * 8) (items_cells used is) → first * 8 + length is * 8 ≤ length cells₀
    → parts_at cells first (length is) ≡ shapes_of is
parts_stored cells cells₀ used first is e h =
    let l : length (items_cells used is) ≡ length is * 8 = length-items_cells used is in
    let f : first * 8 + length (items_cells used is) ≤ length cells₀ = omega arith in
    let p : length (take (first * 8) cells₀) ≡ first * 8 = length-take-le (first * 8) cells₀ (omega arith) in
    rw (e, sets-eq (items_cells used is) cells₀ (first * 8) f, append_assoc)
    (parts_there (take (first * 8) cells₀) used is _ first p)
