-- Writing the types into cells is the list form: where the records of items stand, those with the types of their
-- operands stand afterwards, and the same of their arguments.
use Prim.Native.Nat.{ℕ, suc, ◌+◌, ◌*◌, ◌-◌}
use mathlib.Core.Path.{◌≡◌, refl, sym, ap, ◌∙◌}
use mathlib.Core.List.{List, [], ◌∷◌, ◌++◌, append_assoc}
use native.Mathlib.Omega.{arith}
use lib.ListN.{length, get_or, set, take, drop, length-append, length-drop, take-append-drop}
use lib.Seq.{sets, set_at, get_or_at, append_snoc, length-take-le}
use Rattle.parser.specs.Runs.{type_cell, variables_cells}
use Rattle.body.specs.Body.{Item, label, plain, call, call_into, arguments_in}
use Rattle.parser.specs.declared.Variable.{Variable}
use Rattle.parser.specs.declared.Operation.TheVariants as O
use Rattle.body.specs.Records.{operation_record, record_of, record_at, record_cells, items_cells, arguments_cells}
use Rattle.body.specs.Records.{arguments_count}
use Rattle.body.specs.declared.ItemRecord.{ItemRecord}
use Rattle.body.proofs.Decode.{record_there}
use Rattle.elaborate.specs.Types.{type_of, typed_record, typed_run, typed_arguments, typed_items, typed_calls}
use Rattle.elaborate.specs.Types.{typed_items_cells, typed_variables, typed_arguments_cells, Elaborated}

-- How many cells there are. -------------------------------------------------------------------------------------------

pub length-typed_items : (table : List ℕ) (callees : ℕ → ℕ) (used : ℕ) (is : List Item)
    → length (typed_items_cells table callees used is) ≡ length is * 8
unfolding typed_items_cells
length-typed_items table callees used [] = refl
length-typed_items table callees used (i ∷ is) =
    omega (arith, length-typed_items table callees (used + length (arguments_in i)) is)

length-typed_variables : (table : List ℕ) (vs : List Variable) → length (typed_variables table vs) ≡ length vs * 2
unfolding typed_variables
length-typed_variables table [] = refl
length-typed_variables table (v ∷ vs) = omega (arith, length-typed_variables table vs)

pub length-typed_arguments : (table : List ℕ) (is : List Item)
    → length (typed_arguments_cells table is) ≡ arguments_count is * 2
unfolding typed_arguments_cells arguments_count
length-typed_arguments table [] = refl
length-typed_arguments table (i ∷ is) =
    let xs : List Variable = arguments_in i in
    omega (
      arith,
      length-append (typed_variables table xs) (typed_arguments_cells table is),
      length-typed_variables table xs,
      length-typed_arguments table is,
    )

-- a run of stores over one as long
over : (before xs ys rest : List ℕ) (n : ℕ) → length before ≡ n → length xs ≡ length ys
    → sets (before ++ (xs ++ rest)) n ys ≡ before ++ (ys ++ rest)
over before [] [] rest n e h = refl
over before [] (y ∷ ys) rest n e h = absurd (omega (arith, h))
over before (x ∷ xs) [] rest n e h = absurd (omega (arith, h))
over before (x ∷ xs) (y ∷ ys) rest n e h =
    let l : length (before ++ (y ∷ [])) ≡ suc n = omega (arith, e, length-append before (y ∷ [])) in
    ap (λ (cells : List ℕ). sets cells (suc n) ys)
    (set_at before x (xs ++ rest) y n e ∙ sym (append_snoc before y (xs ++ rest)))
    ∙ over (before ++ (y ∷ [])) xs ys rest (suc n) l (omega (arith, h))
    ∙ append_snoc before y (ys ++ rest)

-- Items. ------------------------------------------------------------------------------------------------------------

pub items-typed : (table : List ℕ) (callees : ℕ → ℕ) (is : List Item) (before rest : List ℕ) (first used : ℕ)
    → length before ≡ first * 8
    → typed_items table callees (before ++ (items_cells used is ++ rest)) first (length is)
    ≡ before ++ (typed_items_cells table callees used is ++ rest)
unfolding typed_items typed_items_cells items_cells
items-typed table callees [] before rest first used e = refl
items-typed table callees (i ∷ is) before rest first used e =
    let r : ItemRecord = record_of used i in
    let w : ItemRecord = typed_record table callees r in
    let u : ℕ = used + length (arguments_in i) in
    let behind : List ℕ = items_cells u is ++ rest in
    let cells : List ℕ = before ++ (record_cells r ++ behind) in
    let one : record_at cells first ≡ r = record_there before used i behind first e in
    let two : sets cells (first * 8) (record_cells w) ≡ before ++ (record_cells w ++ behind) =
    over before (record_cells r) (record_cells w) behind (first * 8) e refl in
    let far : length (before ++ record_cells w) ≡ (first + 1) * 8 =
    omega (arith, e, length-append before (record_cells w)) in
    ap (λ (q : ItemRecord).
    typed_items table callees (sets cells (first * 8) (record_cells (typed_record table callees q))) (first + 1)
    (length is)) one
    ∙ ap (λ (l : List ℕ). typed_items table callees l (first + 1) (length is))
    (two ∙ sym (append_assoc before (record_cells w) behind))
    ∙ items-typed table callees is (before ++ record_cells w) rest (first + 1) u far
    ∙ append_assoc before (record_cells w) (typed_items_cells table callees u is ++ rest)

-- Arguments. --------------------------------------------------------------------------------------------------------

-- those of one call
run_typed : (table : List ℕ) (vs : List Variable) (before rest : List ℕ) (at : ℕ) → length before ≡ at * 2
    → typed_run table (before ++ (variables_cells vs ++ rest)) at (length vs)
    ≡ before ++ (typed_variables table vs ++ rest)
unfolding typed_run typed_variables variables_cells
run_typed table [] before rest at e = refl
run_typed table (v ∷ vs) before rest at e =
    let x : ℕ = v.id.0 in
    let t : ℕ = type_cell v.ty in
    let y : ℕ = type_of table x in
    let more : List ℕ = variables_cells vs ++ rest in
    let cells : List ℕ = before ++ (x ∷ t ∷ more) in
    let one : get_or cells (at * 2) 0 ≡ x = get_or_at before x (t ∷ more) 0 (at * 2) e in
    let l : length (before ++ (x ∷ [])) ≡ at * 2 + 1 = omega (arith, e, length-append before (x ∷ [])) in
    let two : set cells (at * 2 + 1) y ≡ before ++ (x ∷ y ∷ more) =
    ap (λ (c' : List ℕ). set c' (at * 2 + 1) y) (sym (append_snoc before x (t ∷ more)))
    ∙ set_at (before ++ (x ∷ [])) t more y (at * 2 + 1) l ∙ append_snoc before x (y ∷ more) in
    let far : length (before ++ (x ∷ y ∷ [])) ≡ (at + 1) * 2 = omega (arith, e, length-append before (x ∷ y ∷ [])) in
    ap (λ (z : ℕ). typed_run table (set cells (at * 2 + 1) (type_of table z)) (at + 1) (length vs)) one
    ∙ ap (λ (c' : List ℕ). typed_run table c' (at + 1) (length vs))
    (two ∙ sym (append_assoc before (x ∷ y ∷ []) more))
    ∙ run_typed table vs (before ++ (x ∷ y ∷ [])) rest (at + 1) far
    ∙ append_assoc before (x ∷ y ∷ []) (typed_variables table vs ++ rest)

-- an item's, by its record
call-typed : (table : List ℕ) (i : Item) (before rest : List ℕ) (used : ℕ) → length before ≡ used * 2
    → typed_arguments table (before ++ (variables_cells (arguments_in i) ++ rest)) (record_of used i)
    ≡ before ++ (typed_variables table (arguments_in i) ++ rest)
unfolding typed_variables variables_cells record_of operation_record
call-typed table (label w l) before rest used e = refl
call-typed table (plain (O.BinaryOp w v x y)) before rest used e = refl
call-typed table (plain (O.UnaryOp w v x)) before rest used e = refl
call-typed table (plain (O.Const w v)) before rest used e = refl
call-typed table (plain (O.Jump w l)) before rest used e = refl
call-typed table (plain (O.Branch w x l m)) before rest used e = refl
call-typed table (plain (O.Ret w)) before rest used e = refl
call-typed table (plain (O.RetValue w x)) before rest used e = refl
call-typed table (plain (O.Print w x)) before rest used e = refl
call-typed table (plain (O.Nop w)) before rest used e = refl
call-typed table (call w g xs) before rest used e = run_typed table xs before rest used e
call-typed table (call_into w v g xs) before rest used e = run_typed table xs before rest used e

-- where the items stand between `front` and `more`
pub calls_there : (table : List ℕ) (is : List Item) (front more before rest : List ℕ) (first used : ℕ)
    → length front ≡ first * 8 → length before ≡ used * 2
    → typed_calls table (front ++ (items_cells used is ++ more)) (before ++ (arguments_cells is ++ rest)) first (length is)
    ≡ before ++ (typed_arguments_cells table is ++ rest)
unfolding typed_calls typed_arguments_cells items_cells arguments_cells
calls_there table [] front more before rest first used e f = refl
calls_there table (i ∷ is) front more before rest first used e f =
    let r : ItemRecord = record_of used i in
    let xs : List Variable = arguments_in i in
    let u : ℕ = used + length xs in
    let behind : List ℕ = items_cells u is ++ more in
    let items : List ℕ = front ++ (record_cells r ++ behind) in
    let others : List ℕ = arguments_cells is ++ rest in
    let cells : List ℕ = before ++ ((variables_cells xs ++ arguments_cells is) ++ rest) in
    let ys : List ℕ = typed_variables table xs in
    let split : cells ≡ before ++ (variables_cells xs ++ others) =
    ap (λ (l : List ℕ). before ++ l) (append_assoc (variables_cells xs) (arguments_cells is) rest) in
    let one : record_at items first ≡ r = record_there front used i behind first e in
    let two : typed_arguments table cells r ≡ (before ++ ys) ++ others =
    ap (λ (l : List ℕ). typed_arguments table l r) split ∙ call-typed table i before others used f
    ∙ sym (append_assoc before ys others) in
    let next : length (front ++ record_cells r) ≡ (first + 1) * 8 =
    omega (arith, e, length-append front (record_cells r)) in
    let far : length (before ++ ys) ≡ u * 2 =
    omega (arith, f, length-append before ys, length-typed_variables table xs) in
    ap (λ (q : ItemRecord). typed_calls table items (typed_arguments table cells q) (first + 1) (length is)) one
    ∙ ap (λ (l : List ℕ). typed_calls table items l (first + 1) (length is)) two
    ∙ ap (λ (l : List ℕ). typed_calls table l ((before ++ ys) ++ others) (first + 1) (length is))
    (sym (append_assoc front (record_cells r) behind))
    ∙ calls_there table is (front ++ record_cells r) more (before ++ ys) rest (first + 1) u next far
    ∙ append_assoc before ys (typed_arguments_cells table is ++ rest)
    ∙ ap (λ (l : List ℕ). before ++ l) (sym (append_assoc ys (typed_arguments_cells table is) rest))

-- where they stand from `first` on
pub calls_typed : (table : List ℕ) (is : List Item) (items more before rest : List ℕ) (first used : ℕ)
    → drop (first * 8) items ≡ items_cells used is ++ more → length before ≡ used * 2
    → typed_calls table items (before ++ (arguments_cells is ++ rest)) first (length is)
    ≡ before ++ (typed_arguments_cells table is ++ rest)
unfolding typed_calls typed_arguments_cells items_cells arguments_cells
calls_typed table [] items more before rest first used h f = refl
calls_typed table (i ∷ is) items more before rest first used h f =
    let l : length items - first * 8 ≡ suc (length (items_cells used (i ∷ is) ++ more) - 1) =
    sym (length-drop (first * 8) items) ∙ ap length h ∙ omega arith in
    let e : length (take (first * 8) items) ≡ first * 8 = length-take-le (first * 8) items (omega (arith, l)) in
    let cut : items ≡ take (first * 8) items ++ (items_cells used (i ∷ is) ++ more) =
    sym (take-append-drop (first * 8) items) ∙ ap (λ (r : List ℕ). take (first * 8) items ++ r) h in
    ap (λ (r : List ℕ).
    typed_calls table r (before ++ (arguments_cells (i ∷ is) ++ rest)) first (length (i ∷ is))) cut
    ∙ calls_there table (i ∷ is) (take (first * 8) items) more before rest first used e f

-- THE LIST FORM of what `elaborate` does to any cells
pub elaborated : (table : List ℕ) (callees : ℕ → ℕ) (first count : ℕ) (items arguments : List ℕ)
    → Elaborated table callees first count items (typed_items table callees items first count)
    arguments (typed_calls table items arguments first count)
elaborated table callees first count items arguments =
    record {
      items_are = λ is used before behind l e h.
          rw (h, ← l) (items-typed table callees is before behind first used e);
      arguments_are = λ is used before behind front back l e h f g.
          rw (h, g, ← l) (calls_there table is before behind front back first used e f);
    }
