-- Records are read back: what crates/body stores of an item is decoded to that item.
use Prim.Native.Nat.{ℕ, zero, suc, ◌+◌, ◌*◌, ◌-◌, ◌≤◌}
use mathlib.Core.Path.{◌≡◌, refl, sym, ap, ◌∙◌}
use mathlib.Core.List.{List, [], ◌∷◌, ◌++◌, append_assoc}
use native.Mathlib.Omega.{arith}
use borrow.Author.Tests.{ne_eqb}
use native.Mathlib.Nat.{add-zero, sub-zero}
use lib.ListN.{length, take, drop, get_or, length-append, length-drop, take-append-drop}
use lib.Seq.{length-take-le, drop_at}
use Rattle.utils.specs.Bytes.{pick}
use Rattle.parser.specs.Runs.{type_cell, variables_cells}
use Rattle.body.specs.Body.{Item, label, plain, call, call_into, arguments_in}
use Rattle.parser.specs.declared.Ty.{Ty}
use Rattle.parser.specs.declared.Ty.TheVariants as Y
use Rattle.parser.specs.declared.Variable.{Variable}
use Rattle.parser.specs.declared.Operation.{Operation}
use Rattle.parser.specs.declared.Operation.TheVariants as O
use Rattle.body.specs.Records.{operation_record, record_of, record_cells, record_at, items_cells, arguments_cells}
use Rattle.body.proofs.Decode.{record_there}
use Rattle.sema.specs.Items.{ty_of, variables_at, operation_of, item_by, item_of, item_at}
use Rattle.sema.specs.Blocks.{items_at, formals_from}

pub type_back : (ty : Ty) → ty_of (type_cell ty) ≡ ty
unfolding ty_of pick
type_back Y.Placeholder = refl
type_back Y.Int = refl
type_back Y.Bool = refl
type_back Y.Void = refl
type_back (Y.Fn n) =
    let m : n + 4 - 4 ≡ n = omega arith in
    rw (
      ne_eqb (n + 4) 0 (λ e. omega (arith, e)),
      ne_eqb (n + 4) 1 (λ e. omega (arith, e)),
      ne_eqb (n + 4) 2 (λ e. omega (arith, e)),
      ne_eqb (n + 4) 3 (λ e. omega (arith, e)),
      m,
    )

pub operation_back : (o : Operation) (used : ℕ) (args : List ℕ) → item_of (record_of used (plain o)) args ≡ plain o
unfolding item_of item_by operation_of record_of operation_record pick
operation_back (O.BinaryOp w v x y) used args = rw (type_back v.ty)
operation_back (O.UnaryOp w v x) used args = rw (type_back v.ty)
operation_back (O.Const w v) used args = rw (type_back v.ty)
operation_back (O.Jump w l) used args = refl
operation_back (O.Branch w x l m) used args = refl
operation_back (O.Ret w) used args = refl
operation_back (O.RetValue w x) used args = refl
operation_back (O.Print w x) used args = refl
operation_back (O.Nop w) used args = refl

-- a call's arguments have to stand where its record says
pub item_back : (i : Item) (used : ℕ) (args : List ℕ) → variables_at args used (length (arguments_in i)) ≡ arguments_in i
    → item_of (record_of used i) args ≡ i
unfolding item_of item_by record_of pick
item_back (label w l) used args h = refl
item_back (plain o) used args h = operation_back o used args
item_back (call w g xs) used args h = rw h
item_back (call_into w v g xs) used args h = rw (h, type_back v.ty)

-- Cells that stand from an index on. ----------------------------------------------------------------------------------

module _ {a : ℕ} {more : List ℕ} where
  pub cell_back : (k : ℕ) (cells : List ℕ) → drop k cells ≡ a ∷ more → (get_or cells k 0 ≡ a)
      × (drop (k + 1) cells ≡ more)
  cell_back zero [] h = absurd (let z : ◌≡◌ {A = ℕ} 0 1 = cc in omega arith)
  cell_back zero (x ∷ xs) h = (cc, cc)
  cell_back (suc k) [] h = absurd (let z : ◌≡◌ {A = ℕ} 0 1 = cc in omega arith)
  cell_back (suc k) (x ∷ xs) h = let m : suc k + 1 ≡ suc (k + 1) = omega arith in rw m (cell_back k xs h)

-- the run of variables, and what stands behind it
pub variables_back : (vs : List Variable) (cells : List ℕ) (at : ℕ) (rest : List ℕ) → drop (at * 2) cells
    ≡ variables_cells vs ++ rest
    → (variables_at cells at (length vs) ≡ vs) × (drop ((at + length vs) * 2) cells ≡ rest)
unfolding variables_at variables_cells
variables_back [] cells at rest h = (refl, rw add-zero h)
variables_back (v ∷ vs) cells at rest h =
    let p = cell_back (at * 2) cells h in
    let q = cell_back (at * 2 + 1) cells p.1 in
    let m : at * 2 + 1 + 1 ≡ (at + 1) * 2 = omega arith in
    let r = variables_back vs cells (at + 1) rest (rw (← m) q.1) in
    let n : (at + suc (length vs)) * 2 ≡ (at + 1 + length vs) * 2 = omega arith in
    (rw (p.0, q.0, type_back v.ty, r.0), rw n r.1)

-- the items of records, with their arguments
record_back : (i : Item) (items : List ℕ) (first used : ℕ) (rest : List ℕ)
    → drop (first * 8) items ≡ record_cells (record_of used i) ++ rest
    → (record_at items first ≡ record_of used i) × (drop ((first + 1) * 8) items ≡ rest)
record_back i items first used rest h =
    let cells : List ℕ = record_cells (record_of used i) in
    let front : List ℕ = take (first * 8) items in
    let some : length items - first * 8 ≡ 8 + length rest =
    sym (length-drop (first * 8) items) ∙ ap length h ∙ omega arith in
    let e : length front ≡ first * 8 = length-take-le (first * 8) items (omega (arith, some)) in
    let cut : items ≡ front ++ (cells ++ rest) =
    sym (take-append-drop (first * 8) items) ∙ ap (λ (l : List ℕ). front ++ l) h in (
      ap (λ (l : List ℕ). record_at l first) cut ∙ record_there front used i rest first e,
      ap (drop ((first + 1) * 8)) (cut ∙ sym (append_assoc front cells rest))
          ∙ drop_at (front ++ cells) rest ((first + 1) * 8) (omega (arith, e, length-append front cells)),
    )

pub items_back : (is : List Item) (items args : List ℕ) (first used : ℕ) (rest more : List ℕ)
    → drop (first * 8) items ≡ items_cells used is ++ rest → drop (used * 2) args ≡ arguments_cells is ++ more
    → items_at items args first (length is) ≡ is
unfolding items_at items_cells arguments_cells
items_back [] items args first used rest more h g = refl
items_back (i ∷ is) items args first used rest more h g =
    let xs = arguments_in i in
    let r = record_back i items first used (items_cells (used + length xs) is ++ rest)
    (h ∙ append_assoc (record_cells (record_of used i)) (items_cells (used + length xs) is) rest) in
    let v = variables_back xs args used (arguments_cells is ++ more)
    (g ∙ append_assoc (variables_cells xs) (arguments_cells is) more) in
    rw (
      r.0,
      item_back i used args v.0,
      items_back is items args (first + 1) (used + length xs) rest more r.1
          v.1,
    )

-- some of them, as a block's record says: m items from the k-th on
items_after : (k : ℕ) (items args : List ℕ) (first n : ℕ) → drop k (items_at items args first n) ≡ items_at items args
    (first + k) (n - k)
unfolding items_at
items_after zero items args first n = rw (add-zero, sub-zero)
items_after (suc k) items args first zero = let m : zero - suc k ≡ 0 = omega arith in rw m
items_after (suc k) items args first (suc n) =
    let m : first + suc k ≡ first + 1 + k = omega arith in
    let l : suc n - suc k ≡ n - k = omega arith in
    rw (m, l) (items_after k items args (first + 1) n)

items-before : (m : ℕ) (items args : List ℕ) (first n : ℕ) → m ≤ n → take m (items_at items args first n) ≡ items_at
    items args first m
unfolding items_at
items-before zero items args first n h = refl
items-before (suc m) items args first zero h = absurd (omega arith)
items-before (suc m) items args first (suc n) h = ap (λ (is : List Item). item_at items args first ∷ is)
    (items-before m items args (first + 1) n (omega arith))

pub block_back : (is : List Item) (items args : List ℕ) (first k m : ℕ) → items_at items args first (length is) ≡ is
    → k + m ≤ length is → items_at items args (first + k) m ≡ take m (drop k is)
block_back is items args first k m e h =
    sym (items-before m items args (first + k) (length is - k) (omega arith))
    ∙ ap (take m) (sym (items_after k items args first (length is)) ∙ ap (drop k) e)

-- the formals of a row
pub formals_back : (vs : List Variable) (rows : List ℕ) (at : ℕ) (rest : List ℕ) → drop at rows ≡ variables_cells vs
    ++ rest
    → formals_from rows at (length vs) ≡ vs
unfolding formals_from variables_cells
formals_back [] rows at rest h = refl
formals_back (v ∷ vs) rows at rest h =
    let p = cell_back at rows h in
    let q = cell_back (at + 1) rows p.1 in
    let m : at + 2 ≡ at + 1 + 1 = omega arith in
    rw (p.0, q.0, type_back v.ty, formals_back vs rows (at + 2) rest (rw m q.1))
