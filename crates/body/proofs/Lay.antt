-- How items and arguments lie in their cells: how many cells they take, one run behind another, and that an added `ret`
-- has no arguments.
use Prim.Native.Nat.{ℕ, ◌+◌, ◌*◌}
use mathlib.Core.Path.{◌≡◌, refl, ◌∙◌}
use mathlib.Core.List.{List, [], ◌∷◌, ◌++◌}
use mathlib.Core.Bool.{Bool, true, false}
use native.Mathlib.Omega.{arith}
use native.Mathlib.Nat.{add-zero, zero-add}
use lib.ListN.{length, length-append}
use Rattle.utils.specs.Bytes.{pick}
use Rattle.parser.specs.Runs.{variables_cells}
use Rattle.body.specs.Body.{Item, label, plain, call, call_into, arguments_in, after_brace, after_label, lacks_ret, ret}
use Rattle.body.specs.Body.{closed_from, closed_items}
use Rattle.parser.specs.declared.Variable.{Variable}
use Rattle.body.specs.Records.{items_cells, arguments_cells, arguments_count}

-- an item takes eight cells
pub length-items_cells : (used : ℕ) (is : List Item) → length (items_cells used is) ≡ length is * 8
unfolding items_cells
length-items_cells used [] = refl
length-items_cells used (i ∷ is) = omega (arith, length-items_cells (used + length (arguments_in i)) is)

pub length-variables_cells : (vs : List Variable) → length (variables_cells vs) ≡ length vs * 2
unfolding variables_cells
length-variables_cells [] = refl
length-variables_cells (v ∷ vs) = omega (arith, length-variables_cells vs)

-- an argument takes two
pub length-arguments_cells : (is : List Item) → length (arguments_cells is) ≡ arguments_count is * 2
unfolding arguments_cells arguments_count
length-arguments_cells [] = refl
length-arguments_cells (i ∷ is) =
    rw length-append (omega (arith, length-variables_cells (arguments_in i), length-arguments_cells is))

-- One run of items behind another. ------------------------------------------------------------------------------------

pub items_cells_append : (used : ℕ) (is js : List Item)
    → items_cells used (is ++ js) ≡ items_cells used is ++ items_cells (used + arguments_count is) js
unfolding items_cells arguments_count
items_cells_append used [] js = rw add-zero
items_cells_append used (i ∷ is) js =
    let e : used + (length (arguments_in i) + arguments_count is)
    ≡ used + length (arguments_in i) + arguments_count is =
    omega arith in
    rw (e, items_cells_append (used + length (arguments_in i)) is js)

-- An added `ret`. -----------------------------------------------------------------------------------------------------

-- it has no arguments, so that it changes neither their cells nor their count
added_cells_lem : (lacks : Bool) (last : ℕ) (is : List Item) → arguments_cells (pick lacks (ret last ∷ is) is)
    ≡ arguments_cells is
unfolding pick arguments_cells variables_cells
added_cells_lem true last is = refl
added_cells_lem false last is = refl

added-count : (lacks : Bool) (last : ℕ) (is : List Item) → arguments_count (pick lacks (ret last ∷ is) is)
    ≡ arguments_count is
unfolding pick arguments_count
added-count true last is = zero-add (arguments_count is)
added-count false last is = refl

pub arguments_cells-closed_from : (void : Bool) (before last : ℕ) (is : List Item)
    → arguments_cells (closed_from void before last is) ≡ arguments_cells is
unfolding closed_from arguments_cells
arguments_cells-closed_from void before last [] = added_cells_lem (lacks_ret void before) last []
arguments_cells-closed_from void before last (label w l ∷ is) =
    added_cells_lem (lacks_ret void before) last (label w l ∷ closed_from void after_label last is)
    ∙ rw (arguments_cells-closed_from void after_label last is)
arguments_cells-closed_from void before last (plain o ∷ is) = rw (arguments_cells-closed_from void _ _ is)
arguments_cells-closed_from void before last (call w g xs ∷ is) = rw (arguments_cells-closed_from void _ _ is)
arguments_cells-closed_from void before last (call_into w v g xs ∷ is) = rw (arguments_cells-closed_from void _ _ is)

pub arguments_count-closed_from : (void : Bool) (before last : ℕ) (is : List Item)
    → arguments_count (closed_from void before last is) ≡ arguments_count is
unfolding closed_from arguments_count
arguments_count-closed_from void before last [] = added-count (lacks_ret void before) last []
arguments_count-closed_from void before last (label w l ∷ is) =
    added-count (lacks_ret void before) last (label w l ∷ closed_from void after_label last is)
    ∙ rw (arguments_count-closed_from void after_label last is)
arguments_count-closed_from void before last (plain o ∷ is) = rw (arguments_count-closed_from void _ _ is)
arguments_count-closed_from void before last (call w g xs ∷ is) = rw (arguments_count-closed_from void _ _ is)
arguments_count-closed_from void before last (call_into w v g xs ∷ is) = rw (arguments_count-closed_from void _ _ is)

-- the arguments of closed items are those of the items
pub arguments_cells-closed : (void : Bool) (is : List Item)
    → arguments_cells (closed_items void is) ≡ arguments_cells is
arguments_cells-closed void is = arguments_cells-closed_from void after_brace 0 is

pub arguments_count-closed : (void : Bool) (is : List Item)
    → arguments_count (closed_items void is) ≡ arguments_count is
arguments_count-closed void is = arguments_count-closed_from void after_brace 0 is
