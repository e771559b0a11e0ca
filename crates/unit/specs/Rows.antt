-- Typing on the cells of the header table's rows: what the loop over them does.
use Rattle.std.specs.Prelude.{ℕ, zero, suc, ◌+◌, ◌*◌, ◌≤◌, ◌<◌, ◌≡◌, List, get_or, Err, Ok, Result}
use Rattle.lexer.specs.Decoded.{Tok}
use Rattle.functions.specs.Columns.{type_at, first_item_at, item_count_at}
use Rattle.utils.specs.Limits.{most_functions}
use Rattle.parser.specs.declared.Refusal.{Refusal}
use Rattle.sema.specs.Blocks.{type_row_d}
use Rattle.elaborate.specs.Types.{callee_of, typed_items, typed_calls}

-- how typing ends, and the cells of items and arguments then
pub record Done : Type 0 where
  pub end : Result Unit Refusal
  pub items : List ℕ
  pub arguments : List ℕ

abbrev pub done : Result Unit Refusal → List ℕ → List ℕ → Done
done e items args = record { end = e; items = items; arguments = args }

unfoldable pub then_row : Result Unit Refusal → Done → (Refusal → Done) → Done
then_row (Ok tt) next fail = next
then_row (Err e) next fail = fail e

-- The m functions from row i on, of n: each is typed in a table as long as t, and then its operands' types are written.
unfoldable pub typed_rows : List Tok → List ℕ → ℕ → List ℕ → List ℕ → ℕ → ℕ → List ℕ → List ℕ → Done
typed_rows ts rows n blocks t i zero items args = done (Ok tt) items args
typed_rows ts rows n blocks t i (suc m) items args =
    let first = get_or rows (first_item_at i) 0 in
    let count = get_or rows (item_count_at i) 0 in
    let r = type_row_d ts rows n items args blocks i t in
    then_row r.end
    (typed_rows ts rows n blocks t (i + 1) m (typed_items r.table (callee_of rows n) items first count)
    (typed_calls r.table items args first count))
    (λ e. done (Err e) items args)

-- No row of the n has a type number past 64, and the items of the `more` rows from `first` on lie in their slice.
pub record RowsFit (rows : List ℕ) (n first more cells : ℕ) : Type 0 where
  pub types_few : (i : ℕ) → i < n → get_or rows (type_at i) 0 ≤ most_functions
  pub items_fit : (i : ℕ) → first ≤ i → i < first + more
      → (get_or rows (first_item_at i) 0 + get_or rows (item_count_at i) 0) * 8 ≤ cells

-- The answer, and where all functions are typed, the cells. A refusal says nothing of them.
abbrev pub HeldBy : Result Unit Refusal → List ℕ → List ℕ → Done → Type 0
HeldBy (Ok tt) items args d = (items ≡ d.items) × (args ≡ d.arguments)
HeldBy (Err e) items args d = Unit

pub record RowsHeld (r : Result Unit Refusal) (items args : List ℕ) (d : Done) : Type 0 where
  pub answer : r ≡ d.end
  pub held : HeldBy r items args d
