-- One turn of the loop over the functions: what is left is the first of it and the rest, or nothing.
use Rattle.std.specs.Prelude.{Err, Ok, Result}
use Prim.Native.Nat.{ℕ, suc, ◌+◌, ◌-◌, ◌≤◌, ◌<◌}
use mathlib.Core.Path.{◌≡◌, sym, ap, subst, ◌∙◌}
use mathlib.Core.List.{List}
use native.Mathlib.Omega.{arith}
use lib.ListN.{length, get_or}
use Rattle.lexer.specs.Decoded.{Tok}
use Rattle.parser.specs.declared.Refusal.{Refusal}
use Rattle.sema.specs.Symbols.{typed}
use Rattle.sema.specs.Blocks.{type_row_d}
use Rattle.elaborate.specs.Types.{callee_of, typed_items, typed_calls}
use Rattle.functions.specs.Columns.{first_item_at, item_count_at}
use Rattle.unit.specs.Rows.{Done, done, then_row, typed_rows, RowsHeld}

module _ (ts : List Tok) (rows : List ℕ) (n : ℕ) (blocks t₀ : List ℕ) (i end : ℕ) (items args : List ℕ) {d : Done}
    (same : typed_rows ts rows n blocks t₀ i (end - i) items args ≡ d) where
  module _ (h : i < end) (t : List ℕ) {t₁ : List ℕ} {r : Result Unit Refusal} (l : length t ≡ length t₀)
      (op : typed t₁ r ≡ type_row_d ts rows n items args blocks i t) where
    -- a row's typing asks only how long the table is
    row_same : typed t₁ r ≡ type_row_d ts rows n items args blocks i t₀
    row_same = op ∙ rw l

    -- the definition goes by the number of rows that are left: one and the rest
    one_more_lem : typed_rows ts rows n blocks t₀ i (suc (end - (i + 1))) items args ≡ d
    one_more_lem =
        let m : suc (end - (i + 1)) ≡ end - i = omega arith in
        ap (λ (k : ℕ). typed_rows ts rows n blocks t₀ i k items args) m ∙ same

    pub rows-refused : {e : Refusal} → r ≡ Err e → Err e ≡ d.end
    unfolding typed_rows then_row
    rows-refused g = rw (← one_more_lem, ← row_same, g)

    pub rows-fine : r ≡ Ok tt
        → (first count : ℕ) → first ≡ get_or rows (first_item_at i) 0 → count ≡ get_or rows (item_count_at i) 0
        → typed_rows ts rows n blocks t₀ (i + 1) (end - (i + 1)) (typed_items t₁ (callee_of rows n) items first count)
        (typed_calls t₁ items args first count) ≡ d
    unfolding typed_rows then_row
    rows-fine g first count f k = rw (f, k, ← one_more_lem, ← row_same, g)

  pub rows-ended : end ≤ i → done (Ok tt) items args ≡ d
  unfolding typed_rows
  rows-ended h = let m : end - i ≡ 0 = omega arith in rw (← same, m)

-- a refusal holds nothing
pub RowsHeld-refused : {r : Result Unit Refusal} {e : Refusal} {d : Done} (items args : List ℕ) → r ≡ Err e
    → Err e ≡ d.end → RowsHeld r items args d
RowsHeld-refused {r} {e} {d} items args h g =
    subst (λ (x : Result Unit Refusal). RowsHeld x items args d) (sym h) (record { answer = g; held = tt })
