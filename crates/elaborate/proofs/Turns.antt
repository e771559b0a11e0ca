-- One turn of each loop over the places up to `end`: what is left is the first of it and the rest, or nothing.
use Prim.Native.Nat.{ℕ, suc, ◌+◌, ◌*◌, ◌-◌, ◌<◌, ◌≤◌}
use mathlib.Core.Path.{◌≡◌}
use mathlib.Core.List.{List}
use native.Mathlib.Omega.{arith}
use lib.ListN.{get_or, set}
use lib.Seq.{sets}
use Rattle.body.specs.Records.{record_at, record_cells}
use Rattle.elaborate.specs.Types.{type_of, typed_record, typed_run, typed_arguments, typed_items, typed_calls}

less : (i end : ℕ) → i < end → end - i ≡ suc (end - (i + 1))
less i end h = omega arith

pub run_turn : (table cells : List ℕ) (i end : ℕ) → i < end
    → typed_run table cells i (end - i)
    ≡ typed_run table (set cells (i * 2 + 1) (type_of table (get_or cells (i * 2) 0))) (i + 1) (end - (i + 1))
unfolding typed_run
run_turn table cells i end h = rw (less i end h)

pub run_end : (table cells : List ℕ) (i end : ℕ) → end ≤ i → typed_run table cells i (end - i) ≡ cells
unfolding typed_run
run_end table cells i end h = let e : end - i ≡ 0 = omega arith in rw e

pub items_turn : (table : List ℕ) (callees : ℕ → ℕ) (cells : List ℕ) (i end : ℕ) → i < end
    → typed_items table callees cells i (end - i)
    ≡ typed_items table callees (sets cells (i * 8) (record_cells (typed_record table callees (record_at cells i))))
    (i + 1) (end - (i + 1))
unfolding typed_items
items_turn table callees cells i end h = rw (less i end h)

pub items_end : (table : List ℕ) (callees : ℕ → ℕ) (cells : List ℕ) (i end : ℕ) → end ≤ i
    → typed_items table callees cells i (end - i) ≡ cells
unfolding typed_items
items_end table callees cells i end h = let e : end - i ≡ 0 = omega arith in rw e

pub calls_turn : (table items cells : List ℕ) (i end : ℕ) → i < end
    → typed_calls table items cells i (end - i)
    ≡ typed_calls table items (typed_arguments table cells (record_at items i)) (i + 1) (end - (i + 1))
unfolding typed_calls
calls_turn table items cells i end h = rw (less i end h)

pub calls_end : (table items cells : List ℕ) (i end : ℕ) → end ≤ i → typed_calls table items cells i (end - i) ≡ cells
unfolding typed_calls
calls_end table items cells i end h = let e : end - i ≡ 0 = omega arith in rw e
