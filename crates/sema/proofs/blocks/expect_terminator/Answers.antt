-- None where there is no item; else by the last one's kind.
use Prim.Native.Nat.{ℕ, ◌+◌, ◌-◌, ◌≤◌}
use mathlib.Core.Path.{◌≡◌}
use native.Mathlib.Omega.{arith}
use Rattle.sema.proofs.Records.{from-cells, last-other, last-ends, end_none, end-last}
use Rattle.sema.proofs.blocks.expect_terminator.Goals.{then-last-lt-JUMP-via-then-last-lt-JUMP}
use Rattle.sema.proofs.blocks.expect_terminator.Goals.{then-last-lt-JUMP-via-else-last-lt-JUMP+then-last-gt-RET_VALUE}
use Rattle.sema.proofs.blocks.expect_terminator.Goals as goal

pub returns-then-count-eq0 : goal.returns-then-count-eq0
returns-then-count-eq0 c =
    λ t args. end_none t c.args.items.now args c.args.first c.args.count c.if-count-eq0.true

pub returns-then-last-lt-JUMP : goal.returns-then-last-lt-JUMP
returns-then-last-lt-JUMP c =
    let r = c.record_at-last.result in
    let from = from-cells r c.args.items.now (c.args.first + c.args.count - 1) c.record_at-last.ensures in
    let outside : (k : ℕ) → 9 ≤ k → k ≤ 12 → r.kind ≡ k → ⊥ =
    λ k low high e. elim c.then-last-lt-JUMP.branch [
      | then-last-lt-JUMP-via-then-last-lt-JUMP w ↦ omega (arith, low, high, e)
      | then-last-lt-JUMP-via-else-last-lt-JUMP+then-last-gt-RET_VALUE w ↦ omega (arith, low, high, e)
    ] in
    λ t args. rw (
      ← end-last t c.args.items.now args c.args.count c.args.first c.if-count-eq0.false,
      ← c.record_at-last.ensures,
      c.refuse.ensures,
    )
    (last-other t r args from (outside 9 (omega arith) (omega arith)) (outside 10 (omega arith) (omega arith))
    (outside 11 (omega arith) (omega arith)) (outside 12 (omega arith) (omega arith)))

pub returns : goal.returns
returns c =
    let r = c.record_at-last.result in
    let from = from-cells r c.args.items.now (c.args.first + c.args.count - 1) c.record_at-last.ensures in
    λ t args. rw (
      ← end-last t c.args.items.now args c.args.count c.args.first c.if-count-eq0.false,
      ← c.record_at-last.ensures,
    )
    (last-ends t r args from (omega arith) (omega arith))
