-- The items that are left, typed from the table as it is, give what all of them give from the table at entry
-- (`items-fine`). Only a block all of whose items are fine is asked for its terminator (`items-ended`).
use Rattle.std.proofs.lemmas.Result.{err_from_is_err_and}
use native.Mathlib.Omega.{arith}
use mathlib.Core.Path.{◌∙◌}
use Rattle.sema.proofs.Threads.{items_refused, items-fine, items-ended}
use Rattle.sema.proofs.Sema.analyze_block.Goals as goal

pub returns-in_err-analyze_op : goal.returns-in_err-analyze_op
returns-in_err-analyze_op c =
    let l = c.loop-i in
    let p = err_from_is_err_and c.from_residual.result c.from_residual.ensures.1 in
    rw (p.1, p.2)
    (items_refused _ _ _ _ _ l.table _ _ c.args.first l.i c.args.count l.invariant.1 (omega arith) c.analyze_op.ensures
    c.in_err-analyze_op.was)

pub loop-i-preserved : goal.loop-i-preserved
loop-i-preserved c =
    let l = c.loop-i in (
      c.analyze_op.auto.table ∙ l.invariant.0,
      items-fine _ _ _ _ _ l.table _ _ c.args.first l.i c.args.count l.invariant.1 (omega arith) c.analyze_op.ensures
          c.in_ok-analyze_op.was,
    )

pub returns : goal.returns
returns c =
    let l = c.loop-i in
    c.expect_terminator.ensures l.table c.args.self.arguments.now
    ∙ items-ended _ _ _ _ _ l.table _ _ c.args.first l.i c.args.count l.invariant.1 (omega arith)
