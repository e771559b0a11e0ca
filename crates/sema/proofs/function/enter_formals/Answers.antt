-- Entering the formals that are left into the table as it is gives what entering all of them into the table at entry
-- gives (`formals-fine`), and the first that is refused is refused there too (`formals-refused`).
use Rattle.std.proofs.lemmas.Result.{err_from_is_err_and}
use native.Mathlib.Omega.{arith}
use mathlib.Core.Path.{◌∙◌}
use Rattle.sema.proofs.Threads.{formals-refused, formals-fine, formals-ended}
use Rattle.sema.proofs.function.enter_formals.Goals as goal

pub returns-in_err-insert : goal.returns-in_err-insert
returns-in_err-insert c =
    let p = err_from_is_err_and c.from_residual.result c.from_residual.ensures.1 in
    rw (p.1, p.2)
    (formals-refused c.args.token c.args.table.now _ c.loop-i.table c.args.rows.now c.args.first c.loop-i.i c.args.count
    c.loop-i.invariant.1 (omega arith) c.insert.ensures c.in_err-insert.was)

pub loop-i-preserved : goal.loop-i-preserved
loop-i-preserved c = (
  c.insert.auto.table ∙ c.loop-i.invariant.0,
  formals-fine c.args.token c.args.table.now _ c.loop-i.table c.args.rows.now c.args.first c.loop-i.i c.args.count
      c.loop-i.invariant.1 (omega arith) c.insert.ensures c.in_ok-insert.was,
)

pub returns : goal.returns
returns c =
    formals-ended c.args.token c.args.table.now _ c.loop-i.table c.args.rows.now c.args.first c.loop-i.i c.args.count
    c.loop-i.invariant.1 (omega arith)
