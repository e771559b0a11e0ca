-- The rows that are left, typed from here, give the whole answer: a turn types one of them, or refuses as its typing
-- does.
use Rattle.std.proofs.lemmas.Result.{err_from_is_err_and}
use native.Mathlib.Omega.{arith}
use mathlib.Core.Path.{refl, ap, ◌∙◌}
use Rattle.unit.specs.Rows.{Done}
use Rattle.unit.proofs.Turns.{rows-refused, rows-fine, rows-ended, RowsHeld-refused}
use Rattle.unit.proofs.types.type_with.Goals as goal

pub returns-in_err-analyze : goal.returns-in_err-analyze
returns-in_err-analyze c =
    let l = c.loop-row in
    let p = err_from_is_err_and c.from_residual.result c.from_residual.ensures.1 in
    RowsHeld-refused _ _ p.1
    (rw p.2 (rows-refused _ _ _ _ _ _ _ _ _ l.invariant.same (omega arith) l.table l.invariant.table_long
    c.analyze.ensures c.in_err-analyze.was))

pub elaborate-requires : goal.elaborate-requires
elaborate-requires c = (
  c.requires.0,
  c.requires.2,
  c.requires.3.types_few,
  omega (
    arith,
    c.requires.3.items_fit c.loop-row.row (omega arith) (omega arith),
    c.loop-row.invariant.items_long,
  ),
)

pub loop-row-preserved : goal.loop-row-preserved
loop-row-preserved c =
    let l = c.loop-row in
    record {
      table_long = c.analyze.auto.table ∙ l.invariant.table_long;
      items_long = c.elaborate.auto.items ∙ l.invariant.items_long;
      arguments_long = c.elaborate.auto.arguments ∙ l.invariant.arguments_long;
      same = rw (c.elaborate.ensures.after, c.elaborate.ensures.arguments_after)
          (rows-fine _ _ _ _ _ _ _ _ _ l.invariant.same (omega arith) l.table l.invariant.table_long
          c.analyze.ensures c.in_ok-analyze.was _ _ refl refl);
    }

pub returns : goal.returns
returns c =
    let d = rows-ended _ _ _ _ _ _ _ _ _ c.loop-row.invariant.same (omega arith) in
    record {
      answer = ap (λ (x : Done). x.end) d;
      held = (ap (λ (x : Done). x.items) d, ap (λ (x : Done). x.arguments) d);
    }
