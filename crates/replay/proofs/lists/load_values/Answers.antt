-- Each turn stores one value more (`value-stored`).
use Rattle.std.proofs.Common.{◌+◌, ◌-◌, length, sym, ap, ◌∙◌, arith, append-nil}
use Rattle.std.proofs.lemmas.List.{take_all}
use Rattle.replay.specs.Lists.{Values}
use Rattle.replay.proofs.Rows.{values-more, values-none, value-stored}
use Rattle.replay.proofs.lists.load_values.Goals as goal

pub loop-cell-preserved : goal.loop-cell-preserved
loop-cell-preserved c =
    let i = c.loop-cell.cell-index in
    let n = length c.args.cells.now in
    let more = values-more c.args.kind c.args.«data».now (n - i) (n - (i + 1)) c.loop-cell.at c.value_at-number.result
    (omega arith) c.value_at-number.ensures in
    record {
      next = sym (ap (λ (v : Values). v.next) more) ∙ c.loop-cell.invariant.next;
      stored = value-stored c.loop-cell.cells _ i c.value_at-number.result.value (omega arith)
          ∙ (rw more at c.loop-cell.invariant.stored);
    }

pub returns : goal.returns
returns c =
    let i = c.loop-cell.cell-index in
    let none = values-none c.args.kind c.args.«data».now (length c.args.cells.now - i) c.loop-cell.at (omega arith) in
    record {
      value = rw none at c.loop-cell.invariant.next;
      cells_after = sym (append-nil c.loop-cell.cells)
          ∙ (rw (none, take_all i c.loop-cell.cells (omega arith)) at c.loop-cell.invariant.stored);
    }
