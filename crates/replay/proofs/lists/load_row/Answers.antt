-- Each turn stores one cell more (`cell_stored`).
use Rattle.std.proofs.Common.{◌≡◌, ◌+◌, ◌-◌, sym, refl, ap, ◌∙◌, arith}
use Rattle.std.proofs.lemmas.List.{take-set-le}
use Rattle.replay.specs.Lists.{Values}
use Rattle.replay.specs.declared.lists.Kind.TheVariants.{Numbers}
use Rattle.replay.proofs.Rows.{values-more, values-none, cell_stored, row_done}
use Rattle.replay.proofs.lists.load_row.Goals as goal

pub loop-here-init : goal.loop-here-init
loop-here-init c =
    let e : c.args.start + c.args.width - c.args.start ≡ c.args.width = omega arith in
    record { same = refl; next = rw e; stored = rw e }

pub loop-here-preserved : goal.loop-here-preserved
loop-here-preserved c =
    let end = c.args.start + c.args.width in
    let more : end - c.loop-here.here ≡ end - (c.loop-here.here + 1) + 1 = omega arith in
    record {
      same = take-set-le end c.loop-here.cells (c.loop-here.here + c.args.width) _ (omega arith)
          ∙ c.loop-here.invariant.same;
      next = sym (ap (λ (v : Values). v.next) (values-more Numbers c.args.«data».now _ _ c.loop-here.at
          c.number_at-step.result more c.number_at-step.ensures))
          ∙ c.loop-here.invariant.next;
      stored = cell_stored c.args.«data».now c.args.cells.now c.loop-here.cells c.loop-here.at c.args.start c.args.width
          c.loop-here.here _ _ c.number_at-step.result _ more (omega arith) (omega arith) c.loop-here.invariant.same
          c.number_at-step.ensures refl
          ∙ c.loop-here.invariant.stored;
    }

pub returns : goal.returns
returns c =
    let none = values-none Numbers c.args.«data».now (c.args.start + c.args.width - c.loop-here.here) c.loop-here.at
    (omega arith) in
    record {
      value = rw none at c.loop-here.invariant.next;
      cells_after = sym (row_done c.args.cells.now c.loop-here.cells _ c.loop-here.here
          (c.args.start + c.args.width) c.args.width (omega arith))
          ∙ c.loop-here.invariant.stored;
    }
