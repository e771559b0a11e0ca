-- Each turn stores one row more (`row-stored`).
use Rattle.std.proofs.Common.{◌≡◌, ◌+◌, ◌-◌, ◌*◌, refl, ◌∙◌, arith, lt-ltb}
use Rattle.replay.specs.Lists.{values_at, repeated}
use Rattle.replay.specs.declared.lists.Kind.TheVariants.{Numbers}
use Rattle.replay.proofs.Rows.{values_length, row-stored, next-row, row_fits}
use Rattle.replay.proofs.lists.load_rows.Goals as goal

pub load_row-next-requires : goal.load_row-next-requires
load_row-next-requires c =
    omega (arith, row_fits c.loop-row.row c.args.more c.args.width c.loop-row-test.true)

pub loop-row-preserved : goal.loop-row-preserved
loop-row-preserved c =
    let row = c.loop-row.row in
    let width = c.args.width in
    let steps = values_at Numbers c.args.«data».now width c.args.from in
    let fits = row_fits row c.args.more width c.loop-row-test.true in
    record {
      next = rw (lt-ltb 0 (row + 1) (omega arith)) c.load_row-next.ensures.value;
      stored = row-stored c.loop-row.cells c.load_row-next.new.cells steps.cells (row * width) ((row + 1) * width) width
          (c.args.more - row) (c.args.more - (row + 1)) (omega arith) (next-row row width)
          (values_length Numbers c.args.«data».now width c.args.from) (omega arith) c.load_row-next.ensures.cells_after
          ∙ c.loop-row.invariant.stored;
    }

pub returns : goal.returns
unfolding repeated
returns c =
    let all : c.loop-row.row ≡ c.args.more = omega arith in
    let none : c.args.more - c.loop-row.row ≡ 0 = omega arith in
    record {
      count = refl;
      next = rw all at c.loop-row.invariant.next;
      cells_after = rw none at c.loop-row.invariant.stored;
    }
