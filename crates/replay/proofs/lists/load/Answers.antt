-- The runs that are left, stored behind `count` cells, give the whole list (`Left`). At the file's end no run is left.
use Rattle.std.proofs.Common.{◌-◌, length, take, drop, ap, arith, length-drop}
use Rattle.replay.specs.Lists.{run_at}
use Rattle.std.proofs.lemmas.List.{take_rest}
use Rattle.replay.proofs.Rows.{put-last}
use Rattle.replay.proofs.Runs.{all_left, none_left, at_end, one_less, fitting-le}
use Rattle.replay.proofs.lists.load.Goals as goal

pub loop-done-init : goal.loop-done-init
loop-done-init c = all_left _ _ _ _ _ _ c.number_at-runs.ensures (omega arith)

pub returns-then-at-data : goal.returns-then-at-data
returns-then-at-data c =
    record {
      stored = at_end c.args.kind c.args.«data».now c.args.from c.args.cells.now c.loop-done.cells _ c.loop-done.at
          c.loop-done.count c.loop-done.invariant c.if-at-data.true;
      count_in_bounds = c.loop-done.invariant.within;
    }

pub overflow_add-count : goal.overflow_add-count
overflow_add-count c =
    let part = take (length c.loop-done.cells - c.loop-done.count) (drop c.loop-done.count c.loop-done.cells) in
    let fits = fitting-le (length part)
    (length c.args.«data».now)
    (run_at c.args.kind c.args.«data».now c.loop-done.at) in
    let rest = take_rest c.loop-done.cells c.loop-done.count in
    omega (arith, c.load_run-run.ensures.count, ap length rest, length-drop c.loop-done.count c.loop-done.cells)

pub loop-done-preserved : goal.loop-done-preserved
loop-done-preserved c =
    one_less c.args.kind c.args.«data».now c.args.from c.args.cells.now c.loop-done.cells _ c.loop-done.at
    c.loop-done.count c.loop-done.invariant _ _ c.load_run-run.new.cells _
    c.load_run-run.result (omega arith) c.loop-done.auto.cells
    (take_rest c.loop-done.cells c.loop-done.count) (put-last c.loop-done.cells _ c.loop-done.count)
    c.load_run-run.ensures

pub returns : goal.returns
returns c =
    record {
      stored = none_left c.args.kind c.args.«data».now c.args.from c.args.cells.now c.loop-done.cells _ c.loop-done.at
          c.loop-done.count c.loop-done.invariant (omega arith);
      count_in_bounds = c.loop-done.invariant.within;
    }
