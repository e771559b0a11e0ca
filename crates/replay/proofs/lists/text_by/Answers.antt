-- The list that was loaded stands first in the cells (`stored-first`), and its cells are narrowed.
use Rattle.std.proofs.Common.{length, refl, ◌∙◌, arith}
use Rattle.replay.specs.Lists.{list_at}
use Rattle.replay.specs.declared.lists.Kind.TheVariants.{Bytes}
use Rattle.replay.proofs.Runs.{stored-first, text-fits, text_too_long}
use Rattle.replay.proofs.lists.text_by.Goals as goal

pub returns-then-text-list : goal.returns-then-text-list
returns-then-text-list c =
    record {
      stored = text_too_long c.args.«data».now c.args.cells.now c.args.text.now _ c.args.from c.load-list.result
          c.load-list.new.cells c.load-list.ensures.stored _ c.if-text-list.true refl refl;
      count_in_bounds = omega arith;
    }

pub returns : goal.returns
returns c =
    let list = list_at Bytes c.args.«data».now (length c.args.cells.now) c.args.from in
    let first = stored-first list c.args.cells.now c.load-list.new.cells c.load-list.result c.load-list.ensures.stored
    c.load-list.ensures.count_in_bounds in record {
      stored = text-fits c.args.«data».now c.args.cells.now c.args.text.now (length c.args.cells.now) c.args.from
          c.load-list.result
          c.load-list.new.cells c.load-list.ensures.stored _ c.if-text-list.false (c.narrow.ensures ∙ rw first);
      count_in_bounds = c.if-text-list.false;
    }
