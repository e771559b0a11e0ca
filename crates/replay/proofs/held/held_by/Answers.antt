-- The list that was loaded stands first in the room (`stored-first`), so that the comparison is with it.
use Rattle.std.proofs.Common.{length}
use Rattle.std.proofs.lemmas.List.{length-map}
use Rattle.replay.specs.Lists.{list_at}
use Rattle.replay.proofs.Runs.{stored-first}
use Rattle.replay.proofs.held.held_by.Goals as goal

pub returns : goal.returns
returns g c =
    let list = list_at c.KIND.result c.args.«data».now (length c.args.room.now) c.args.seen.next in
    let first = stored-first list c.args.room.now c.load-list.new.cells c.load-list.result c.load-list.ensures.stored
    c.load-list.ensures.count_in_bounds in
    rw (
      c.kept.ensures,
      c.same.ensures,
      c.rest_of-rest.ensures,
      c.value.ensures,
      c.OLD.ensures,
      first,
      c.load-list.ensures.stored.next,
      c.KIND.ensures,
      length-map c.args.got.now g.T.Lent.value,
    )
