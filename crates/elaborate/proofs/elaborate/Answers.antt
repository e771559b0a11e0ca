-- The arguments are typed by the items before those are rewritten, so both clauses speak of the items at entry; what
-- that makes of cells that hold items is `elaborated`.
use Rattle.elaborate.proofs.Lists.{elaborated}
use Rattle.elaborate.proofs.elaborate.Goals as goal

pub returns : goal.returns
returns c =
    record {
      after = c.elaborate_items.ensures;
      arguments_after = c.elaborate_calls.ensures;
      elaborated = rw (c.elaborate_items.ensures, c.elaborate_calls.ensures) (elaborated _ _ _ _ _ _);
    }
