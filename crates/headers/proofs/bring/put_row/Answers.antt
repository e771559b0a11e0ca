-- The row is copied, and then its name's cell stored.
use Rattle.headers.specs.Brought.{row_put}
use Rattle.headers.proofs.bring.put_row.Goals as goal

pub returns : goal.returns
unfolding row_put
returns c = rw (← c.copy_row.ensures)
