-- The rows before the given one and the rows from it on are brought one after the other: together, the whole table.
use native.Mathlib.Omega.{arith}
use Rattle.headers.specs.Brought.{brought}
use Rattle.headers.proofs.Turns.{brought-whole}
use Rattle.headers.proofs.bring.bring.Goals as goal

pub returns : goal.returns
returns c =
    record {
      table =
          rw (← c.cell_at-count.ensures)
          (brought-whole c.args.old.now c.args.rows.now c.args.new.now c.args.names.now c.args.known c.args.number
          c.cell_at-count.result (brought c.args.out.now 0) (brought c.bring_rows-place.new.out
          c.bring_rows-place.result)
          (brought c.bring_rows-all.new.out c.bring_rows-all.result) (omega (arith, c.requires.0))
          c.bring_rows-place.ensures.result_after c.bring_rows-all.ensures.result_after);
      place = rw (← c.bring_rows-place.ensures.result_after);
      few = omega (arith, c.requires.0, c.requires.1);
    }
