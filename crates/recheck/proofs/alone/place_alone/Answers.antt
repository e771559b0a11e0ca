-- The new row has its function type before it is copied over the replaced row's place. That place is at most the
-- replaced row's number, so the row fits.
use native.Mathlib.Omega.{arith}
use mathlib.Core.Path.{ap}
use lib.ListN.{length-set}
use Rattle.headers.specs.Brought.{Brought, brought}
use Rattle.headers.proofs.Brought.{grows}
use Rattle.recheck.proofs.alone.place_alone.Goals as goal

pub bounds-functions-8 : goal.bounds-functions-8
bounds-functions-8 c =
    omega (arith, length-set c.args.functions.now 0 1, c.requires.2)

pub copy_row-requires : goal.copy_row-requires
copy_row-requires c =
    let up =
    grows c.args.old.now c.args.rows.now c.args.new.now c.args.names.now c.args.known c.args.number 0
    (brought c.args.local.now 0) in (
      omega (arith, c.bring-placed.ensures.place, up.1, c.requires.0, c.requires.1),
      omega arith,
      omega (arith, c.bring-placed.auto.out, c.requires.3),
    )

pub returns : goal.returns
returns c =
    record {
      row = rw (← c.cell_at.ensures);
      table = rw (← ap (λ (b : Brought). b.cells) c.bring-placed.ensures.table) c.copy_row.ensures;
      count = ap (λ (b : Brought). b.count) c.bring-placed.ensures.table;
      place = c.bring-placed.ensures.place;
      few = c.bring-placed.ensures.few;
    }
