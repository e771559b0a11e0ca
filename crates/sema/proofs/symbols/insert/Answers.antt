-- A name past the table's end reads as absent, and entering it changes
-- nothing (`set_out`), so there it is right to leave the table alone.
use lib.Seq.{set_out}
use lib.ListN.{get_or-eq_default}
use Rattle.sema.specs.Symbols.{enter_d}
use Rattle.utils.specs.Bytes.{pick}
use Rattle.sema.proofs.symbols.insert.Goals as goal

pub returns-then-table-i : goal.returns-then-table-i
unfolding enter_d pick
returns-then-table-i c =
    rw (
      get_or-eq_default c.args.table.now 0 {n = c.args.name.0} c.if-table-i.true,
      set_out c.args.table.now
          c.args.name.0 c.args.ty c.if-table-i.true,
    )
