-- The cells lent are the table's, as many as its bytes have.
use native.Mathlib.Omega.{arith}
use Prim.Native.Nat.{ℕ}
use mathlib.Core.Path.{ap, ◌∙◌}
use mathlib.Core.List.{List}
use Rattle.recheck.specs.Recheck.{recheck_of}
use Rattle.exports.specs.CheckBytes.{exported}
use Rattle.pitchsleet.specs.RecheckBytes.{cells_at}
use Rattle.pitchsleet.proofs.Tables.{count_fits, cells_lent}
use Rattle.pitchsleet.proofs.rechecks.recheck_out.Goals as goal

pub get_cells-requires : goal.get_cells-requires
get_cells-requires c =
    count_fits _ _ c.cell_count-n.ensures

pub returns : goal.returns
returns c =
    let lent = cells_lent _ _ c.args.table.now c.cell_count-n.result
    (omega (arith, (count_fits _ _ c.cell_count-n.ensures).1)) c.get_cells.ensures in
    c.recheck_cells.ensures.stored
    ∙ ap (λ (l : List ℕ). exported c.args.out.now c.args.message.now
    (recheck_of c.args.old.now l c.args.number c.args.new.now))
    (lent ∙ ap (cells_at c.args.table.now 0) c.cell_count-n.ensures)

pub slice_bounds-recheck_cells-end : goal.slice_bounds-recheck_cells-end
slice_bounds-recheck_cells-end c =
    omega (arith, (count_fits _ _ c.cell_count-n.ensures).1, c.get_cells.auto.cells)
