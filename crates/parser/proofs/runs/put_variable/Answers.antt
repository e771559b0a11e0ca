-- A variable's two cells are stored as one run.
use Rattle.parser.proofs.runs.put_variable.Goals as goal

pub returns : goal.returns
returns c =
    rw (← c.type_cell.ensures) c.put_cells.ensures
