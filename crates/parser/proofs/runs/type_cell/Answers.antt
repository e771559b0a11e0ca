-- Case by case, as the definition.
use mathlib.Core.Path.{sym, ap}
use Rattle.parser.specs.Runs.{type_cell}
use Rattle.parser.proofs.runs.type_cell.Goals as goal

pub returns-in-Fn : goal.returns-in-Fn
returns-in-Fn c =
    sym (ap type_cell c.in-Fn.is)
