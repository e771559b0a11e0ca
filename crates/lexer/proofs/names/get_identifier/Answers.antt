-- The length, the look-up and the room decide as in `identified`; a new name's two cells are stored as one run.
use native.Mathlib.Omega.{arith}
use Prim.Native.Nat.{◌+◌}
use mathlib.Core.Path.{ap, ◌∙◌}
use Rattle.pieces.proofs.Compare.{part-between}
use Rattle.lexer.specs.Steps.{print_of}
use Rattle.pieces.proofs.Picked.{tests}
use Rattle.lexer.specs.Numbered.{identified}
use Rattle.lexer.proofs.Cases.{found_as, names_few, names_full, new-number}
use Rattle.lexer.proofs.names.get_identifier.Goals as goal

pub lookup-requires : goal.lookup-requires
lookup-requires c =
    let part = part-between c.args.at.place (c.args.at.place + c.args.len) c.args.text.now (omega arith) in
    (c.requires.0, c.requires.1, c.requires.2, c.print_of-print.ensures ∙ ap print_of part)

pub returns-else-count-ge-NAMES : goal.returns-else-count-ge-NAMES
unfolding identified
returns-else-count-ge-NAMES c =
    record {
      value = search (tests, found_as, names_few, new-number);
      names_after = c.put_cells.ensures;
    }

pub returns-then-count-ge-NAMES-clause-value : goal.returns-then-count-ge-NAMES-clause-value
unfolding identified
returns-then-count-ge-NAMES-clause-value c = search (tests, found_as, names_full)
