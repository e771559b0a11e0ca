-- A new name's print is that of its record's bytes (`prints_more`); where there is none, all are kept already.
use native.Mathlib.Omega.{arith}
use Prim.Native.Nat.{◌+◌, ◌*◌}
use mathlib.Core.Path.{refl, ap, ◌∙◌}
use lib.ListN.{get_or}
use Rattle.pieces.proofs.Compare.{part-between}
use Rattle.lexer.specs.Steps.{print_of}
use Rattle.lexer.proofs.Parts.{record_within}
use Rattle.lexer.proofs.Prints.{prints_more, prints_as}
use Rattle.lexer.proofs.names.keep_print.Goals as goal

pub bounds-prints-count : goal.bounds-prints-count
bounds-prints-count c =
    omega (arith, c.requires.0.few, c.requires.1.room, c.if-count-then.true)

pub overflow_add-end : goal.overflow_add-end
overflow_add-end c =
    let in_text = record_within c.args.text.now c.args.names.now c.args.then c.args.count
    c.if-count-then.true c.requires.0 in
    omega (arith, in_text, c.requires.0.small)

pub returns-then-count-then : goal.returns-then-count-then
returns-then-count-then c =
    let place = get_or c.args.names.now (c.args.count * 2) 0 in
    let part = part-between place (place + get_or c.args.names.now (c.args.count * 2 + 1) 0) c.args.text.now (omega
    arith) in
    prints_more c.args.then c.print_of.result _ c.if-count-then.true c.requires.2 c.requires.0.few
    (c.print_of.ensures ∙ ap print_of part) refl c.requires.1

pub returns-else-count-then : goal.returns-else-count-then
returns-else-count-then c =
    prints_as c.args.then c.if-count-then.false c.requires.1

pub slice_bounds-print_of-end : goal.slice_bounds-print_of-end
slice_bounds-print_of-end c =
    let in_text = record_within c.args.text.now c.args.names.now c.args.then c.args.count
    c.if-count-then.true c.requires.0 in
    omega (arith, in_text)
