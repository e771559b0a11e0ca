-- The cells are lex_text's; what is left is a refusal's message, and the numbers.
use native.Mathlib.Omega.{arith}
use mathlib.Core.Path.{sym, ◌∙◌}
use Rattle.lexer.proofs.Promise.{into-done, into-refused}
use Rattle.lexer.proofs.Sound.{refused_sound}
use Rattle.lexer.proofs.Accepted.{result-done, result-refused}
use Rattle.read.proofs.read_into.Goals as goal

pub answer_of-requires : goal.answer_of-requires
answer_of-requires c =
    let o = result-refused c.args.line c.args.text.now _ (sym c.in-Err.is ∙ c.lex_text.ensures.value) in
    omega (arith, (refused_sound c.args.line c.args.text.now _ o).place_small)

pub returns-in-Err : goal.returns-in-Err
returns-in-Err c =
    let o = result-refused c.args.line c.args.text.now _ (sym c.in-Err.is ∙ c.lex_text.ensures.value) in
    rw c.answer_of.ensures
    (into-refused c.args.line c.args.text.now _ o _ _ c.args.message.now _ c.report.ensures)

pub returns-in-Ok : goal.returns-in-Ok
returns-in-Ok c =
    let n = c.in-Ok.counts in
    let d = result-done c.args.line c.args.text.now n.tokens n.names (sym c.in-Ok.is ∙ c.lex_text.ensures.value) in
    into-done d c.args.tokens.now c.args.names.now _ _ c.args.message.now _
    c.lex_text.ensures.held
