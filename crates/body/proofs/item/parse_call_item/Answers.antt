-- The call, then its record; it has sixteen arguments at most, so their count fits its cell.
use Rattle.std.proofs.Common.{sym, ◌∙◌, arith}
use Rattle.std.proofs.lemmas.Result.{err_from_is_err_and}
use Rattle.lexer.specs.Decoded.{tokens_of}
use Rattle.parser.specs.Step.{then_at}
use Rattle.parser.specs.Runs.{call_d}
use Rattle.body.specs.Turns.{call_read}
use Rattle.body.proofs.Progress.{call_in}
use Rattle.body.proofs.Items.{called-done, called-refused}
use Rattle.body.proofs.item.parse_call_item.Goals as goal

pub overflow_cast-run-2 : goal.overflow_cast-run-2
overflow_cast-run-2 c =
    let ts = tokens_of c.args.tokens.now in
    let d = called-done (call_d ts c.args.word) (sym c.in_ok-callee.was ∙ c.parse_call.ensures.value) in
    let few = (call_in ts c.requires.0.last c.requires.0.ends c.args.word c.requires.0.reached).few in
    omega (arith, few, d.2)

pub returns-in_err-callee-clause-value : goal.returns-in_err-callee-clause-value
unfolding call_read then_at
returns-in_err-callee-clause-value c =
    let ts = tokens_of c.args.tokens.now in
    let p = err_from_is_err_and c.from_residual.result c.from_residual.ensures.1 in
    rw (p.1, p.2, called-refused (call_d ts c.args.word) (sym c.in_err-callee.was ∙ c.parse_call.ensures.value))

pub returns-clause-value : goal.returns-clause-value
unfolding call_read then_at
returns-clause-value c =
    let ts = tokens_of c.args.tokens.now in
    let d = called-done (call_d ts c.args.word) (sym c.in_ok-callee.was ∙ c.parse_call.ensures.value) in
    rw (d.0, c.record_of-item.ensures, d.1, d.2)
