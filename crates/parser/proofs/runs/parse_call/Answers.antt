-- The word, the callee, then the run of the arguments.
use Rattle.parser.proofs.Turning.{call-done, call-stopped, call-stored}
use Rattle.std.proofs.lemmas.Result.{err_from_is_err_and}
use Rattle.parser.proofs.runs.parse_call.Goals as goal

pub returns-in_err-count : goal.returns-in_err-count
returns-in_err-count c =
    let p = err_from_is_err_and c.from_residual-in_err-count.result c.from_residual-in_err-count.ensures.1 in
    record {
      value = rw (p.1, p.2) (call-stopped _ _ c.consume.ensures c.in_ok-at.was c.consume_named.ensures c.in_ok-callee.was c.parse_arguments.ensures.value c.in_err-count.was);
      cells_after = call-stored _ _ c.consume.ensures c.in_ok-at.was c.consume_named.ensures c.in_ok-callee.was _ _ c.parse_arguments.ensures.cells_after;
    }

pub returns : goal.returns
returns c =
    record {
      value = call-done _ _ c.consume.ensures c.in_ok-at.was c.consume_named.ensures c.in_ok-callee.was c.parse_arguments.ensures.value c.in_ok-count.was;
      cells_after = call-stored _ _ c.consume.ensures c.in_ok-at.was c.consume_named.ensures c.in_ok-callee.was _ _ c.parse_arguments.ensures.cells_after;
    }
