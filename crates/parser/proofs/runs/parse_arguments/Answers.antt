-- Of the whole run n variables are stored, and the rest is read from here (`Going`).
use Rattle.std.specs.Prelude.{Err, Ok}
use native.Mathlib.Omega.{arith}
use Rattle.std.proofs.lemmas.Result.{err_from_is_err_and}
use Prim.Native.Nat.{◌-◌}
use Rattle.parser.specs.Step.{then_at, refusal}
use Rattle.parser.proofs.Turning.{arguments-end, arguments-refused, arguments_full, arguments-more}
use Rattle.lexer.specs.Decoded.{tokens_of}
use Rattle.parser.proofs.Going.{begin, stop, onward}
use Rattle.parser.specs.Runs.{arguments_d}
use Rattle.parser.proofs.runs.parse_arguments.Goals as goal

pub loop-t-init : goal.loop-t-init
loop-t-init c =
    begin (arguments_d (tokens_of c.args.tokens.now) 16 c.args.at) c.args.used c.args.cells.now

pub returns-then-t-eq-SEMICOLON : goal.returns-then-t-eq-SEMICOLON
unfolding then_at
returns-then-t-eq-SEMICOLON c =
    let ts = tokens_of c.args.tokens.now in
    let turn = arguments-end ts (16 - c.loop-t.n) c.loop-t.here c.token_at-t.ensures c.if-t-eq-SEMICOLON.true in
    let s = stop (Ok c.token_at-t.result.next) c.loop-t.invariant turn in
    record {
      value = s.0;
      cells_after = s.1;
    }

pub returns-in_err-id : goal.returns-in_err-id
unfolding then_at
returns-in_err-id c =
    let ts = tokens_of c.args.tokens.now in
    let turn =
    arguments-refused ts (16 - c.loop-t.n) c.loop-t.here c.token_at-t.ensures c.if-t-eq-SEMICOLON.false
    c.consume_named.ensures
    c.in_err-id.was in
    let s = stop (Err c.in_err-id.field-0.0) c.loop-t.invariant turn in
    let p = err_from_is_err_and c.from_residual.result c.from_residual.ensures.1 in
    record {
      value = rw (p.1, p.2) s.0;
      cells_after = s.1;
    }

pub returns-then-n-ge-ARGUMENTS : goal.returns-then-n-ge-ARGUMENTS
unfolding then_at
returns-then-n-ge-ARGUMENTS c =
    let ts = tokens_of c.args.tokens.now in
    let turn =
    arguments_full ts (16 - c.loop-t.n) c.loop-t.here (omega (
      arith,
      c.if-n-ge-ARGUMENTS.true,
    )) c.token_at-t.ensures c.if-t-eq-SEMICOLON.false c.consume_named.ensures c.in_ok-id.was in
    let s = stop (Err (refusal 37 c.loop-t.here 0)) c.loop-t.invariant turn in
    record {
      value = rw c.refuse.ensures s.0;
      cells_after = s.1;
    }

pub overflow_mul-n : goal.overflow_mul-n
overflow_mul-n c =
    omega (arith, c.loop-t.invariant.few)

pub overflow_add-used : goal.overflow_add-used
overflow_add-used c =
    omega (arith, c.loop-t.invariant.few, c.loop-t.invariant.long, c.requires)

pub put_variable-requires : goal.put_variable-requires
put_variable-requires c =
    omega (arith, c.loop-t.invariant.long, c.if-n-ge-ARGUMENTS.false)

pub overflow_add-n : goal.overflow_add-n
overflow_add-n c =
    omega (arith, c.loop-t.invariant.few)

pub loop-t-smaller : goal.loop-t-smaller
loop-t-smaller c =
    omega (arith, c.if-n-ge-ARGUMENTS.false)

pub loop-t-preserved : goal.loop-t-preserved
loop-t-preserved c =
    let ts = tokens_of c.args.tokens.now in
    let turn =
    arguments-more ts c.loop-t.n c.loop-t.here c.if-n-ge-ARGUMENTS.false c.token_at-t.ensures
    c.if-t-eq-SEMICOLON.false c.consume_named.ensures
    c.in_ok-id.was in
    onward _ _ _ c.loop-t.invariant c.if-n-ge-ARGUMENTS.false turn c.put_variable.ensures
