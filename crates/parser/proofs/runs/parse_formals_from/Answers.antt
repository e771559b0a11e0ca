-- Of the whole run n variables are stored, and the rest is read from here (`Going`).
use Rattle.std.specs.Prelude.{Err}
use native.Mathlib.Omega.{arith}
use Rattle.std.proofs.lemmas.Result.{err_from_is_err_and}
use mathlib.Core.Path.{refl, ◌∙◌}
use Rattle.parser.specs.Grammar.{consume_d}
use Rattle.parser.proofs.Turning.{formals-refused, formals-room, formals-last, formals-more}
use Rattle.lexer.specs.Decoded.{tokens_of}
use Rattle.parser.proofs.Going.{begin, stop, onward}
use Rattle.parser.specs.Step.{then_at}
use Rattle.parser.specs.Runs.{formals_from_d, closed_d}
use Rattle.parser.proofs.runs.parse_formals_from.Goals as goal

pub loop-v-init : goal.loop-v-init
loop-v-init c =
    begin (formals_from_d (tokens_of c.args.tokens.now) 16 c.args.at) c.args.used c.args.cells.now

pub returns-in_err-v : goal.returns-in_err-v
unfolding then_at
returns-in_err-v c =
    let ts = tokens_of c.args.tokens.now in
    let turn = formals-refused ts c.loop-v.n c.loop-v.here c.loop-v.invariant.few c.parse_formal.ensures
    c.in_err-v.was in
    let s = stop (Err c.in_err-v.field-0.0) c.loop-v.invariant turn in
    let p = err_from_is_err_and c.from_residual.result c.from_residual.ensures.1 in
    record {
      value = rw (p.1, p.2) s.0;
      cells_after = s.1;
    }

pub overflow_mul-n : goal.overflow_mul-n
overflow_mul-n c =
    omega (arith, c.loop-v.invariant.few)

pub overflow_add-used : goal.overflow_add-used
overflow_add-used c =
    omega (arith, c.loop-v.invariant.few, c.loop-v.invariant.long, c.requires)

pub put_variable-requires : goal.put_variable-requires
put_variable-requires c =
    let ts = tokens_of c.args.tokens.now in
    let room = formals-room ts c.loop-v.n c.loop-v.here c.loop-v.invariant.few c.parse_formal.ensures c.in_ok-v.was in
    omega (arith, c.loop-v.invariant.long, room, c.requires)

pub overflow_add-n : goal.overflow_add-n
overflow_add-n c =
    omega (arith, c.loop-v.invariant.few)

pub returns-then-t-ne-COMMA : goal.returns-then-t-ne-COMMA
unfolding then_at closed_d
returns-then-t-ne-COMMA c =
    let ts = tokens_of c.args.tokens.now in
    let room = formals-room ts c.loop-v.n c.loop-v.here c.loop-v.invariant.few c.parse_formal.ensures c.in_ok-v.was in
    let turn =
    formals-last ts c.loop-v.n c.loop-v.here room c.parse_formal.ensures c.in_ok-v.was c.token_at-t.ensures
    c.if-t-ne-COMMA.true
    in
    let g = onward _ _ _ c.loop-v.invariant room turn c.put_variable.ensures in
    let s = stop (consume_d ts c.in_ok-v.next 26) g refl in
    record {
      value = c.close_formals.ensures ∙ s.0;
      cells_after = s.1;
    }

pub loop-v-smaller : goal.loop-v-smaller
loop-v-smaller c =
    let ts = tokens_of c.args.tokens.now in
    let room = formals-room ts c.loop-v.n c.loop-v.here c.loop-v.invariant.few c.parse_formal.ensures c.in_ok-v.was in
    omega (arith, room)

pub loop-v-preserved : goal.loop-v-preserved
loop-v-preserved c =
    let ts = tokens_of c.args.tokens.now in
    let room = formals-room ts c.loop-v.n c.loop-v.here c.loop-v.invariant.few c.parse_formal.ensures c.in_ok-v.was in
    let turn =
    formals-more ts c.loop-v.n c.loop-v.here room c.parse_formal.ensures c.in_ok-v.was c.token_at-t.ensures
    c.if-t-ne-COMMA.false
    in
    onward _ _ _ c.loop-v.invariant room turn c.put_variable.ensures
