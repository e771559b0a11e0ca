-- What is left to read, read from here, gives the whole body (`Reading`); each turn takes tokens.
use native.Mathlib.Omega.{arith}
use Rattle.std.proofs.lemmas.Result.{err_from_is_err_and}
use Rattle.lexer.specs.Decoded.{tokens_of}
use Rattle.body.specs.Answer.{function_body}
use Rattle.body.proofs.Reading.{begin, ready, onward, stop, finish, closed-read, refused-read}
use Rattle.body.proofs.parse_body.Goals as goal

pub loop-next-init : goal.loop-next-init
loop-next-init c = (
  4096,
  0,
  begin (tokens_of c.args.tokens.now) c.args.void c.args.at c.args.first c.args.used c.args.items.now
      c.args.arguments.now
      c.args.labels.now c.requires.within,
)

pub turn-requires : goal.turn-requires
turn-requires c = (
  ready c.requires.first_bound.0 c.requires.first_bound.1 c.loop-next.invariant.2,
  omega (arith, c.loop-next.invariant.2.long-items, c.requires.items_size_in_bounds.0),
  omega
      (arith, c.loop-next.invariant.2.long-arguments, c.requires.items_size_in_bounds.1),
  omega (arith, c.loop-next.invariant.2.long-labels, c.requires.items_size_in_bounds.2),
)

pub loop-next-smaller : goal.loop-next-smaller
loop-next-smaller c =
    let g = rw (c.in_ok-next.was, c.in-On.is) at c.turn.ensures in
    omega (arith, g.passed.two, c.loop-next.invariant.2.within.reached, c.loop-next.invariant.2.within.few)

pub loop-next-preserved : goal.loop-next-preserved
loop-next-preserved c =
    let g = rw (c.in_ok-next.was, c.in-On.is) at c.turn.ensures in
    onward c.requires.first_bound.0 c.requires.first_bound.1 c.loop-next.invariant.0 c.loop-next.invariant.1
    c.loop-next.invariant.2 c.turn.auto.labels g

pub overflow_sub-result : goal.overflow_sub-result
overflow_sub-result c =
    let g = rw (c.in_ok-next.was, c.in-Done.is) at c.turn.ensures in
    let f =
    finish c.requires.first_bound.0 c.requires.first_bound.1 c.loop-next.invariant.0 c.loop-next.invariant.1
    c.loop-next.invariant.2 g in
    omega (arith, f.1)

pub overflow_sub-result-in-Done : goal.overflow_sub-result-in-Done
overflow_sub-result-in-Done c =
    let g = rw (c.in_ok-next.was, c.in-Done.is) at c.turn.ensures in
    let f =
    finish c.requires.first_bound.0 c.requires.first_bound.1 c.loop-next.invariant.0 c.loop-next.invariant.1
    c.loop-next.invariant.2 g in
    omega (arith, f.2)

pub returns-in-Done : goal.returns-in-Done
returns-in-Done c =
    let ts = tokens_of c.args.tokens.now in
    let g = rw (c.in_ok-next.was, c.in-Done.is) at c.turn.ensures in
    let f =
    finish c.requires.first_bound.0 c.requires.first_bound.1 c.loop-next.invariant.0 c.loop-next.invariant.1
    c.loop-next.invariant.2 g in
    let w = closed-read ts c.args.void c.args.at c.args.first c.args.used (function_body ts c.args.at) c.in-Done.e
    c.args.items.now c.turn.new.items c.args.arguments.now c.turn.new.arguments
    c.args.labels.now c.turn.new.labels f in
    record { value = w.0; held = w.1 }

pub returns-in_err-next : goal.returns-in_err-next
returns-in_err-next c =
    let ts = tokens_of c.args.tokens.now in
    let p = err_from_is_err_and c.from_residual.result c.from_residual.ensures.1 in
    let g = rw c.in_err-next.was at c.turn.ensures in
    let f = stop c.requires.first_bound.0 c.requires.first_bound.1 c.loop-next.invariant.0 c.loop-next.invariant.1
    c.in_err-next.field-0.0 c.loop-next.invariant.2 g in
    let w = refused-read ts c.args.void c.args.at c.args.first c.args.used
    (function_body ts c.args.at) c.in_err-next.field-0.0
    c.args.items.now c.turn.new.items c.args.arguments.now c.turn.new.arguments
    c.args.labels.now c.turn.new.labels f in
    record { value = rw (p.1, p.2) w.0; held = w.1 }
