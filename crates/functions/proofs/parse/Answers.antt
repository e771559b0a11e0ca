-- `Going` is kept: the functions left to read, stored behind those that are there, give the whole program (`read-on`).
-- Each turn fills one of 64 rows, so the loop ends; a 65th function is refused by its header.
use Rattle.functions.proofs.Program.{begin, at_end, refused-read, read-on}
use Rattle.functions.specs.Answer.{held}
use Rattle.functions.proofs.Slices.{same, then_same}
use Rattle.lexer.specs.Decoded.{tokens_of}
use Rattle.std.proofs.lemmas.Result.{err_from_is_err_and}
use native.Mathlib.Omega.{arith}
use mathlib.Core.Path.{refl, sym, ◌∙◌}
use Rattle.functions.proofs.parse.Goals as goal

pub loop-unit-init : goal.loop-unit-init
loop-unit-init c = (
  begin (tokens_of c.args.tokens.now) c.args.names.now _
      (record {
        within = c.requires.0;
        items_few = omega arith;
        arguments_few = omega arith;
        blocks_few = omega arith;
        predecessors_few = omega arith;
      }),
  same _,
)

pub overflow_cast-unit : goal.overflow_cast-unit
overflow_cast-unit c = omega (arith, c.loop-unit.invariant.0.few)

pub bounds-unit-0 : goal.bounds-unit-0
bounds-unit-0 c =
    omega (arith, c.loop-unit.invariant.0.functions_kept, c.requires.1)

pub returns-then-t-eq-END_OF_FILE-clause-value : goal.returns-then-t-eq-END_OF_FILE-clause-value
returns-then-t-eq-END_OF_FILE-clause-value c =
    let w = at_end (tokens_of c.args.tokens.now) c.args.names.now _ c.loop-unit.invariant.0 c.token_at-t.ensures
    c.if-t-eq-END_OF_FILE.true in
    w.0

pub returns-then-t-eq-END_OF_FILE-clause-held : goal.returns-then-t-eq-END_OF_FILE-clause-held
returns-then-t-eq-END_OF_FILE-clause-held c =
    let w = at_end (tokens_of c.args.tokens.now) c.args.names.now _ c.loop-unit.invariant.0 c.token_at-t.ensures
    c.if-t-eq-END_OF_FILE.true in
    w.1.0

pub returns-then-t-eq-END_OF_FILE-clause-all_fit : goal.returns-then-t-eq-END_OF_FILE-clause-all_fit
returns-then-t-eq-END_OF_FILE-clause-all_fit c =
    let w = at_end (tokens_of c.args.tokens.now) c.args.names.now _ c.loop-unit.invariant.0 c.token_at-t.ensures
    c.if-t-eq-END_OF_FILE.true in
    w.1.1

pub parse_function-requires : goal.parse_function-requires
parse_function-requires c = (
  c.loop-unit.invariant.0.room,
  c.loop-unit.invariant.0.few,
  c.loop-unit.invariant.0.types_few,
  omega (arith, c.loop-unit.invariant.0.functions_kept, c.requires.1),
  record {
    items_long = omega (arith, c.loop-unit.invariant.0.items_kept, c.requires.2.items_long);
    arguments_long = omega (arith, c.loop-unit.invariant.0.arguments_kept, c.requires.2.arguments_long);
    blocks_long = omega (arith, c.loop-unit.invariant.0.blocks_kept, c.requires.2.blocks_long);
    predecessors_long = omega (arith, c.loop-unit.invariant.0.predecessors_kept, c.requires.2.predecessors_long);
  },
)

pub returns-in_err-read-clause-value : goal.returns-in_err-read-clause-value
returns-in_err-read-clause-value c =
    let p = err_from_is_err_and c.from_residual.result c.from_residual.ensures.1 in
    let w = refused-read (tokens_of c.args.tokens.now) c.args.names.now _ c.loop-unit.invariant.0
    c.token_at-t.ensures c.if-t-eq-END_OF_FILE.false _ refl
    (sym c.in_err-read.was ∙ c.parse_function.ensures.value) (held c.parse_function.new.unit) in
    rw (p.1, p.2) w.0

pub returns-in_err-read-clause-held : goal.returns-in_err-read-clause-held
returns-in_err-read-clause-held c =
    let p = err_from_is_err_and c.from_residual.result c.from_residual.ensures.1 in
    let w = refused-read (tokens_of c.args.tokens.now) c.args.names.now _ c.loop-unit.invariant.0
    c.token_at-t.ensures c.if-t-eq-END_OF_FILE.false _ refl
    (sym c.in_err-read.was ∙ c.parse_function.ensures.value) (held c.parse_function.new.unit) in
    w.1.0

pub returns-in_err-read-clause-all_fit : goal.returns-in_err-read-clause-all_fit
returns-in_err-read-clause-all_fit c =
    let p = err_from_is_err_and c.from_residual.result c.from_residual.ensures.1 in
    let w = refused-read (tokens_of c.args.tokens.now) c.args.names.now _ c.loop-unit.invariant.0
    c.token_at-t.ensures c.if-t-eq-END_OF_FILE.false _ refl
    (sym c.in_err-read.was ∙ c.parse_function.ensures.value) (held c.parse_function.new.unit) in
    w.1.1

pub loop-unit-smaller : goal.loop-unit-smaller
loop-unit-smaller c =
    let on = read-on (tokens_of c.args.tokens.now) c.args.names.now _ c.loop-unit.invariant.0 c.token_at-t.ensures
    c.if-t-eq-END_OF_FILE.false _
    refl _ c.parse_function.ensures.function_held _
    (sym c.in_ok-read.was ∙ c.parse_function.ensures.value) in
    omega (arith, on.1, on.2)

pub loop-unit-preserved : goal.loop-unit-preserved
loop-unit-preserved c =
    let on = read-on (tokens_of c.args.tokens.now) c.args.names.now _ c.loop-unit.invariant.0 c.token_at-t.ensures
    c.if-t-eq-END_OF_FILE.false _
    refl _ c.parse_function.ensures.function_held _
    (sym c.in_ok-read.was ∙ c.parse_function.ensures.value) in
    (on.0, then_same _ _ _ c.loop-unit.invariant.1 c.parse_function.ensures.same)

pub returns-in_err-read-clause-same : goal.returns-in_err-read-clause-same
returns-in_err-read-clause-same c = then_same _ _ _ c.loop-unit.invariant.1 c.parse_function.ensures.same
