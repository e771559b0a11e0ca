-- The function is read with nothing counted, and the token behind it decides as in `alone_d`.
use native.Mathlib.Omega.{arith}
use Rattle.std.proofs.lemmas.Result.{err_from_is_err_and}
use mathlib.Core.Path.{refl, sym, ◌∙◌}
use Rattle.lexer.specs.Decoded.{tokens_of}
use Rattle.functions.specs.Rows.{known_from}
use Rattle.functions.specs.Answer.{held}
use Rattle.recheck.proofs.Parsed.{alone-refused, alone-end, alone-global, alone-other}
use Rattle.recheck.proofs.alone.parse_alone.Goals as goal

pub parse_function-requires : goal.parse_function-requires
parse_function-requires c = (
  record {
    within = c.requires.0;
    items_few = omega arith;
    arguments_few = omega arith;
    blocks_few = omega arith;
    predecessors_few = omega arith;
  },
  omega arith,
  omega arith,
  c.requires.1,
  c.requires.2,
)

pub returns-in-38 : goal.returns-in-38
unfolding known_from
returns-in-38 c =
    let given = held c.args.unit.now in
    let w = alone-end (tokens_of c.args.tokens.now) c.args.names.now given _ _ refl
    (sym c.in_ok-read.was ∙ c.parse_function.ensures.value) c.parse_function.ensures.function_held c.token_at.ensures
    c.in-38.is in
    record { value = w.0; function_held = w.1; same = c.parse_function.ensures.same }

pub returns-in-2 : goal.returns-in-2
unfolding known_from
returns-in-2 c =
    let given = held c.args.unit.now in
    let w = alone-global (tokens_of c.args.tokens.now) c.args.names.now given _ _ refl
    (sym c.in_ok-read.was ∙ c.parse_function.ensures.value) c.token_at.ensures (λ e. omega (arith, e, c.in-2.is))
    c.in-2.is c.refuse.ensures in
    record { value = w.0; function_held = w.1; same = c.parse_function.ensures.same }

pub returns-in_err-read : goal.returns-in_err-read
unfolding known_from
returns-in_err-read c =
    let given = held c.args.unit.now in
    let w = alone-refused (tokens_of c.args.tokens.now) c.args.names.now given _ _ refl
    (sym c.in_err-read.was ∙ c.parse_function.ensures.value) in
    let p = err_from_is_err_and c.from_residual.result c.from_residual.ensures.1 in
    record { value = rw (p.1, p.2) w.0; function_held = w.1; same = c.parse_function.ensures.same }

pub returns-in_default : goal.returns-in_default
unfolding known_from
returns-in_default c =
    let given = held c.args.unit.now in
    let w = alone-other (tokens_of c.args.tokens.now) c.args.names.now given _ _ refl
    (sym c.in_ok-read.was ∙ c.parse_function.ensures.value) c.token_at.ensures (λ e. omega (arith, e))
    (λ e. omega (arith, e)) c.refuse-in_default.ensures in
    record { value = w.0; function_held = w.1; same = c.parse_function.ensures.same }
