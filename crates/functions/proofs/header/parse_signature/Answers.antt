-- The formals are stored behind the rows so far, which that leaves alone, and are read back as the types that were
-- parsed: so the rows enter the name as the headers so far do (`entered-same`). There are at most 16 (`formals_few`).
use Rattle.functions.proofs.Heads.{formals_few, entered-same}
use Rattle.functions.specs.Functions.{optional_formals, signature_d, then_formals, then_entered}
use Rattle.parser.proofs.Turning.{run-done, run-refused}
use Rattle.parser.specs.Step.{opened}
use Rattle.lexer.specs.Decoded.{tokens_of}
use Rattle.std.proofs.lemmas.Result.{err_from_is_err_and}
use native.Mathlib.Omega.{arith}
use Prim.Native.Nat.{◌≤◌}
use mathlib.Core.Path.{refl, sym, ◌∙◌}
use Rattle.functions.proofs.header.parse_signature.Goals as goal

pub enter-requires : goal.enter-requires
enter-requires c =
    let read = optional_formals (tokens_of c.args.tokens.now) c.args.at in
    let d = run-done read (sym c.in_ok-formals.was ∙ c.parse_optional_formals.ensures.value) in (
      c.requires.0,
      omega (arith, d.1, formals_few (tokens_of c.args.tokens.now) c.args.at),
      omega (arith, c.parse_optional_formals.auto.rows),
    )

pub returns-in_err-formals : goal.returns-in_err-formals
unfolding signature_d then_formals opened
returns-in_err-formals c =
    let read = optional_formals (tokens_of c.args.tokens.now) c.args.at in
    let d = run-refused read (sym c.in_err-formals.was ∙ c.parse_optional_formals.ensures.value) in
    let p = err_from_is_err_and c.from_residual.result c.from_residual.ensures.1 in
    record {
      value = rw (p.1, p.2, d) refl;
      header_held = rw d tt;
    }

pub returns-in_err-result : goal.returns-in_err-result
unfolding signature_d then_formals opened
returns-in_err-result c =
    let read = optional_formals (tokens_of c.args.tokens.now) c.args.at in
    let d = run-done read (sym c.in_ok-formals.was ∙ c.parse_optional_formals.ensures.value) in
    let p = err_from_is_err_and c.from_residual-in_err-result.result c.from_residual-in_err-result.ensures.1 in
    record {
      value = rw (p.1, p.2, d.0, ← c.parse_optional_type.ensures, c.in_err-result.was) refl;
      header_held = rw (d.0, ← c.parse_optional_type.ensures, c.in_err-result.was) tt;
    }

pub returns-in_err-ty : goal.returns-in_err-ty
unfolding signature_d then_formals then_entered opened
returns-in_err-ty c =
    let read = optional_formals (tokens_of c.args.tokens.now) c.args.at in
    let d = run-done read (sym c.in_ok-formals.was ∙ c.parse_optional_formals.ensures.value) in
    let few : c.in_ok-formals.formals.count ≤ 16 = omega (
      arith,
      d.1,
      formals_few
          (tokens_of c.args.tokens.now) c.args.at,
    ) in
    let same = entered-same (tokens_of c.args.tokens.now) c.args.rows.now c.parse_optional_formals.new.rows
    c.args.n c.args.types c.args.token c.args.name read.list c.in_ok-result.result c.type_cell-ret.result
    c.in_ok-formals.formals.count c.in_ok-result.at2 c.parse_optional_formals.ensures.rows_after c.type_cell-ret.ensures
    d.1 few c.requires.0 c.requires.1 in
    let p = err_from_is_err_and c.from_residual-in_err-ty.result c.from_residual-in_err-ty.ensures.1 in
    record {
      value = rw (
        p.1,
        p.2,
        d.0,
        ← c.parse_optional_type.ensures,
        c.in_ok-result.was,
        ← same,
        ← c.enter.ensures,
        c.in_err-ty.was,
      ) refl;
      header_held = rw (
        d.0,
        ← c.parse_optional_type.ensures,
        c.in_ok-result.was,
        ← same,
        ← c.enter.ensures,
        c.in_err-ty.was,
      ) tt;
    }

pub returns : goal.returns
unfolding signature_d then_formals then_entered opened
returns c =
    let read = optional_formals (tokens_of c.args.tokens.now) c.args.at in
    let d = run-done read (sym c.in_ok-formals.was ∙ c.parse_optional_formals.ensures.value) in
    let few : c.in_ok-formals.formals.count ≤ 16 = omega (
      arith,
      d.1,
      formals_few
          (tokens_of c.args.tokens.now) c.args.at,
    ) in
    let same = entered-same (tokens_of c.args.tokens.now) c.args.rows.now c.parse_optional_formals.new.rows
    c.args.n c.args.types c.args.token c.args.name read.list c.in_ok-result.result c.type_cell-ret.result
    c.in_ok-formals.formals.count c.in_ok-result.at2 c.parse_optional_formals.ensures.rows_after c.type_cell-ret.ensures
    d.1 few c.requires.0 c.requires.1 in
    record {
      value = rw (
        d.0,
        ← c.parse_optional_type.ensures,
        c.in_ok-result.was,
        ← same,
        ← c.enter.ensures,
        c.in_ok-ty.was,
      ) (rw
          (d.1, ← c.type_cell-ret.ensures));
      header_held = rw (
        d.0,
        ← c.parse_optional_type.ensures,
        c.in_ok-result.was,
        ← same,
        ← c.enter.ensures,
        c.in_ok-ty.was,
      )
          ((c.parse_optional_formals.ensures.rows_after, omega (arith, few, d.1), c.requires.0));
    }
