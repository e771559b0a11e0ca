-- The formals and the type are read as the definition reads them; the copied row, held against what is stored behind
-- it, is the row itself held against the header that was read.
use native.Mathlib.Omega.{arith}
use Prim.Native.Nat.{◌≤◌}
use mathlib.Core.Path.{sym, ◌∙◌}
use Rattle.lexer.specs.Decoded.{tokens_of}
use Rattle.parser.specs.Step.{opened}
use Rattle.parser.proofs.Turning.{run-done, run-refused}
use Rattle.functions.specs.Functions.{optional_formals, then_formals}
use Rattle.functions.proofs.Heads.{formals_few}
use Rattle.headers.specs.Kept.{keeps_behind}
use Rattle.headers.proofs.Against.{copied_same}
use Rattle.headers.proofs.kept.keeps_behind.Goals as goal

pub returns-then-not-is_spelled : goal.returns-then-not-is_spelled
unfolding keeps_behind then_formals opened
returns-then-not-is_spelled c =
    let read = optional_formals (tokens_of c.args.tokens.now) c.args.at in
    let d = run-done read (sym c.in-Ok.is ∙ c.parse_optional_formals.ensures.value) in
    rw (
      d.0,
      ← c.parse_optional_type.ensures,
      c.in-Ok-parse_optional_type.is,
      ← c.is_spelled.ensures,
      c.if-not-is_spelled.true,
    )

pub same_type-requires : goal.same_type-requires
same_type-requires c =
    let read = optional_formals (tokens_of c.args.tokens.now) c.args.at in
    let d = run-done read (sym c.in-Ok.is ∙ c.parse_optional_formals.ensures.value) in (
      omega arith,
      omega arith,
      omega (arith, d.1, formals_few (tokens_of c.args.tokens.now) c.args.at),
      omega (arith, c.requires.1, c.copy_row.auto.out, c.parse_optional_formals.auto.rows),
    )

pub returns-in_default : goal.returns-in_default
unfolding keeps_behind then_formals opened
returns-in_default c =
    let read = optional_formals (tokens_of c.args.tokens.now) c.args.at in
    let d = run-refused read (sym c.in_default.is ∙ c.parse_optional_formals.ensures.value) in
    rw d

pub returns-in_default-parse_optional_type : goal.returns-in_default-parse_optional_type
unfolding keeps_behind then_formals opened
returns-in_default-parse_optional_type c =
    let read = optional_formals (tokens_of c.args.tokens.now) c.args.at in
    let d = run-done read (sym c.in-Ok.is ∙ c.parse_optional_formals.ensures.value) in
    rw (d.0, ← c.parse_optional_type.ensures, c.in_default-parse_optional_type.is)

pub returns : goal.returns
unfolding keeps_behind then_formals opened
returns c =
    let read = optional_formals (tokens_of c.args.tokens.now) c.args.at in
    let d = run-done read (sym c.in-Ok.is ∙ c.parse_optional_formals.ensures.value) in
    let few : c.in-Ok.formals.count ≤ 16 = omega (arith, d.1, formals_few (tokens_of c.args.tokens.now) c.args.at) in
    let same =
    copied_same c.args.local.now c.args.rows.now c.copy_row.new.out c.parse_optional_formals.new.rows c.args.i read.list
    c.requires.1 c.copy_row.ensures c.parse_optional_formals.ensures.rows_after c.in-Ok-parse_optional_type.result
    c.type_cell.result
    c.in-Ok.formals.count
    c.type_cell.ensures d.1 few in
    rw (
      d.0,
      ← c.parse_optional_type.ensures,
      c.in-Ok-parse_optional_type.is,
      ← c.is_spelled.ensures,
      c.if-not-is_spelled.false,
      ← same,
    )
    c.same_type.ensures
