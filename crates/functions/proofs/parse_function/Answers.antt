-- Header, then body, then row, as in `function_d`. The header has stored its formals already, so thirteen cells before
-- them make the row whole (`held_whole`); the tokens that were read bound every count (`row_fits`, `counts-fit`).
use Rattle.functions.proofs.Taken.{header_refused, inner_room, inner-behind, body_refused, row_fits_lem}
use Rattle.functions.proofs.Taken.{counts-fit, answered, held_whole}
use Rattle.lexer.specs.Decoded.{tokens_of}
use Rattle.std.specs.Prelude.{length}
use Rattle.std.proofs.lemmas.Result.{err_from_is_err_and}
use native.Mathlib.Omega.{arith}
use mathlib.Core.Path.{refl, sym, ap, ◌∙◌}
use Rattle.functions.proofs.parse_function.Goals as goal

pub parse_header-requires : goal.parse_header-requires
parse_header-requires c =
    (c.requires.1, c.requires.3)

pub build-requires : goal.build-requires
build-requires c = (
  inner_room (tokens_of c.args.tokens.now) c.args.names.now c.args.at c.args.types c.args.n
      c.args.unit.now.functions.now
      c.in_ok-h.h (sym c.in_ok-h.was ∙ c.parse_header.ensures.value) c.requires.0,
  inner-behind (tokens_of c.args.tokens.now) c.args.names.now c.args.at c.args.types c.args.n
      c.args.unit.now.functions.now
      c.in_ok-h.h (sym c.in_ok-h.was ∙ c.parse_header.ensures.value) c.requires.0,
  c.requires.4,
)

pub put_row-requires : goal.put_row-requires
put_row-requires c =
    let fits = row_fits_lem (tokens_of c.args.tokens.now) c.args.names.now c.args.at c.args.types c.args.n
    c.args.unit.now.functions.now
    c.in_ok-h.h (sym c.in_ok-h.was ∙ c.parse_header.ensures.value) c.requires.0 _ c.parse_header.ensures.header_held
    c.in_ok-b.b (sym c.in_ok-b.was ∙ c.build.ensures.value) c.args.unit.now.items.now _ c.args.unit.now.arguments.now _
    c.args.unit.now.blocks.now _ c.args.unit.now.predecessors.now _ c.build.ensures.build_held c.requires.3 in (
      fits.0,
      fits.1,
      fits.2,
      fits.3,
      fits.4,
      fits.5,
      fits.6,
      fits.7,
      fits.8,
      omega (arith, c.requires.3, ap length c.build.ensures.functions, c.parse_header.auto.rows),
    )

pub types_after-requires : goal.types_after-requires
types_after-requires c =
    omega (arith, c.requires.1, c.requires.2)

pub counts_after-requires : goal.counts_after-requires
counts_after-requires c =
    counts-fit (tokens_of c.args.tokens.now) c.args.names.now c.args.at c.args.types c.args.n
    c.args.unit.now.functions.now
    c.in_ok-h.h (sym c.in_ok-h.was ∙ c.parse_header.ensures.value) c.requires.0 _ c.parse_header.ensures.header_held
    c.in_ok-b.b (sym c.in_ok-b.was ∙ c.build.ensures.value) c.args.unit.now.items.now _ c.args.unit.now.arguments.now _
    c.args.unit.now.blocks.now _ c.args.unit.now.predecessors.now _ c.build.ensures.build_held c.requires.3

pub returns-in_err-h-clause-value : goal.returns-in_err-h-clause-value
returns-in_err-h-clause-value c =
    let p = err_from_is_err_and c.from_residual.result c.from_residual.ensures.1 in
    rw (
      p.1,
      p.2,
      header_refused (tokens_of c.args.tokens.now) c.args.names.now c.args.at c.args.types c.args.n
          c.args.unit.now.functions.now
          c.in_err-h.field-0.0 (sym c.in_err-h.was ∙ c.parse_header.ensures.value),
    ) refl

pub returns-in_err-h-clause-function_held : goal.returns-in_err-h-clause-function_held
returns-in_err-h-clause-function_held c =
    rw (header_refused (tokens_of c.args.tokens.now) c.args.names.now c.args.at c.args.types
    c.args.n c.args.unit.now.functions.now
    c.in_err-h.field-0.0 (sym c.in_err-h.was ∙ c.parse_header.ensures.value)) tt

pub returns-in_err-b-clause-value : goal.returns-in_err-b-clause-value
returns-in_err-b-clause-value c =
    let p = err_from_is_err_and c.from_residual-in_err-b.result c.from_residual-in_err-b.ensures.1 in
    rw (
      p.1,
      p.2,
      body_refused (tokens_of c.args.tokens.now) c.args.names.now c.args.at c.args.types c.args.n
          c.args.unit.now.functions.now
          c.in_ok-h.h (sym c.in_ok-h.was ∙ c.parse_header.ensures.value) c.requires.0 c.in_err-b.field-0.0
          (sym c.in_err-b.was ∙ c.build.ensures.value),
    ) refl

pub returns-in_err-b-clause-function_held : goal.returns-in_err-b-clause-function_held
returns-in_err-b-clause-function_held c =
    rw (body_refused (tokens_of c.args.tokens.now) c.args.names.now c.args.at c.args.types c.args.n
    c.args.unit.now.functions.now
    c.in_ok-h.h (sym c.in_ok-h.was ∙ c.parse_header.ensures.value) c.requires.0 c.in_err-b.field-0.0
    (sym c.in_err-b.was ∙ c.build.ensures.value)) tt

pub returns-clause-value : goal.returns-clause-value
returns-clause-value c =
    answered (tokens_of c.args.tokens.now) c.args.names.now c.args.at c.args.types c.args.n
    c.args.unit.now.functions.now
    c.in_ok-h.h (sym c.in_ok-h.was ∙ c.parse_header.ensures.value) c.requires.0 _ c.parse_header.ensures.header_held
    c.in_ok-b.b (sym c.in_ok-b.was ∙ c.build.ensures.value) c.args.unit.now.items.now _ c.args.unit.now.arguments.now _
    c.args.unit.now.blocks.now _ c.args.unit.now.predecessors.now _ c.build.ensures.build_held c.requires.3 _
    (rw c.build.ensures.functions at c.put_row.ensures) _ _
    c.types_after.ensures c.counts_after.ensures

pub returns-clause-function_held : goal.returns-clause-function_held
returns-clause-function_held c =
    held_whole (tokens_of c.args.tokens.now) c.args.names.now c.args.at c.args.types c.args.n
    c.args.unit.now.functions.now
    c.in_ok-h.h (sym c.in_ok-h.was ∙ c.parse_header.ensures.value) c.requires.0 _ c.parse_header.ensures.header_held
    c.in_ok-b.b (sym c.in_ok-b.was ∙ c.build.ensures.value) c.args.unit.now.items.now _ c.args.unit.now.arguments.now _
    c.args.unit.now.blocks.now _ c.args.unit.now.predecessors.now _ c.build.ensures.build_held c.requires.3 _
    (rw c.build.ensures.functions at c.put_row.ensures)
