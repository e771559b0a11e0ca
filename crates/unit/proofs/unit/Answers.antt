-- The slices that parsing leaves are what typing asks, and each return is the outcome of both: the first refusal, or
-- all functions with their types.
use Rattle.std.proofs.lemmas.Result.{err_from_is_err_and}
use native.Mathlib.Omega.{arith}
use Rattle.std.proofs.Common.{rules}
use mathlib.Core.Path.{sym, ◌∙◌}
use Rattle.lexer.specs.Decoded.{tokens_of}
use Rattle.unit.proofs.Building.{refused-whole, parse_refuses, few, rows_fit_lem, types_refuse, fine-whole}
use Rattle.unit.proofs.unit.Goals as goal

pub type_rows-requires : goal.type_rows-requires
type_rows-requires c =
    let a = c.args in
    let u = a.unit.now in
    let parsed = sym c.in_ok-n.was ∙ c.parse.ensures.value in
    let m = few (tokens_of a.tokens.now) a.names.now u.functions.now u.items.now u.arguments.now u.blocks.now
    u.predecessors.now c.requires.1 c.requires.2 c.parse.ensures.all_fit _ parsed _ _ _ _ _ c.parse.ensures.held in (
      m,
      omega (arith, m),
      omega (arith, c.requires.1, c.parse.ensures.same.functions_long),
      rows_fit_lem (tokens_of a.tokens.now) a.names.now u.functions.now u.items.now u.arguments.now u.blocks.now
          u.predecessors.now c.requires.1 c.requires.2 c.parse.ensures.all_fit _ parsed _ _ _ _ _ c.parse.ensures.held,
    )

pub returns-in_err-n : goal.returns-in_err-n
returns-in_err-n c =
    let a = c.args in
    let u = a.unit.now in
    let w = refused-whole (tokens_of a.tokens.now) a.names.now u.functions.now u.items.now u.arguments.now u.blocks.now
    u.predecessors.now
    (parse_refuses (tokens_of a.tokens.now) a.names.now u.functions.now u.items.now u.arguments.now u.blocks.now
    u.predecessors.now _ (sym c.in_err-n.was ∙ c.parse.ensures.value)) _ in
    let p = err_from_is_err_and c.from_residual.result c.from_residual.ensures.1 in
    rw (p.1, p.2) (record { value = w.0; unit_held = w.1.0; counted = w.1.1; same = search rules })

pub returns-in_err-type_rows : goal.returns-in_err-type_rows
returns-in_err-type_rows c =
    let a = c.args in
    let u = a.unit.now in
    let parsed = sym c.in_ok-n.was ∙ c.parse.ensures.value in
    let w = refused-whole (tokens_of a.tokens.now) a.names.now u.functions.now u.items.now u.arguments.now u.blocks.now
    u.predecessors.now
    (types_refuse (tokens_of a.tokens.now) a.names.now u.functions.now u.items.now u.arguments.now u.blocks.now
    u.predecessors.now c.requires.1 c.requires.2 c.parse.ensures.all_fit _ parsed _ _ _ _ _ c.parse.ensures.held _ _ _
    c.type_rows.ensures _ c.in_err-type_rows.was) _ in
    let p = err_from_is_err_and c.from_residual-in_err-type_rows.result c.from_residual-in_err-type_rows.ensures.1 in
    rw (p.1, p.2) (record { value = w.0; unit_held = w.1.0; counted = w.1.1; same = search rules })

pub returns : goal.returns
returns c =
    let a = c.args in
    let u = a.unit.now in
    let parsed = sym c.in_ok-n.was ∙ c.parse.ensures.value in
    let w = fine-whole (tokens_of a.tokens.now) a.names.now u.functions.now u.items.now u.arguments.now u.blocks.now
    u.predecessors.now c.requires.1 c.requires.2 c.parse.ensures.all_fit _ parsed _ _ _ _ _ c.parse.ensures.held _ _ _
    c.type_rows.ensures c.in_ok-type_rows.was in
    record { value = w.0; unit_held = w.1.0; counted = w.1.1; same = search rules }
