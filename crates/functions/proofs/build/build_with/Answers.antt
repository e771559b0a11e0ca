-- The records that parsing stored are read back as the shapes of the closed items, and their labels stand in front:
-- that is what linking asks (`ready`), so its blocks and edges are those of `built_d` (`answered`, `is_held`).
use mathlib.Core.List.{[]}
use Rattle.functions.proofs.Whole.{body_refused, ready, link_refused, answered, is_held}
use Rattle.link.specs.Cells.{LinkHeld}
use Rattle.lexer.specs.Decoded.{tokens_of}
use Rattle.std.proofs.lemmas.Result.{err_from_is_err_and}
use native.Mathlib.Omega.{arith}
use mathlib.Core.Path.{refl, sym, subst, ◌∙◌}
use Rattle.functions.proofs.build.build_with.Goals as goal

pub parse_body-requires : goal.parse_body-requires
parse_body-requires c =
    record {
      within = c.requires.0.within;
      first_bound = (c.requires.0.items_few, c.requires.0.arguments_few);
      items_size_in_bounds = (c.requires.3.items_long, c.requires.3.arguments_long, c.requires.2);
    }

pub link-requires : goal.link-requires
link-requires c =
    ready (tokens_of c.args.tokens.now) c.args.void c.args.name c.args.at c.args.n c.args.unit.now.items.now _
    c.args.unit.now.arguments.now _ _ _
    c.in_ok-closed.closed (sym c.in_ok-closed.was ∙ c.parse_body.ensures.value) c.parse_body.ensures.held c.requires.0 c.requires.1
    c.args.unit.now.blocks.now c.args.unit.now.predecessors.now c.requires.3
    (omega (arith, c.requires.2, c.parse_body.auto.labels))

pub returns-in_err-closed-clause-value : goal.returns-in_err-closed-clause-value
returns-in_err-closed-clause-value c =
    let p = err_from_is_err_and c.from_residual.result c.from_residual.ensures.1 in
    rw (
      p.1,
      p.2,
      body_refused (tokens_of c.args.tokens.now) c.args.void c.args.name c.args.at c.args.n [] [] [] [] []
          []
          c.in_err-closed.field-0.0 (sym c.in_err-closed.was ∙ c.parse_body.ensures.value),
    ) refl

pub returns-in_err-closed-clause-build_held : goal.returns-in_err-closed-clause-build_held
returns-in_err-closed-clause-build_held c =
    rw (body_refused (tokens_of c.args.tokens.now) c.args.void c.args.name c.args.at c.args.n [] [] []
    [] [] []
    c.in_err-closed.field-0.0 (sym c.in_err-closed.was ∙ c.parse_body.ensures.value)) tt

pub returns-in_err-linked-clause-value : goal.returns-in_err-linked-clause-value
returns-in_err-linked-clause-value c =
    let p = err_from_is_err_and c.from_residual-in_err-linked.result c.from_residual-in_err-linked.ensures.1 in
    rw (
      p.1,
      p.2,
      link_refused (tokens_of c.args.tokens.now) c.args.void c.args.name c.args.at c.args.n
          c.args.unit.now.items.now _
          c.args.unit.now.arguments.now _ _ _
          c.in_ok-closed.closed (sym c.in_ok-closed.was ∙ c.parse_body.ensures.value) c.parse_body.ensures.held c.requires.0
          c.requires.1
          c.args.unit.now.blocks.now c.args.unit.now.predecessors.now c.requires.3
          (omega (arith, c.requires.2, c.parse_body.auto.labels))
          c.in_err-linked.field-0.0 (sym c.in_err-linked.was ∙ c.link.ensures.value),
    ) refl

pub returns-in_err-linked-clause-build_held : goal.returns-in_err-linked-clause-build_held
returns-in_err-linked-clause-build_held c =
    rw (link_refused (tokens_of c.args.tokens.now) c.args.void c.args.name c.args.at c.args.n
    c.args.unit.now.items.now _
    c.args.unit.now.arguments.now _ _ _
    c.in_ok-closed.closed (sym c.in_ok-closed.was ∙ c.parse_body.ensures.value) c.parse_body.ensures.held c.requires.0
    c.requires.1
    c.args.unit.now.blocks.now c.args.unit.now.predecessors.now c.requires.3
    (omega (arith, c.requires.2, c.parse_body.auto.labels))
    c.in_err-linked.field-0.0 (sym c.in_err-linked.was ∙ c.link.ensures.value)) tt

pub returns-clause-value : goal.returns-clause-value
returns-clause-value c =
    let kept = subst (LinkHeld _ _ _ _ _ _ _ _) c.in_ok-linked.was c.link.ensures.link_held in
    answered (tokens_of c.args.tokens.now) c.args.void c.args.name c.args.at c.args.n c.args.unit.now.items.now _
    c.args.unit.now.arguments.now
    _ _ _
    c.in_ok-closed.closed (sym c.in_ok-closed.was ∙ c.parse_body.ensures.value) c.parse_body.ensures.held c.requires.0
    c.requires.1
    c.args.unit.now.blocks.now c.args.unit.now.predecessors.now c.requires.3
    (omega (arith, c.requires.2, c.parse_body.auto.labels))
    _ (sym c.in_ok-linked.was ∙ c.link.ensures.value) _ _ kept

pub returns-clause-build_held : goal.returns-clause-build_held
returns-clause-build_held c =
    let kept = subst (LinkHeld _ _ _ _ _ _ _ _) c.in_ok-linked.was c.link.ensures.link_held in
    is_held (tokens_of c.args.tokens.now) c.args.void c.args.name c.args.at c.args.n c.args.unit.now.items.now _
    c.args.unit.now.arguments.now
    _ _ _
    c.in_ok-closed.closed (sym c.in_ok-closed.was ∙ c.parse_body.ensures.value) c.parse_body.ensures.held c.requires.0
    c.requires.1
    c.args.unit.now.blocks.now c.args.unit.now.predecessors.now c.requires.3
    (omega (arith, c.requires.2, c.parse_body.auto.labels))
    _ (sym c.in_ok-linked.was ∙ c.link.ensures.value) _ _ kept
