-- An empty list, or the loop's.
use borrow.Author.Tests.{eq-eqb, ne_eqb}
use mathlib.Core.Path.{refl}
use Rattle.parser.specs.Step.{opened}
use Rattle.parser.specs.Runs.{formals_d, run_of, variables_cells}
use Rattle.parser.proofs.runs.parse_formals.Goals as goal

pub returns-then-t-eq-RIGHT_PAREN : goal.returns-then-t-eq-RIGHT_PAREN
unfolding formals_d run_of variables_cells opened
returns-then-t-eq-RIGHT_PAREN c =
    record {
      value = rw (← c.token_at-t.ensures, eq-eqb _ _ c.if-t-eq-RIGHT_PAREN.true) refl;
      cells_after = rw (← c.token_at-t.ensures, eq-eqb _ _ c.if-t-eq-RIGHT_PAREN.true) refl;
    }

pub returns : goal.returns
unfolding formals_d opened
returns c =
    record {
      value = rw (← c.token_at-t.ensures, ne_eqb _ _ c.if-t-eq-RIGHT_PAREN.false) c.parse_formals_from.ensures.value;
      cells_after = rw (← c.token_at-t.ensures, ne_eqb _ _ c.if-t-eq-RIGHT_PAREN.false)
          c.parse_formals_from.ensures.cells_after;
    }
