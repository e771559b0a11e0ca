-- Typing what the worklist still has, from the table as it is, gives what typing all of it gave from the table at
-- entry: a pop takes the first block and leaves the rest (`blocks-fine`), which is fewer (`fewer`).
use Rattle.std.proofs.lemmas.Result.{err_from_is_err_and}
use Rattle.sema.proofs.Threads.{fewer, blocks-refused, blocks-fine, blocks-ended}
use native.Mathlib.Omega.{arith}
use mathlib.Core.Path.{◌≡◌, sym, ◌∙◌}
use Rattle.std.proofs.Common.{rules}
use Rattle.std.specs.Prelude.{None}
use Rattle.sema.proofs.Sema.analyze_remaining.Goals as goal

pub returns : goal.returns
returns c =
    let none : c.pop.result ≡ None = search rules in
    blocks-ended _ _ _ _ _ c.loop-b.table _ _ _ _ _ c.loop-b.left c.loop-b.invariant.0 c.requires.0
    c.loop-b.invariant.2 (sym c.pop.ensures.value ∙ none)

pub returns-in_err-analyze_recorded : goal.returns-in_err-analyze_recorded
returns-in_err-analyze_recorded c =
    let p = err_from_is_err_and c.from_residual.result c.from_residual.ensures.1 in
    rw (p.1, p.2)
    (blocks-refused _ _ _ _ _ c.loop-b.table _ _ _ _ _ c.loop-b.left c.loop-b.invariant.0 c.requires.0
    c.loop-b.invariant.2 (sym c.pop.ensures.value ∙ c.in-Some.is)
    c.analyze_recorded.ensures c.in_err-analyze_recorded.was)

pub loop-b-smaller : goal.loop-b-smaller
loop-b-smaller c =
    (fewer _ _ _ _ _ c.loop-b.table _ _ _ _ _ c.loop-b.left c.loop-b.invariant.0 c.requires.0 c.loop-b.invariant.2
    (sym c.pop.ensures.value ∙ c.in-Some.is)).1

pub loop-b-preserved : goal.loop-b-preserved
loop-b-preserved c =
    let popped-is = sym c.pop.ensures.value ∙ c.in-Some.is in
    let less = fewer _ _ _ _ _ c.loop-b.table _ _ _ _ _ c.loop-b.left c.loop-b.invariant.0 c.requires.0
    c.loop-b.invariant.2 popped-is in (
      omega (arith, less.0, c.loop-b.invariant.0),
      c.analyze_recorded.auto.table ∙ c.loop-b.invariant.1,
      blocks-fine _ _ _ _ _ c.loop-b.table _ _ _ _ _ c.loop-b.left c.loop-b.invariant.0 c.requires.0
          c.loop-b.invariant.2 popped-is c.analyze_recorded.ensures
          c.in_ok-analyze_recorded.was,
    )
