-- Behind the operations so far, those from here on are the rest of the run.
use Rattle.std.proofs.Common.{◌≡◌, ◌∙◌, arith}
use Rattle.link.proofs.Scanning.{run_on, run_ends, run-all}
use Rattle.link.proofs.close.block_end.Goals as goal

pub returns-then-r-eq-LABEL : goal.returns-then-r-eq-LABEL
returns-then-r-eq-LABEL c = (search run_ends, omega arith)

pub loop-i-preserved : goal.loop-i-preserved
loop-i-preserved c = search run_on

pub returns : goal.returns
returns c = let e : c.args.end ≡ c.loop-i.i = omega arith in (e ∙ search run-all, omega arith)
