-- Behind i leading labels, those from here on are the rest of them.
use Rattle.std.proofs.Common.{◌≡◌, ◌∙◌, arith}
use native.Mathlib.Nat.{add-zero, sub-zero}
use Rattle.link.proofs.Scanning.{leading-on, leading-ends, leading-all}
use Rattle.link.proofs.labels.leading_labels.Goals as goal

pub returns-then-r-ne-LABEL : goal.returns-then-r-ne-LABEL
returns-then-r-ne-LABEL c = (search leading-ends, omega arith)

pub loop-i-preserved : goal.loop-i-preserved
loop-i-preserved c = search leading-on

pub returns : goal.returns
returns c = let e : c.args.count ≡ c.loop-i.i = omega arith in (e ∙ search leading-all, omega arith)

pub loop-i-init : goal.loop-i-init
loop-i-init c = rw (add-zero, sub-zero) (omega arith)
