-- The digits from `at` on, behind the value so far, give the whole number (`Reading`).
use Rattle.std.proofs.Common.{sym, ◌∙◌, arith}
use Rattle.replay.proofs.Digits.{start, stops, ends, turn}
use Rattle.replay.proofs.number_at.Goals as goal

pub loop-at-init : goal.loop-at-init
loop-at-init c =
    start _ _ _ c.digit_from-at.ensures.0 c.digit_from-at.ensures.1

pub returns-then-not-is_ascii_digit : goal.returns-then-not-is_ascii_digit
returns-then-not-is_ascii_digit c =
    stops c.args.«data».now c.args.from c.loop-at.at c.loop-at.value c.loop-at.invariant c.loop-at-test.true
    (sym c.is_ascii_digit.ensures.value ∙ c.if-not-is_ascii_digit.true)

pub loop-at-preserved : goal.loop-at-preserved
loop-at-preserved c =
    turn c.args.«data».now c.args.from c.loop-at.at c.loop-at.value c.loop-at.invariant c.with_digit-value.result
    c.loop-at-test.true
    (sym c.is_ascii_digit.ensures.value ∙ c.if-not-is_ascii_digit.false) c.with_digit-value.ensures

pub returns : goal.returns
returns c =
    ends c.args.«data».now c.args.from c.loop-at.at c.loop-at.value c.loop-at.invariant (omega arith)
