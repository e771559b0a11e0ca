-- What is left from `at` on, in a comment or not, has the same next digit as what is left from `from` on.
use Rattle.std.proofs.Common.{arith}
use Rattle.replay.proofs.Digits.{digit_here, digit_later, digit_nowhere}
use Rattle.replay.proofs.digit_from.Goals as goal

pub returns-then-not-comment : goal.returns-then-not-comment
returns-then-not-comment c = (
  omega arith,
  digit_here c.args.«data».now c.args.from c.loop-at.at c.loop-at.comment c.loop-at.invariant _ _ c.loop-at-test.true
      c.in_comment-comment.ensures
      c.is_ascii_digit.ensures.value
      c.if-is_ascii_digit.true c.if-not-comment.true,
)

pub loop-at-preserved : goal.loop-at-preserved
loop-at-preserved c =
    digit_later c.args.«data».now c.args.from c.loop-at.at c.loop-at.comment c.loop-at.invariant _ _ c.loop-at-test.true
    c.in_comment-comment.ensures
    c.is_ascii_digit.ensures.value
    c.else-is_ascii_digit.either

pub returns : goal.returns
returns c = (
  omega arith,
  digit_nowhere c.args.«data».now c.args.from c.loop-at.at c.loop-at.comment c.loop-at.invariant (omega arith),
)
