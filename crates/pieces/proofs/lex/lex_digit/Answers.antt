-- The test on the capped number is the number's own, and a number that passes it is not capped.
use native.Mathlib.Omega.{arith}
use Rattle.pieces.proofs.Capping.{number-low, number_high}
use Rattle.pieces.specs.Pieces.{number_at, digit_at}
use Rattle.utils.specs.Bytes.{pick}
use Rattle.pieces.proofs.lex.lex_digit.Goals as goal

pub returns-then-n-le2147483647 : goal.returns-then-n-le2147483647
unfolding digit_at pick
returns-then-n-le2147483647 c =
    let low =
    number-low c.lex_number-n.result (number_at c.args.text.now c.args.at.place) 2147483647 (omega arith)
    c.lex_number-n.ensures
    c.if-n-le2147483647.true in
    rw (c.token_to.ensures, low.0, low.1)

pub returns : goal.returns
unfolding digit_at pick
returns c =
    let high =
    number_high c.lex_number-n.result (number_at c.args.text.now c.args.at.place) 2147483647 (omega arith)
    c.lex_number-n.ensures
    c.if-n-le2147483647.false in
    rw high
