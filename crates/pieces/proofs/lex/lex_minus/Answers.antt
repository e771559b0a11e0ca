-- As for a digit, with the bound of the negative numbers.
use native.Mathlib.Omega.{arith}
use Prim.Native.Nat.{ℕ, ◌+◌, ◌%◌, ◌<◌, ◌≤◌}
use mathlib.Core.Path.{◌≡◌}
use Rattle.pieces.proofs.Capping.{number-low, number_high}
use Rattle.pieces.specs.Pieces.{number_at, negated, minus_at}
use Rattle.utils.specs.Bytes.{pick}
use Rattle.pieces.proofs.lex.lex_minus.Goals as goal

-- the 32 bits that a number's own make 0 with are those of the number with a minus
negated-by : (r v : ℕ) → (r + v) % 4294967296 ≡ 0 → r < 4294967296 → v ≤ 2147483648 → r ≡ negated v
negated-by r v e h g = omega arith

pub returns-then-not-is_digit : goal.returns-then-not-is_digit
unfolding minus_at pick
returns-then-not-is_digit c =
    rw (← c.peek.ensures, ← c.is_digit.ensures, c.if-not-is_digit.true)

pub returns-then-n-le2147483648 : goal.returns-then-n-le2147483648
unfolding minus_at pick
returns-then-n-le2147483648 c =
    let low =
    number-low c.lex_number-n.result (number_at c.args.text.now (c.args.at.place + 1)) 2147483648 (omega arith)
    c.lex_number-n.ensures c.if-n-le2147483648.true in
    let bits : c.wrapping_neg-bits.result ≡ negated c.lex_number-n.result.value =
    negated-by c.wrapping_neg-bits.result c.lex_number-n.result.value c.wrapping_neg-bits.ensures (omega arith)
    (omega arith) in
    rw (c.token_to.ensures, ← c.peek.ensures, ← c.is_digit.ensures, c.if-not-is_digit.false, low.0, ← low.1, bits)

pub returns : goal.returns
unfolding minus_at pick
returns c =
    let high =
    number_high c.lex_number-n.result (number_at c.args.text.now (c.args.at.place + 1)) 2147483648 (omega arith)
    c.lex_number-n.ensures c.if-n-le2147483648.false in
    rw (← c.peek.ensures, ← c.is_digit.ensures, c.if-not-is_digit.false, high)
