-- The digits from `i` on, behind a number that the code knows only up to 2147483649, give the whole number.
use native.Mathlib.Omega.{arith}
use native.Mathlib.Numerals.{add-one}
use Prim.Native.Nat.{◌+◌, ◌-◌, ◌*◌}
use mathlib.Core.Path.{◌≡◌, refl, sym, ◌∙◌}
use lib.ListN.{get_or, drop_of_length-le}
use lib.Seq.{drop-cons}
use Rattle.pieces.specs.Pieces.{digits_from}
use Rattle.pieces.proofs.Capping.{capped-low, capped_most, capped_grow}
use Rattle.utils.specs.Bytes.{pick}
use Rattle.pieces.proofs.scan.lex_number.Goals as goal

pub loop-i-init : goal.loop-i-init
loop-i-init c = (0, omega arith, sym (capped-low 0 (omega arith)), refl)

pub returns-then-not-is_digit : goal.returns-then-not-is_digit
unfolding digits_from pick
returns-then-not-is_digit c =
    rw (
      ← c.loop-i.invariant.3,
      drop-cons c.args.text.now c.loop-i.i 0 c.loop-i-test.true,
      ← c.is_digit.ensures,
      c.if-not-is_digit.true,
      c.loop-i.invariant.2,
    )

pub grow-value-requires : goal.grow-value-requires
grow-value-requires c =
    (rw c.loop-i.invariant.2 (capped_most c.loop-i.invariant.0), sym c.is_digit.ensures ∙ c.if-not-is_digit.false)

pub loop-i-preserved : goal.loop-i-preserved
unfolding digits_from pick
loop-i-preserved c =
    let d = get_or c.args.text.now c.loop-i.i 0 - 48 in (
      c.loop-i.invariant.0 * 10 + d,
      omega arith,
      c.grow-value.ensures ∙ rw c.loop-i.invariant.2 (capped_grow c.loop-i.invariant.0 d),
      rw (
        ← c.loop-i.invariant.3,
        drop-cons c.args.text.now c.loop-i.i 0 c.loop-i-test.true,
        ← c.is_digit.ensures,
        c.if-not-is_digit.false,
        add-one c.loop-i.i,
      ),
    )

pub returns : goal.returns
unfolding digits_from pick
returns c =
    let end : c.max.result ≡ c.loop-i.i = omega (arith, c.loop-i.invariant.1, c.max.ensures) in
    rw (
      end,
      ← c.loop-i.invariant.3,
      drop_of_length-le c.args.text.now {i = c.loop-i.i} c.loop-i-test.false,
      c.loop-i.invariant.2,
    )
