-- Seven stores, each where the one before it ended, are one store of the whole message.
use native.Mathlib.Omega.{arith}
use mathlib.Core.List.{◌∷◌, []}
use Rattle.utils.specs.Bytes.{bytes}
use Rattle.utils.specs.Message.{reported}
use Rattle.utils.proofs.Runs.{both}
use Rattle.utils.proofs.put_report.Goals as goal

pub returns : goal.returns
unfolding reported
returns c =
    let last = c.put.ensures in
    let w6 = both _ _ _ c.args.text.now (10 ∷ []) _ _ _ c.put-p6.ensures.0 c.put-p6.ensures.1 last.0 last.1 in
    let w5 = both c.put-p4.new.buf _ _ (bytes ": ") _ _ _ _ c.put-p5.ensures.0 c.put-p5.ensures.1 w6.0 w6.1 in
    let w4 = both _ _ _ c.args.item.now _ _ _ _ c.put-p4.ensures.0 c.put-p4.ensures.1 w5.0 w5.1 in
    let w3 = both c.put_decimal-p2.new.buf _ _ (bytes "] Error ") _ _ _ _ c.put-p3.ensures.0 c.put-p3.ensures.1 w4.0
    w4.1 in
    let w2 = both _ _ _ _ _ _ _ _ c.put_decimal-p2.ensures.0 c.put_decimal-p2.ensures.1 w3.0 w3.1 in
    let w1 = both c.args.buf.now _ _ (bytes "[line ") _ _ _ _ c.put-p1.ensures.0 c.put-p1.ensures.1 w2.0 w2.1 in (
      omega (arith, w1.0),
      omega (
        arith,
        c.put-p1.ensures.0,
        c.put_decimal-p2.ensures.2,
        c.put-p3.ensures.0,
        c.put-p4.ensures.0,
        c.put-p5.ensures.0,
        c.put-p6.ensures.0,
        last.0,
        c.requires,
      ),
      w1.1,
    )
