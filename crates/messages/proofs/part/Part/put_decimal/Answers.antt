-- The digits stand behind what was put before (`put_behind`).
use native.Mathlib.Omega.{arith}
use Rattle.utils.specs.Message.{decimal}
use Rattle.messages.proofs.Puts.{put_behind}
use Rattle.messages.proofs.part.Part.put_decimal.Goals as goal

pub returns-clause-value : goal.returns-clause-value
returns-clause-value c =
    let p = c.put_decimal-self-inside.ensures in
    put_behind c.self.inside.bytes _ (decimal c.args.n) c.args.self.now c.self.inside.count _ c.self.view_is
    c.self.invariant c.self.told (omega (arith, p.0, p.2, c.requires)) p.0 p.1
