-- Each slice is cleared behind its count, and the message where there is none.
use mathlib.Core.Path.{ap, ◌∙◌}
use Prim.Native.Nat.{ℕ}
use lib.ListN.{length, take}
use Rattle.utils.specs.Bytes.{pad_to}
use Rattle.checker.proofs.Ends.{same-slices}
use Rattle.checker.proofs.finish.Goals as goal

pub returns-clause-finishes : goal.returns-clause-finishes
returns-clause-finishes c =
    record {
      message = c.finish_message.ensures;
      tokens = c.clear_from.ensures;
      names = c.clear_from-2.ensures;
      unit =
          same-slices
          (c.clear_from-3.ensures ∙ ap (λ (k : ℕ). pad_to (length c.args.unit.now.functions.now)
          (take k c.args.unit.now.functions.now))
          c.rows_used.ensures)
          c.clear_from-4.ensures c.clear_from-5.ensures c.clear_from-6.ensures c.clear_from-7.ensures;
    }
