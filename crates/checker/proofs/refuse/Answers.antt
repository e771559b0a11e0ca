-- The message and the answer are those of the parts lent, which are the cells in use.
use native.Mathlib.Omega.{arith}
use Prim.Native.Nat.{◌*◌}
use mathlib.Core.Path.{sym, subst}
use lib.ListN.{take}
use Rattle.messages.specs.Messages.{ShortNames}
use Rattle.checker.proofs.Ends.{refuses-by-cells}
use Rattle.checker.proofs.Lexed.{from_start}
use Rattle.checker.proofs.refuse.Goals as goal

pub put_message-requires : goal.put_message-requires
put_message-requires c =
    let lent = from_start (c.args.r.names * 2) c.args.names.now in
    (c.requires.2, subst (ShortNames c.args.text.now) (sym lent) c.requires.3)

pub returns : goal.returns
returns c =
    refuses-by-cells c.args.text.now c.args.message.now c.args.e _ _ (take (c.args.r.tokens * 4) c.args.tokens.now)
    (take (c.args.r.names * 2) c.args.names.now) (from_start (c.args.r.tokens * 4) c.args.tokens.now)
    (from_start (c.args.r.names * 2) c.args.names.now) c.token_at-t.result c.token_at-t.ensures _ _
    c.refused.ensures c.put_message.ensures

pub slice_bounds-put_message-end : goal.slice_bounds-put_message-end
slice_bounds-put_message-end c =
    omega (arith, c.requires.0)

pub slice_bounds-put_message-end-2 : goal.slice_bounds-put_message-end-2
slice_bounds-put_message-end-2 c =
    omega (arith, c.requires.1)

pub slice_bounds-token_at-end : goal.slice_bounds-token_at-end
slice_bounds-token_at-end c =
    omega (arith, c.requires.0)
