-- The name's end is the scan's, which never goes back.
use native.Mathlib.Omega.{arith}
use Prim.Native.Nat.{◌+◌}
use lib.ListN.{drop}
use Rattle.pieces.proofs.Progress.{name_end-from}
use Rattle.pieces.proofs.lex.lex_name.Goals as goal

pub name_to-requires : goal.name_to-requires
name_to-requires c =
    let from = name_end-from (drop (c.args.at.place + 1) c.args.text.now) (c.args.at.place + 1) in
    omega (arith, c.name_end-end.ensures, from)
