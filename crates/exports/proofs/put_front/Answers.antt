-- The first cells, and zeros behind them (`front-stored`).
use native.Mathlib.Omega.{arith}
use Rattle.std.proofs.Common.{rules}
use Prim.Native.Nat.{ℕ, ◌+◌, ◌-◌, ◌*◌}
use mathlib.Core.Path.{ap, ◌∙◌}
use mathlib.Core.List.{List}
use lib.ListN.{length, take}
use lib.Seq.{sets}
use Rattle.std.proofs.lemmas.List.{take_min}
use Rattle.utils.specs.Bytes.{pad_to}
use Rattle.exports.specs.Bytes.{le32s}
use Rattle.exports.proofs.Cells.{front-stored, cleared}
use Rattle.exports.proofs.put_front.Goals as goal

pub returns : goal.returns
returns c =
    let cells = c.args.cells.now in
    let n = c.min-n.result in
    let rest : ℕ = c.args.at + length cells * 4 - (c.args.at + n * 4) in
    let zeros =
    cleared (c.args.at + n * 4) rest c.put_cells.new.out c.fill.new.self (search rules)
    (omega (arith, c.min-n.ensures, c.requires, c.put_cells.auto.out)) in
    front-stored c.args.out.now c.put_cells.new.out _ cells c.args.at n (omega (arith, c.min-n.ensures))
    c.put_cells.ensures zeros
    ∙ ap (λ (l : List ℕ). sets c.args.out.now c.args.at (le32s (pad_to (length cells) l)))
    (ap (λ (k : ℕ). take k cells) c.min-n.ensures ∙ take_min c.args.n cells)
