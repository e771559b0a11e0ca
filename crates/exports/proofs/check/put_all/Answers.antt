-- Each slice's bytes end where the next one's begin, so seven runs are one of 252,228 bytes, and zeros fill what is
-- behind it (`fronts-stored`).
use native.Mathlib.Omega.{arith}
use lib.Seq.{sets}
use lib.ListN.{length, take, replicate}
use Rattle.utils.specs.Bytes.{pad_to}
use Rattle.exports.specs.Bytes.{le32s}
use Rattle.std.proofs.Common.{rules}
use Rattle.exports.proofs.Cells.{cleared}
use Rattle.exports.proofs.Checks.{fronts-stored}
use Prim.Native.Nat.{ℕ, ◌-◌}
use mathlib.Core.Path.{◌≡◌, ap, ◌∙◌}
use Rattle.exports.proofs.check.put_all.Goals as goal

pub put_front-requires : goal.put_front-requires
put_front-requires c =
    omega (arith, c.requires.0.tokens, c.requires.1)

pub returns : goal.returns
returns c =
    let a = c.args in
    let rows = a.functions.now in
    -- no store changes the length of `out`
    let kept : length c.put_front-7.new.out ≡ length a.out.now =
    c.put_front-7.auto.out ∙ c.put_front-6.auto.out ∙ c.put_front-5.auto.out ∙ c.put_front-4.auto.out
    ∙ c.put_front-3.auto.out ∙ c.put_front-2.auto.out ∙ c.put_front.auto.out in
    fronts-stored a.r a.tokens.now a.names.now a.functions.now a.items.now a.arguments.now
    a.blocks.now a.predecessors.now c.requires.0 a.out.now c.put_front.new.out
    c.put_front-2.new.out c.put_front-3.new.out c.put_front-4.new.out c.put_front-5.new.out
    c.put_front-6.new.out c.put_front-7.new.out _ c.requires.1 c.put_front.ensures c.put_front-2.ensures
    (c.put_front-3.ensures
    ∙ ap (λ (k : ℕ). sets c.put_front-2.new.out 73728 (le32s (pad_to (length rows) (take k rows)))) c.rows_used.ensures)
    c.put_front-4.ensures c.put_front-5.ensures c.put_front-6.ensures c.put_front-7.ensures
    (cleared 252228 _ c.put_front-7.new.out c.fill.new.self (search rules) (omega (arith, kept, c.requires.1))
    ∙ ap (λ (x : ℕ). sets c.put_front-7.new.out 252228 (replicate (x - 252228) 0)) kept)
