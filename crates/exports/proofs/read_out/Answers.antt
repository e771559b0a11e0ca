-- Two runs of cells and zeros after them fill the slice (`whole`).
use Rattle.std.proofs.Common.{rules}
use Rattle.exports.proofs.Cells.{cleared, whole}
use Rattle.lexer.specs.Read.{read_of}
use native.Mathlib.Omega.{arith}
use Prim.Native.Nat.{ℕ, ◌-◌}
use mathlib.Core.Path.{ap, ◌∙◌}
use lib.ListN.{length, replicate}
use lib.Seq.{sets}
use Rattle.exports.proofs.read_out.Goals as goal

pub read_into-answer-requires : goal.read_into-answer-requires
read_into-answer-requires c =
    (omega arith, omega (arith, c.requires.0), omega (arith, c.requires.1), c.requires.3)

pub put_front-requires : goal.put_front-requires
put_front-requires c =
    omega (arith, c.read_into-answer.auto.tokens, c.requires.0, c.requires.2)

pub put_front-requires-2 : goal.put_front-requires-2
put_front-requires-2 c =
    omega (arith, c.put_front.auto.out, c.read_into-answer.auto.names, c.requires.1, c.requires.2)

pub returns : goal.returns
unfolding read_of
returns c =
    let long = c.put_front-2.auto.out ∙ c.put_front.auto.out in
    let kept = c.put_front-2.new.out in
    let zeros =
    cleared 73728 (length kept - 73728) kept c.fill.new.self (search rules) (omega (arith, long, c.requires.2)) in
    whole c.args.text.now _ _ c.args.out.now _ _ _ c.args.message.now _ _ c.read_into-answer.result
    c.read_into-answer.ensures (c.read_into-answer.auto.tokens ∙ c.requires.0) (c.read_into-answer.auto.names ∙
    c.requires.1) c.requires.2
    c.read_into-answer.auto.message c.put_front.ensures c.put_front-2.ensures
    (zeros ∙ ap (λ (x : ℕ). sets kept 73728 (replicate (x - 73728) 0)) long) c.finish_message.ensures
