-- The blocks that are left, resolved and stored from here, give the whole (`Cutting`).
use native.Mathlib.Omega.{arith}
use mathlib.Core.Path.{refl}
use Rattle.std.proofs.lemmas.Result.{err_from_is_err_and}
use Rattle.link.proofs.Cutting.{cut-start, next-room, next-refused, next_above, next_last, next-on}
use Rattle.link.proofs.close.link_blocks.Goals as goal

pub overflow_add-end : goal.overflow_add-end
overflow_add-end c =
    omega (arith, c.requires.few-items)

pub overflow_add-from : goal.overflow_add-from
overflow_add-from c =
    omega (arith, c.requires.few-items, c.requires.before-few)

pub loop-k-init : goal.loop-k-init
loop-k-init c =
    cut-start c.args.items.now c.args.first c.args.count c.args.labels.leading c.args.base c.args.name c.args.blocks.now
    c.requires.before_are c.requires.before-few c.requires.few_blocks

pub block_end-stop-requires : goal.block_end-stop-requires
block_end-stop-requires c =
    (c.loop-k.invariant.high, c.requires.items_there)

pub add_block-requires : goal.add_block-requires
add_block-requires c = (
  omega (arith, c.block_end-stop.ensures.0),
  omega (arith, c.block_end-stop.ensures.1, c.requires.few-items),
  omega (arith, c.block_end-stop.ensures.1, c.requires.items_there),
  omega (arith, c.loop-k.invariant.left.long, c.requires.blocks_there),
  next-room c.requires c.loop-k.invariant c.block_end-stop.ensures.0,
)

pub loop-k-smaller : goal.loop-k-smaller
loop-k-smaller c =
    omega (arith, c.block_end-stop.ensures.0, c.block_end-stop.ensures.1, c.if-stop-end.false)

pub returns-in_err-k : goal.returns-in_err-k
returns-in_err-k c =
    let p = err_from_is_err_and c.from_residual.result c.from_residual.ensures.1 in
    let r =
    next-refused c.requires c.loop-k.invariant c.block_end-stop.ensures.0 c.refuse-empty.ensures
    c.add_block.ensures.value
    c.in_err-k.was in
    record { value = rw (p.1, p.2, r) refl; closed_held = rw p.1 tt }

pub overflow_sub-result : goal.overflow_sub-result
overflow_sub-result c =
    next_above c.requires c.loop-k.invariant c.block_end-stop.ensures.0 c.refuse-empty.ensures c.add_block.ensures.value
    c.in_ok-k.was

pub returns-then-stop-end : goal.returns-then-stop-end
returns-then-stop-end c =
    let w =
    next_last c.requires c.loop-k.invariant c.block_end-stop.ensures.0 c.refuse-empty.ensures c.add_block.ensures.value
    c.in_ok-k.was c.add_block.ensures.blocks_after c.if-stop-end.true in
    record { value = w.0; closed_held = w.1 }

pub loop-k-preserved : goal.loop-k-preserved
loop-k-preserved c =
    next-on c.requires c.loop-k.invariant c.block_end-stop.ensures.0 c.refuse-empty.ensures c.add_block.ensures.value
    c.in_ok-k.was c.add_block.ensures.blocks_after (omega (arith, c.block_end-stop.ensures.1, c.if-stop-end.false))
