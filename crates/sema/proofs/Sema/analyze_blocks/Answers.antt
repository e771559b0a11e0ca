-- A new worklist still has the whole order (`all-remaining`), so typing what it has is typing the function's blocks
-- `in_order`.
use lib.Seq.{length-sets}
use Rattle.lexer.specs.Decoded.{tokens_of}
use Rattle.graph.proofs.Callers.{blocks_most}
use Rattle.sema.specs.Globals.{globals_in}
use Rattle.functions.specs.Columns.{first_block_at, block_count_at}
use Rattle.sema.specs.Blocks.{blocks_at, type_blocks_d}
use Rattle.sema.proofs.Threads.{all-remaining}
use Prim.Native.Nat.{ℕ}
use mathlib.Core.Path.{refl, ap, ◌∙◌}
use mathlib.Core.List.{List}
use lib.ListN.{get_or}
use Rattle.sema.proofs.Sema.analyze_blocks.Goals as goal

pub analyze_remaining-requires : goal.analyze_remaining-requires
analyze_remaining-requires c = (
  rw (c.new-work.ensures.order_after, length-sets) refl,
  rw c.new-work.ensures.value
      (blocks_most _),
)

pub returns : goal.returns
returns c =
    let s = c.args.self in
    let first = get_or s.rows.now (first_block_at c.args.row) 0 in
    let count = get_or s.rows.now (block_count_at c.args.row) 0 in
    let type = type_blocks_d (tokens_of s.tokens.now) (globals_in s.rows.now s.functions) s.ret c.args.table.now in
    let all = all-remaining c.args.blocks.now first count _ _ _ c.new-work.ensures.value
    c.new-work.ensures.order_after refl in
    c.analyze_remaining.ensures
    ∙ ap (λ (vs : List ℕ). type (blocks_at s.items.now s.arguments.now c.args.blocks.now first vs)) all
