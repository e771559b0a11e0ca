-- What each turn of a loop keeps.
use Rattle.lexer.specs.Decoded.{tokens_of}
use Rattle.graph.specs.Worklist.{remaining}
use Rattle.sema.specs.Globals.{globals_in}
use Rattle.sema.specs.Blocks.{blocks_at, type_blocks_d}
use Prim.Native.Nat.{◌-◌, ◌≤◌}
use mathlib.Core.Path.{◌≡◌}
use lib.ListN.{length}
use Rattle.sema.proofs.Sema.analyze_remaining.Given as goal

abbrev pub invariant-loop-b : goal.invariant-loop-b
invariant-loop-b l =
    let s = l.self in
    let blocks_of = blocks_at s.items.now s.arguments.now l.blocks l.first in
    let type = type_blocks_d (tokens_of s.tokens.now) (globals_in s.rows.now s.functions) s.ret in
    (l.left.blocks ≤ 256) × (length l.table ≡ length l.initial.table)
    × (type l.table (blocks_of (remaining l.order l.left))
    ≡ type l.initial.table (blocks_of (remaining l.order l.initial.left)))

abbrev pub decreases-loop-b : goal.decreases-loop-b
decreases-loop-b l = l.left.blocks - l.left.taken
