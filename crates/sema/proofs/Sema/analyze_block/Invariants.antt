-- What each turn of a loop keeps.
use Rattle.lexer.specs.Decoded.{tokens_of}
use Rattle.sema.specs.Globals.{globals_in}
use Rattle.sema.specs.Blocks.{items_at, type_items_d}
use Prim.Native.Nat.{◌+◌, ◌-◌}
use mathlib.Core.Path.{◌≡◌}
use lib.ListN.{length}
use Rattle.sema.proofs.Sema.analyze_block.Given as goal

abbrev pub invariant-loop-i : goal.invariant-loop-i
invariant-loop-i l =
    let s = l.self in
    let items = items_at s.items.now s.arguments.now in
    let type = type_items_d (tokens_of s.tokens.now) (globals_in s.rows.now s.functions) s.ret in
    (length l.table ≡ length l.initial.table)
    × (type l.table (items (l.first + l.i) (l.count - l.i)) ≡ type l.initial.table (items l.first l.count))
