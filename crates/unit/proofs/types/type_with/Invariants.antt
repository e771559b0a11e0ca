-- What each turn of a loop keeps.
use Prim.Native.Nat.{◌+◌, ◌-◌}
use mathlib.Core.Path.{◌≡◌}
use lib.ListN.{length}
use Rattle.lexer.specs.Decoded.{tokens_of}
use Rattle.unit.specs.Rows.{typed_rows}
use Rattle.unit.proofs.types.type_with.Given as goal

abbrev pub invariant-loop-row : goal.invariant-loop-row
invariant-loop-row l = record {
  table_long : length l.table ≡ length l.initial.table;
  items_long : length l.items ≡ length l.initial.items;
  arguments_long : length l.arguments ≡ length l.initial.arguments;
  same : typed_rows (tokens_of l.tokens) l.rows l.n l.blocks l.initial.table l.row (l.first + l.more - l.row) l.items
      l.arguments
      ≡ typed_rows (tokens_of l.tokens) l.rows l.n l.blocks l.initial.table l.first l.more l.initial.items
      l.initial.arguments;
}
