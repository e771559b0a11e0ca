-- The records of a function (`Own`) as they are written for it, behind the functions that are counted.
use Rattle.std.specs.Prelude.{ℕ, ◌+◌, ◌-◌, ◌≤◌, ◌≡◌, List, [], ◌∷◌, ◌++◌, length}
use Rattle.utils.specs.Bytes.{pad_to}
use Rattle.utils.specs.Limits.{most_formals}
use Rattle.lexer.specs.Sizes.{token_width}
use Rattle.lexer.specs.Decoded.{Tok}
use Rattle.body.specs.Room.{item_width}
use Rattle.link.specs.Steps.{block_width}
use Rattle.functions.specs.Columns.{row_width}
use Rattle.body.specs.Records.{arguments_count}
use Rattle.functions.specs.Functions.{Function, blocks_in}
use Rattle.functions.specs.Answer.{predecessors_in}
use Rattle.unit.specs.Outcome.{slices_of}
use Rattle.checker.specs.Check.{Checking}
use Rattle.related.specs.Written.{Written}
use Rattle.edited.specs.Reading.{Own, records, records_from}

-- its records, and those of its tokens among `tokens`
abbrev pub own_written : List ℕ → Function → Written → Own
own_written tokens f w =
    let is = f.items in
    record {
      row = pad_to row_width w.row;
      tokens = records_from token_width f.token (f.next - 1 + 1 - f.token) tokens;
      items = records item_width (length is) w.items;
      arguments = records 2 (arguments_count is) w.arguments;
      blocks = records block_width (length (blocks_in is)) w.blocks;
      predecessors = records 1 (length (predecessors_in is)) w.predecessors;
    }

-- Formals that a row of 45 cells has room for.
abbrev pub FewFormals : List Function → Type 0
FewFormals [] = Unit
FewFormals (f ∷ fs) = (length f.head.formals ≤ most_formals) × FewFormals fs

-- f stands in k behind `before`, typed with `table`, as `check` and `recheck` write the functions of a text.
pub record Stands (k : Checking) (ts : List Tok) (callees : ℕ → ℕ) (before : List Function) (f : Function)
    (table : List ℕ) : Type 0
  where
    pub behind : List Function
    pub tables : List (List ℕ)
    pub more : List (List ℕ)
    pub unit : k.unit ≡ slices_of ts k.names callees (before ++ (f ∷ behind)) (tables ++ (table ∷ more))
    pub even : length tables ≡ length before
    pub few : FewFormals (before ++ (f ∷ behind))
