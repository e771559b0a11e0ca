-- The simulation of demand 3 for all that check writes of a function.
use Prim.Native.Nat.{ℕ, ◌+◌, ◌*◌, ◌-◌}
use mathlib.Core.Path.{◌≡◌, refl, sym, ap, subst, ◌∙◌}
use mathlib.Core.List.{List, [], ◌∷◌, ◌++◌}
use native.Mathlib.Omega.{arith}
use lib.ListN.{length, get_or}
use Rattle.lexer.specs.Decoded.{Tok, token_at}
use Rattle.lexer.specs.declared.TokenAt.{TokenAt}
use Rattle.parser.specs.Runs.{type_cell, variables_cells}
use Rattle.link.specs.Blocks.{Block}
use Rattle.link.specs.Edges.{predecessors}
use Rattle.parser.specs.Moved.{Move, Sim, SimName, SimNumber, SimV, Each}
use Rattle.link.specs.Moved.{SimBlock}
use Rattle.parser.specs.declared.Variable.{Variable}
use Rattle.body.proofs.SimBody.{number_of}
use Rattle.body.proofs.SimItems.{count_s, shapes_s}
use Rattle.link.proofs.SimBlocks.{blocks_s, edges_s}
use Rattle.link.specs.Cells.{block_cells, predecessor_cells}
use Rattle.functions.specs.Functions.{Function, blocks_in}
use Rattle.functions.specs.Rows.{row_cells}
use Rattle.functions.specs.Answer.{edges_in}
use Rattle.functions.specs.Moved.{SimFunction}
use Rattle.functions.specs.declared.Counts.{Counts}
use Rattle.sema.specs.Symbols.{Typed}
use Rattle.sema.specs.Typing.{Global}
use Rattle.elaborate.specs.Types.{typed_items_cells}
use Rattle.unit.specs.Outcome.{untyped, none}
use Rattle.related.specs.Tables.{Tables, SimTyped, SameGlobals}
use Rattle.related.specs.Records.{SimItemCells, SimArgumentCells, SameCallees}
use Rattle.related.specs.Written.{written_of, SimRow, SimBlockCells, SimWritten, SameLengths}
use Rattle.related.proofs.SimProgram.{function_typed_s}
use Rattle.related.proofs.SimRecords.{item_cells_s, argument_cells_s}

-- the table that a typing leaves
pub table_s : {m : Move} {n : ℕ} {a a' : Typed} → SimTyped m n a a' → Tables m a.table a'.table
table_s (SimTyped.both q r) = q

-- formals, a name and a type each
formal_cells_s : {m : Move} {vs vs' : List Variable} → Each (SimV m) vs vs'
    → SimArgumentCells m (variables_cells vs) (variables_cells vs')
unfolding variables_cells
formal_cells_s Each.none = SimArgumentCells.none
formal_cells_s (Each.more (SimV.of (SimName.renamed x h) type) r) =
    SimArgumentCells.more (SimName.renamed x h) (type_cell type) (formal_cells_s r)

-- Blocks. ------------------------------------------------------------------------------------------------------------

block_cells_s : {m : Move} {n : ℕ} (items used u j : ℕ) (all goes : List (List ℕ)) {bs bs' : List Block}
    → Each (SimBlock m n) bs bs'
    → SimBlockCells items used (block_cells items (used + u) j all goes bs) (block_cells 0 u j all goes bs')
unfolding block_cells
block_cells_s items used u j all goes Each.none = SimBlockCells.none
block_cells_s items used u j all [] (Each.more q r) = SimBlockCells.none
block_cells_s items used u j all (s ∷ ss) (Each.more {x = b} {x' = b'} q r) =
    let e : used + u + length (predecessors j 0 all) ≡ used + (u + length (predecessors j 0 all)) = omega arith in
    let z : 0 + b'.first ≡ b'.first = omega arith in
    rw (q.first, q.operations, e, z)
    (SimBlockCells.more b'.first b'.operations _ _ _ u _ _
    (block_cells_s items used (u + length (predecessors j 0 all)) (j + 1) all ss r))

predecessor_cells_s : {m : Move} {n : ℕ} (j : ℕ) (all : List (List ℕ)) {bs bs' : List Block} → Each (SimBlock m n) bs bs'
    → predecessor_cells j all bs ≡ predecessor_cells j all bs'
unfolding predecessor_cells
predecessor_cells_s j all Each.none = refl
predecessor_cells_s j all (Each.more q r) =
    ap (λ (l : List ℕ). predecessors j 0 all ++ l) (predecessor_cells_s (j + 1) all r)

-- Rows. --------------------------------------------------------------------------------------------------------------

-- the same row, cell by cell
row_of : {m : Move} {items blocks token last place length line ret type first count base many formals x x' : ℕ}
    {cells cells' : List ℕ}
    {token₁ last₁ place₁ length₁ line₁ ret₁ type₁ first₁ count₁ base₁ many₁ formals₁ : ℕ}
    → token₁ ≡ m.by + token → last₁ ≡ m.by + last → place₁ ≡ m.on + place → length₁ ≡ length → line₁ ≡ m.down + line
    → ret₁ ≡ ret
    → type₁ ≡ type → first₁ ≡ items + first → count₁ ≡ count → base₁ ≡ blocks + base → many₁ ≡ many → formals₁ ≡ formals
    → SimNumber m x x' → SimArgumentCells m cells cells'
    → SimRow m items blocks
    (token₁ ∷ x ∷ last₁ ∷ place₁ ∷ length₁ ∷ line₁ ∷ ret₁ ∷ type₁ ∷ first₁ ∷ count₁ ∷ base₁ ∷ many₁ ∷ formals₁ ∷ cells)
    (token ∷ x' ∷ last ∷ place ∷ length ∷ line ∷ ret ∷ type ∷ first ∷ count ∷ base ∷ many ∷ formals ∷ cells')
row_of a b c d e f g h i j k l q r = rw (a, b, c, d, e, f, g, h, i, j, k, l) (SimRow.row _ _ _ _ _ _ _ _ _ _ _ _ q r)

module _ {m : Move} {n : ℕ} {ts ts' : List Tok} (s : Sim m n ts ts') {names names' : List ℕ}
    (w : SameLengths m names names') where
  name-long : {x x' : ℕ} → SimNumber m x x' → get_or names (x * 2 + 1) 0 ≡ get_or names' (x' * 2 + 1) 0
  name-long (SimName.renamed x h) = w.same x h

  pub row_s : {f f' : Function} (items blocks : ℕ) → SimFunction m n f f'
      → SimRow m items blocks (row_cells ts names f items blocks) (row_cells ts' names' f' 0 0)
  row_s {f} {f'} items blocks q =
      let last : f.next - 1 ≡ m.by + (f'.next - 1) = omega (arith, q.next, q.closes) in
      let there = ap (λ (i : ℕ). token_at ts i) q.token ∙ s.same f'.token q.begins in
      let first : items ≡ items + 0 = omega arith in
      let base : blocks ≡ blocks + 0 = omega arith in
      row_of {m = m} q.token last (ap (λ (t : TokenAt). t.place) there) (name-long (number_of q.head.name))
      (ap (λ (t : TokenAt). t.line.0) there) (ap type_cell q.head.ret) q.head.type first (count_s q.items)
      base
      (count_s (blocks_s (shapes_s q.items))) (count_s q.head.formals) (number_of q.head.name)
      (formal_cells_s q.head.formals)

  -- THE SIMULATION of all that check writes of a function
  pub written_s : {globals globals' : ℕ → Global} {callees callees' : ℕ → ℕ} {f f' : Function} (c : Counts)
      → SameGlobals m globals globals' → SameCallees m callees callees' → Tables m untyped untyped
      → SimFunction m n f f'
      → SimWritten m c (written_of ts names globals callees c f) (written_of ts' names' globals' callees' none f')
  written_s {f = f} {f'} c g k t q =
      let table = table_s (function_typed_s s g t q) in
      let bs : Each (SimBlock m n) (blocks_in f.items) (blocks_in f'.items) = blocks_s (shapes_s q.items) in
      let first : c.arguments ≡ c.arguments + 0 = omega arith in
      let used : c.predecessors ≡ c.predecessors + 0 = omega arith in
      record {
        rows = row_s c.items c.blocks q;
        items = subst (λ (k : ℕ). SimItemCells m c.arguments (typed_items_cells _ _ k f.items) _) (sym first)
            (item_cells_s table k c.arguments 0 q.items);
        arguments = argument_cells_s table q.items;
        blocks = subst (λ (k : ℕ). SimBlockCells c.items c.predecessors
            (block_cells c.items k 0 (edges_in f.items) (edges_in f.items) (blocks_in f.items)) _) (sym used)
            (subst (λ (goes : List (List ℕ)). SimBlockCells c.items c.predecessors
            (block_cells c.items (c.predecessors + 0) 0 (edges_in f.items) (edges_in f.items)
            (blocks_in f.items))
            (block_cells 0 0 0 goes goes (blocks_in f'.items))) (edges_s bs)
            (block_cells_s c.items c.predecessors 0 0 (edges_in f.items) (edges_in f.items) bs));
        predecessors = predecessor_cells_s 0 (edges_in f.items) bs
            ∙ ap (λ (goes : List (List ℕ)). predecessor_cells 0 goes (blocks_in f'.items)) (edges_s bs);
      }
