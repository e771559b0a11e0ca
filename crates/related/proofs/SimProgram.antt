-- The simulation of demand 3 for typing, from a block's items to all functions: crates/sema/specs/Blocks.antt and
-- Program.antt. The walk sees block numbers alone, and these don't move.
use Prim.Native.Nat.{ℕ, zero, suc, ◌+◌, ◌<◌}
use mathlib.Core.Path.{◌≡◌, refl, ap, ◌∙◌}
use mathlib.Core.List.{List, [], ◌∷◌}
use lib.ListN.{length, get_or, take, drop}
use Rattle.graph.specs.Walk.{block_order}
use Rattle.lexer.specs.Decoded.{Tok}
use Rattle.parser.specs.Runs.{type_cell}
use Rattle.body.specs.Body.{Item}
use Rattle.link.specs.Blocks.{Block, fresh}
use Rattle.link.specs.Edges.{successors}
use Rattle.parser.specs.Moved.{Move, Sim, SimName, SimNumber, SimV, Each}
use Rattle.body.specs.Moved.{SimItem}
use Rattle.link.specs.Moved.{SimBlock}
use Rattle.parser.specs.declared.Variable.{Variable}
use Rattle.parser.proofs.Sim.{eqb_s}
use Rattle.body.proofs.SimBody.{number_of, token-moved, token-below, terminator_kept}
use Rattle.body.proofs.SimItems.{count_s, shapes_s}
use Rattle.link.proofs.SimBlocks.{blocks_s, edges_s}
use Rattle.functions.specs.Functions.{Function, blocks_in}
use Rattle.functions.specs.Moved.{SimFunction}
use Rattle.functions.proofs.SimFunctions.{formal_types_s}
use Rattle.sema.specs.Typing.{Global}
use Rattle.sema.specs.Blocks.{type_items_d, type_end_d, type_block_d, enter_formals_d, type_blocks_d, type_function_d}
use Rattle.sema.specs.Program.{globals_of, numbered, ordered_blocks, type_program_d, function_typed}
use Rattle.related.specs.Tables.{Tables, SimTyped, SameGlobals, SameHead, Apart}
use Rattle.related.proofs.SimTyping.{on_s, pick_s, then_typed_s, enter_s, plain_stop_s, analyze_s}

-- Lists. -------------------------------------------------------------------------------------------------------------

pub each_take : {A : Type 0} {R : A → A → Type 0} {xs xs' : List A} (n : ℕ) → Each R xs xs'
    → Each R (take n xs) (take n xs')
each_take zero r = Each.none
each_take (suc n) Each.none = Each.none
each_take (suc n) (Each.more q r) = Each.more q (each_take n r)

pub each-drop : {A : Type 0} {R : A → A → Type 0} {xs xs' : List A} (n : ℕ) → Each R xs xs'
    → Each R (drop n xs) (drop n xs')
each-drop zero r = r
each-drop (suc n) Each.none = Each.none
each-drop (suc n) (Each.more q r) = each-drop n r

pub each_map : {A : Type 0} {R S : A → A → Type 0} {xs xs' : List A} → ((x x' : A) → R x x' → S x x') → Each R xs xs'
    → Each S xs xs'
each_map f Each.none = Each.none
each_map f (Each.more {x} {x'} q r) = Each.more (f x x' q) (each_map f r)

-- Blocks. ------------------------------------------------------------------------------------------------------------

-- 21, with the last item's token
pub end_s : {m : Move} {n : ℕ} {t t' : List ℕ} {is is' : List Item} → Tables m t t' → Each (SimItem m n) is is'
    → SimTyped m n (type_end_d t is) (type_end_d t' is')
unfolding type_end_d
end_s q Each.none = on_s q
end_s {m} q (Each.more i Each.none) =
    rw (terminator_kept i, token-moved i) (pick_s m _ _ _ _ _ (on_s q) (plain_stop_s _ (token-below i) q 21))
end_s q (Each.more i (Each.more j r)) = end_s q (Each.more j r)

module _ {m : Move} {n : ℕ} {ts ts' : List Tok} (s : Sim m n ts ts') {globals globals' : ℕ → Global}
    (f : SameGlobals m globals globals') (ret : ℕ) where
  pub items_s : {t t' : List ℕ} {is is' : List Item} → Tables m t t' → Each (SimItem m n) is is'
      → SimTyped m n (type_items_d ts globals ret t is) (type_items_d ts' globals' ret t' is')
  unfolding type_items_d
  items_s q Each.none = on_s q
  items_s q (Each.more i r) = then_typed_s m _ _ _ _ (analyze_s s q ret f i) (λ u u' p. items_s p r)

  pub block_s : {t t' : List ℕ} {is is' : List Item} → Tables m t t' → Each (SimItem m n) is is'
      → SimTyped m n (type_block_d ts globals ret t is) (type_block_d ts' globals' ret t' is')
  unfolding type_block_d
  block_s q r = then_typed_s m _ _ _ _ (items_s q r) (λ u u' p. end_s p r)

  pub blocks_s' : {t t' : List ℕ} {bs bs' : List (List Item)} → Tables m t t' → Each (Each (SimItem m n)) bs bs'
      → SimTyped m n (type_blocks_d ts globals ret t bs) (type_blocks_d ts' globals' ret t' bs')
  unfolding type_blocks_d
  blocks_s' q Each.none = on_s q
  blocks_s' q (Each.more b r) = then_typed_s m _ _ _ _ (block_s q b) (λ u u' p. blocks_s' p r)

pub formals_s : {m : Move} {n : ℕ} {t t' : List ℕ} (token : ℕ) {vs vs' : List Variable} → token < n → Tables m t t'
    → Each (SimV m) vs vs'
    → SimTyped m n (enter_formals_d t (m.by + token) vs) (enter_formals_d t' token vs')
unfolding enter_formals_d
formals_s token l q Each.none = on_s q
formals_s {m} token l q (Each.more (SimV.of v type) r) =
    then_typed_s m _ _ _ _ (enter_s token l q (type_cell type) v) (λ u u' p. formals_s token l p r)

-- THE SIMULATION of a function's typing
pub type_function_s : {m : Move} {n : ℕ} {ts ts' : List Tok} {globals globals' : ℕ → Global} {t t' : List ℕ}
    (ret token : ℕ) {vs vs' : List Variable} {bs bs' : List (List Item)}
    → Sim m n ts ts' → token < n → SameGlobals m globals globals' → Tables m t t' → Each (SimV m) vs vs'
    → Each (Each (SimItem m n)) bs bs'
    → SimTyped m n (type_function_d ts globals ret (m.by + token) vs bs t)
    (type_function_d ts' globals' ret token vs' bs' t')
unfolding type_function_d
type_function_s {m} ret token s l f q vs r =
    then_typed_s m _ _ _ _ (formals_s token l q vs) (λ u u' p. blocks_s' s f ret p r)

-- The walk's order. --------------------------------------------------------------------------------------------------

-- the block of a number has as many items in both, from the same first
pub extent_s : {m : Move} {n : ℕ} {bs bs' : List Block} (v : ℕ) → Each (SimBlock m n) bs bs'
    → ((get_or bs v (fresh [] 0)).first ≡ (get_or bs' v (fresh [] 0)).first)
    × ((get_or bs v (fresh [] 0)).operations ≡ (get_or bs' v (fresh [] 0)).operations)
extent_s v Each.none = (refl, refl)
extent_s zero (Each.more q r) = (q.first, q.operations)
extent_s (suc v) (Each.more q r) = extent_s v r

pub numbered_s : {m : Move} {n : ℕ} {R : Item → Item → Type 0} {is is' : List Item} {bs bs' : List Block} (vs : List ℕ)
    → Each R is is' → Each (SimBlock m n) bs bs' → Each (Each R) (numbered is bs vs) (numbered is' bs' vs)
unfolding numbered
numbered_s [] r s = Each.none
numbered_s {bs' = bs'} (v ∷ vs) r s =
    let b = get_or bs' v (fresh [] 0) in
    rw ((extent_s v s).0, (extent_s v s).1)
    (Each.more (each_take b.operations (each-drop b.first r)) (numbered_s vs r s))

-- the walk takes the blocks in the same order
pub order_s : {m : Move} {n : ℕ} {bs bs' : List Block} → Each (SimBlock m n) bs bs'
    → block_order (λ v. get_or (successors bs bs) v []) (length bs)
    ≡ block_order (λ v. get_or (successors bs' bs') v []) (length bs')
order_s {bs = bs} {bs'} s =
    ap (λ (tss : List (List ℕ)). block_order (λ v. get_or tss v []) (length bs)) (edges_s s)
    ∙ ap (λ (n : ℕ). block_order (λ v. get_or (successors bs' bs') v []) n) (count_s s)

pub ordered_blocks_s : {m : Move} {n : ℕ} {is is' : List Item} → Each (SimItem m n) is is'
    → Each (Each (SimItem m n)) (ordered_blocks is) (ordered_blocks is')
ordered_blocks_s {m} {n} {is} {is'} r =
    let s : Each (SimBlock m n) (blocks_in is) (blocks_in is') = blocks_s (shapes_s r) in
    rw (order_s s) (numbered_s _ r s)

-- All functions. -----------------------------------------------------------------------------------------------------

-- a name that is related has the same function type in both
pub globals_of_s : {S : ℕ → ℕ → Type 0} {fs fs' : List Function} {x x' : ℕ} → Apart S → Each (SameHead S) fs fs' → S x x'
    → globals_of fs x ≡ globals_of fs' x'
unfolding globals_of
globals_of_s apart Each.none p = refl
globals_of_s {x = x} {x'} apart (Each.more {x = f} {x' = f'} q r) p =
    rw (apart f.head.name.0 f'.head.name.0 x x' q.name p, q.ret, q.formals, globals_of_s apart r p) refl

-- names under a move are told apart
pub apart_s : (m : Move) → Apart (SimNumber m)
apart_s m x x' y y' p q = eqb_s p q

pub head_s : {m : Move} {n : ℕ} {f f' : Function} → SimFunction m n f f' → SameHead (SimNumber m) f f'
head_s q =
    record {
      name = number_of q.head.name;
      ret = q.head.ret;
      formals = formal_types_s q.head.formals;
      type = q.head.type;
    }

-- a renamed callee is the same function type
pub globals_s : {m : Move} {n : ℕ} {fs fs' : List Function} → Each (SimFunction m n) fs fs'
    → SameGlobals m (globals_of fs) (globals_of fs')
globals_s {m} r =
    record { same = λ x h. globals_of_s (apart_s m) (each_map (λ f f' q. head_s q) r) (SimName.renamed x h) }

-- THE SIMULATION of a function's typing, as it was parsed
pub function_typed_s : {m : Move} {n : ℕ} {ts ts' : List Tok} {globals globals' : ℕ → Global} {blank blank' : List ℕ}
    {f f' : Function} → Sim m n ts ts' → SameGlobals m globals globals' → Tables m blank blank' → SimFunction m n f f'
    → SimTyped m n (function_typed ts globals f blank) (function_typed ts' globals' f' blank')
function_typed_s {f' = f'} s g q p =
    rw (p.head.ret, p.token)
    (type_function_s (type_cell f'.head.ret) f'.token s p.begins g q p.head.formals
    (ordered_blocks_s p.items))

-- .. and of all functions
pub program_s : {m : Move} {n : ℕ} {ts ts' : List Tok} {all all' : List Function} {blank blank' : List ℕ}
    {fs fs' : List Function} → Sim m n ts ts' → Each (SimFunction m n) all all' → Tables m blank blank'
    → Each (SimFunction m n) fs fs'
    → SimTyped m n (type_program_d ts all fs blank) (type_program_d ts' all' fs' blank')
unfolding type_program_d
program_s s a q Each.none = on_s q
program_s {m} s a q (Each.more f r) =
    then_typed_s m _ _ _ _ (function_typed_s s (globals_s a) q f) (λ u u' p. program_s s a q r)
