-- One turn of each loop that threads the table: what is left, typed from the table as it is, gives the whole answer.
use Rattle.std.specs.Prelude.{Err, Ok, Result, Some, None}
use Prim.Native.Nat.{ℕ, zero, suc, ◌+◌, ◌*◌, ◌-◌, ◌≤◌, ◌<◌}
use mathlib.Core.Path.{◌≡◌, refl, sym, ap, ◌∙◌}
use mathlib.Core.List.{List, ◌∷◌}
use native.Mathlib.Omega.{arith}
use lib.ListN.{length, get_or}
use lib.Seq.{sets}
use Rattle.lexer.specs.Decoded.{Tok}
use Rattle.body.specs.Body.{Item}
use Rattle.parser.specs.declared.Refusal.{Refusal}
use Rattle.parser.specs.declared.Variable.{Variable}
use Rattle.graph.specs.Walk.{block_order}
use Rattle.graph.specs.Records.{recorded, at_most256}
use Rattle.graph.specs.Worklist.{worklist, remaining, popped}
use Rattle.graph.specs.declared.BlockId.{BlockId}
use Rattle.graph.specs.declared.RPOWorklist.{RPOWorklist}
use Rattle.graph.proofs.Callers.{blocks_most, new-remaining, popped-block, popped_empty}
use Rattle.sema.specs.Symbols.{Typed, typed, on, then_typed, enter_d}
use Rattle.sema.specs.Typing.{Global, type_item_d}
use Rattle.body.specs.Records.{named}
use Rattle.sema.specs.Items.{item_at, typed as variable}
use Rattle.sema.specs.Blocks.{items_at, type_items_d, type_end_d, type_block_d, formals_from, enter_formals_d, block_items}
use Rattle.sema.specs.Blocks.{blocks_at, type_blocks_d}
use Rattle.sema.proofs.Steps.{typed-refused, typed-fine}
use Rattle.sema.proofs.Records.{cell_of}

items_more : (items args : List ℕ) (at n : ℕ) → 0 < n
    → items_at items args at n ≡ item_at items args at ∷ items_at items args (at + 1) (n - 1)
unfolding items_at
items_more items args at zero h = absurd (omega arith)
items_more items args at (suc n) h = let m : suc n - 1 ≡ n = omega arith in rw m

items_turn : (items args : List ℕ) (first i n : ℕ) → i < n
    → items_at items args (first + i) (n - i)
    ≡ item_at items args (first + i) ∷ items_at items args (first + (i + 1)) (n - (i + 1))
items_turn items args first i n h =
    let a : first + (i + 1) ≡ first + i + 1 = omega arith in
    let b : n - (i + 1) ≡ n - i - 1 = omega arith in
    rw (a, b) (items_more items args (first + i) (n - i) (omega arith))

-- the items of a block, in turn i of n
module _ (ts : List Tok) (globals : ℕ → Global) (ret : ℕ) (t₀ : List ℕ) (is₀ : List Item) (t items args : List ℕ)
    (first i n : ℕ)
    (same : type_items_d ts globals ret t (items_at items args (first + i) (n - i)) ≡ type_items_d ts globals ret t₀ is₀)
  where
    module _ (h : i < n) {t₁ : List ℕ} {r : Result Unit Refusal} (op : typed t₁ r ≡ type_item_d ts globals ret t
        (item_at items args (first + i)))
      where
        unfoldable more : List ℕ → Typed
        more t = type_items_d ts globals ret t (items_at items args (first + (i + 1)) (n - (i + 1)))

        step : then_typed (type_item_d ts globals ret t (item_at items args (first + i))) more
            ≡ type_items_d ts globals ret t₀ is₀
        unfolding type_items_d more
        step = sym (ap (type_items_d ts globals ret t) (items_turn items args first i n h)) ∙ same

        pub items_refused : {e : Refusal} → r ≡ Err e → typed t₁ (Err e) ≡ type_block_d ts globals ret t₀ is₀
        unfolding type_block_d
        items_refused {e} g =
            typed-refused t₁ (type_items_d ts globals ret t₀ is₀) (λ t. type_end_d t is₀)
            (typed-refused t₁ (type_item_d ts globals ret t (item_at items args (first + i))) more op g ∙ step) refl

        pub items-fine : r ≡ Ok tt
            → type_items_d ts globals ret t₁ (items_at items args (first + (i + 1)) (n - (i + 1)))
            ≡ type_items_d ts globals ret t₀ is₀
        unfolding more
        items-fine g = typed-fine t₁ (type_item_d ts globals ret t (item_at items args (first + i))) more op g ∙ step

    pub items-ended : n ≤ i → type_end_d t is₀ ≡ type_block_d ts globals ret t₀ is₀
    unfolding type_items_d type_block_d items_at
    items-ended h =
        let e : n - i ≡ 0 = omega arith in
        let q : on t ≡ type_items_d ts globals ret t₀ is₀ = rw (← same, e) in
        typed-fine t (type_items_d ts globals ret t₀ is₀) (λ t. type_end_d t is₀) q refl

-- the formals
formals-more : (rows : List ℕ) (at n : ℕ) → 0 < n
    → formals_from rows at n
    ≡ variable (named (get_or rows at 0)) (get_or rows (at + 1) 0) ∷ formals_from rows (at + 2) (n - 1)
unfolding formals_from
formals-more rows at zero h = absurd (omega arith)
formals-more rows at (suc n) h = let m : suc n - 1 ≡ n = omega arith in rw m

formals_turn : (rows : List ℕ) (first i n : ℕ) → i < n
    → formals_from rows (first + i * 2) (n - i)
    ≡ variable (named (get_or rows (first + i * 2) 0)) (get_or rows (first + i * 2 + 1) 0)
    ∷ formals_from rows (first + (i + 1) * 2) (n - (i + 1))
formals_turn rows first i n h =
    let a : first + (i + 1) * 2 ≡ first + i * 2 + 2 = omega arith in
    let b : n - (i + 1) ≡ n - i - 1 = omega arith in
    rw (a, b) (formals-more rows (first + i * 2) (n - i) (omega arith))

module _ (token : ℕ) (t₀ : List ℕ) (vs₀ : List Variable) (t rows : List ℕ) (first i n : ℕ)
    (same : enter_formals_d t token (formals_from rows (first + i * 2) (n - i)) ≡ enter_formals_d t₀ token vs₀) where
  module _ (h : i < n) {t₁ : List ℕ} {r : Result Unit Refusal}
      (op : typed t₁ r ≡ enter_d t token (named (get_or rows (first + i * 2) 0)) (get_or rows (first + i * 2 + 1) 0))
    where
      unfoldable more-formals : List ℕ → Typed
      more-formals t = enter_formals_d t token (formals_from rows (first + (i + 1) * 2) (n - (i + 1)))

      formals_step : then_typed
          (enter_d t token (named (get_or rows (first + i * 2) 0)) (get_or rows (first + i * 2 + 1) 0)) more-formals
          ≡ enter_formals_d t₀ token vs₀
      unfolding enter_formals_d more-formals
      formals_step =
          ap (λ (n : ℕ). then_typed (enter_d t token (named (get_or rows (first + i * 2) 0)) n) more-formals)
          (sym (cell_of (get_or rows (first + i * 2 + 1) 0)))
          ∙ sym (ap (enter_formals_d t token) (formals_turn rows first i n h)) ∙ same

      pub formals-refused : {e : Refusal} → r ≡ Err e → typed t₁ (Err e) ≡ enter_formals_d t₀ token vs₀
      formals-refused g = typed-refused t₁ _ more-formals op g ∙ formals_step

      pub formals-fine : r ≡ Ok tt
          → enter_formals_d t₁ token (formals_from rows (first + (i + 1) * 2) (n - (i + 1)))
          ≡ enter_formals_d t₀ token vs₀
      unfolding more-formals
      formals-fine g = typed-fine t₁ _ more-formals op g ∙ formals_step

  pub formals-ended : n ≤ i → on t ≡ enter_formals_d t₀ token vs₀
  unfolding enter_formals_d formals_from
  formals-ended h = let e : n - i ≡ 0 = omega arith in rw (← same, e)

-- the blocks that a worklist still has
module _ (ts : List Tok) (globals : ℕ → Global) (ret : ℕ) (t₀ : List ℕ) (bs₀ : List (List Item))
    (t items args blocks : List ℕ) (first : ℕ) (order : List ℕ) (w : RPOWorklist)
    (few : w.blocks ≤ 256) (long : length order ≡ 256)
    (same : type_blocks_d ts globals ret t (blocks_at items args blocks first (remaining order w)) ≡ type_blocks_d ts
    globals ret t₀ bs₀)
  where
    module _ {b : BlockId} {rest : RPOWorklist} (pop : popped order w ≡ Some (b, rest)) where
      next : (remaining order w ≡ b.0 ∷ remaining order rest) × (rest ≡ worklist (w.taken + 1) w.blocks)
          × (w.taken < w.blocks)
      next =
          let p = popped-block order w.taken w.blocks few (omega arith) b rest pop in
          (rw p.1 p.0, p.1, p.2)

      pub fewer : (rest.blocks ≡ w.blocks) × (rest.blocks - rest.taken < w.blocks - w.taken)
      fewer = let e = next.1 in let l = next.2 in rw e (refl, omega arith)

      module _ {t₁ : List ℕ} {r : Result Unit Refusal}
          (op : typed t₁ r ≡ type_block_d ts globals ret t (block_items items args blocks (first + b.0))) where
        unfoldable more-blocks : List ℕ → Typed
        more-blocks t = type_blocks_d ts globals ret t (blocks_at items args blocks first (remaining order rest))

        blocks_step : then_typed (type_block_d ts globals ret t (block_items items args blocks (first + b.0))) more-blocks
            ≡ type_blocks_d ts globals ret t₀ bs₀
        unfolding type_blocks_d blocks_at more-blocks
        blocks_step =
            sym (ap (λ (vs : List ℕ). type_blocks_d ts globals ret t (blocks_at items args blocks first vs)) next.0)
            ∙ same

        pub blocks-refused : {e : Refusal} → r ≡ Err e → typed t₁ (Err e) ≡ type_blocks_d ts globals ret t₀
            bs₀
        blocks-refused g =
            typed-refused t₁ (type_block_d ts globals ret t (block_items items args blocks (first + b.0))) more-blocks
            op g ∙ blocks_step

        pub blocks-fine : r ≡ Ok tt
            → type_blocks_d ts globals ret t₁ (blocks_at items args blocks first (remaining order rest)) ≡ type_blocks_d ts
            globals ret t₀ bs₀
        unfolding more-blocks
        blocks-fine g =
            typed-fine t₁ (type_block_d ts globals ret t (block_items items args blocks (first + b.0))) more-blocks op g
            ∙ blocks_step

    pub blocks-ended : popped order w ≡ None → on t ≡ type_blocks_d ts globals ret t₀ bs₀
    unfolding type_blocks_d blocks_at
    blocks-ended e = let n = popped_empty order w.taken w.blocks few (omega arith) e in rw (← same, n)

-- a new worklist has the whole order
pub all-remaining : (blocks : List ℕ) (first count : ℕ) (out order : List ℕ) (w : RPOWorklist)
    → w ≡ worklist 0 (at_most256 count) → order ≡ sets out 0 (block_order (recorded blocks first) (at_most256 count))
    → length out ≡ 256 → remaining order w ≡ block_order (recorded blocks first) (at_most256 count)
all-remaining blocks first count out order w e f l =
    let m = blocks_most count in
    rw (e, f) (new-remaining (recorded blocks first) (at_most256 count) out (omega arith))
