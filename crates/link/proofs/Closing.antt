-- The first block of what is left: the operations up to the next label; and what is left behind that label.
use Prim.Native.Nat.{ℕ, zero, suc, ◌+◌, ◌-◌, ◌<◌}
use mathlib.Core.Path.{◌≡◌, refl, ap, ◌∙◌}
use mathlib.Core.Bool.{Bool, true, false}
use mathlib.Core.List.{List, [], ◌∷◌}
use native.Mathlib.Omega.{arith}
use lib.Dec.{eqb}
use lib.ListN.{length}
use Rattle.utils.specs.Bytes.{pick}
use Rattle.body.specs.Shapes.{Shape, name, operation}
use Rattle.link.specs.Blocks.{Block, fresh, grown, blocks_from}
use Rattle.body.specs.Records.{first_cell, record_at, record_part, goes_of, parts_at}
use Rattle.body.specs.Room.{filled}
use Rattle.link.specs.Steps.{run}

-- a block with the operations up to the next label
abbrev pub closing : Block → List Shape → Block
closing b [] = b
closing b (name l ∷ ps) = b
closing b (operation w goes ∷ ps) = closing (grown b w goes) ps

-- the label behind them, and what is behind that
abbrev pub opened : List Shape → List ℕ
opened [] = []
opened (name l ∷ ps) = l ∷ []
opened (operation w goes ∷ ps) = opened ps

abbrev pub beyond : List Shape → List Shape
beyond [] = []
beyond (name l ∷ ps) = ps
beyond (operation w goes ∷ ps) = beyond ps

-- the blocks behind the first
abbrev pub others : ℕ → List Shape → List Block
others at [] = []
others at (name l ∷ ps) = blocks_from (at + 1) (fresh (l ∷ []) (at + 1)) ps
others at (operation w goes ∷ ps) = others (at + 1) ps

pub first-closed : (ps : List Shape) (at : ℕ) (b : Block) → blocks_from at b ps ≡ closing b ps ∷ others at ps
unfolding blocks_from
first-closed [] at b = refl
first-closed (name l ∷ ps) at b = refl
first-closed (operation w goes ∷ ps) at b = first-closed ps (at + 1) (grown b w goes)

pub others_none : (ps : List Shape) (at : ℕ) → run ps ≡ length ps → others at ps ≡ []
unfolding run
others_none [] at h = refl
others_none (name l ∷ ps) at h = absurd (omega arith)
others_none (operation w goes ∷ ps) at h = others_none ps (at + 1) (omega arith)

pub others_more : (ps : List Shape) (at next : ℕ) → run ps < length ps → next ≡ at + run ps + 1
    → others at ps ≡ blocks_from next (fresh (opened ps) next) (beyond ps)
unfolding run
others_more [] at next h e = absurd (omega arith)
others_more (name l ∷ ps) at next h e =
    let f : next ≡ at + 1 = omega arith in
    rw f
others_more (operation w goes ∷ ps) at next h e = others_more ps (at + 1) next (omega arith) (omega arith)

-- one block with an operation is gone
filled-false : (ps : List Shape) → filled false ps ≡ filled true (beyond ps)
unfolding filled pick
filled-false [] = refl
filled-false (name l ∷ ps) = refl
filled-false (operation w goes ∷ ps) = omega (arith, filled-false ps)

pub filled_beyond : (ps : List Shape) → 0 < run ps → filled true ps ≡ filled true (beyond ps) + 1
unfolding run filled pick
filled_beyond [] h = absurd (omega arith)
filled_beyond (name l ∷ ps) h = absurd (omega arith)
filled_beyond (operation w goes ∷ ps) h = omega (arith, filled-false ps)

-- The same, of records. ---------------------------------------------------------------------------------------------

pub parts_length : (cells : List ℕ) (from m : ℕ) → length (parts_at cells from m) ≡ m
unfolding parts_at
parts_length cells from zero = refl
parts_length cells from (suc m) = ap suc (parts_length cells (from + 1) m)

-- behind the label that ends a run of n operations
pub beyond_at : (cells : List ℕ) (m from n : ℕ) → n ≡ run (parts_at cells from m)
    → beyond (parts_at cells from m) ≡ parts_at cells (from + n + 1) (m - (n + 1))
unfolding run parts_at
beyond_at cells zero from n h =
    let e : 0 - (n + 1) ≡ 0 = omega arith in
    rw e
beyond_at cells (suc m) from n h = by (record_part (record_at cells from)) h (beyond_at cells m (from + 1) (n - 1))
  where
    rest : List Shape
    rest = parts_at cells (from + 1) m

    by : (p : Shape) → n ≡ run (p ∷ rest)
        → (n - 1 ≡ run rest → beyond rest ≡ parts_at cells (from + 1 + (n - 1) + 1) (m - (n - 1 + 1)))
        → beyond (p ∷ rest) ≡ parts_at cells (from + n + 1) (suc m - (n + 1))
    by (name l) e ih =
        let u : from + n + 1 ≡ from + 1 = omega arith in
        let v : suc m - (n + 1) ≡ m = omega arith in
        rw (u, v)
    by (operation w goes) e ih =
        let u : from + n + 1 ≡ from + 1 + (n - 1) + 1 = omega arith in
        let v : suc m - (n + 1) ≡ m - (n - 1 + 1) = omega arith in
        rw (u, v) (ih (omega arith))

operation-is : (t : Bool) (a w w' : ℕ) (g g' : List ℕ) → pick t (name a) (operation w' g') ≡ operation w g
    → (w ≡ w') × (g ≡ g')
unfolding pick
operation-is true a w w' g g' h = absurd (cc)
operation-is false a w w' g g' h = (cc, cc)

-- what a block has of the last of its n operations
pub record Closed (cells : List ℕ) (from : ℕ) (b x : Block) (n : ℕ) : Type 0 where
  pub begins : x.first ≡ b.first
  pub has_operations : x.operations ≡ b.operations + n
  pub none : n ≡ 0 → x ≡ b
  pub last_token : 0 < n → x.token ≡ (record_at cells (from + n - 1)).token
  pub last_goes : 0 < n → x.goes ≡ goes_of (record_at cells (from + n - 1))

closed-one : (cells : List ℕ) (from : ℕ) (b : Block) (rest : List Shape) (p : Shape)
    → record_part (record_at cells from) ≡ p → ((x : Block) → Closed cells (from + 1) x (closing x rest) (run rest))
    → Closed cells from b (closing b (p ∷ rest)) (run (p ∷ rest))
unfolding run record_part
closed-one cells from b rest (name l) e ih =
    record {
      begins = refl;
      has_operations = omega arith;
      none = λ h. refl;
      last_token = λ h. absurd (omega arith);
      last_goes = λ h. absurd (omega arith);
    }
closed-one cells from b rest (operation w goes) e ih =
    let i = ih (grown b w goes) in
    record {
      begins = i.begins;
      has_operations = omega (arith, i.has_operations);
      none = λ h. absurd (omega arith);
      last_token = λ h. by_token (run rest) refl;
      last_goes = λ h. by-goes (run rest) refl;
    }
  where
    by_token : (n : ℕ) → run rest ≡ n
        → (closing (grown b w goes) rest).token ≡ (record_at cells (from + (run rest + 1) - 1)).token
    by_token zero z =
        let r = record_at cells from in
        let u : from + (run rest + 1) - 1 ≡ from = omega arith in
        let v : (closing (grown b w goes) rest).token
        ≡ w = ap (λ (x : Block). x.token) ((ih (grown b w goes)).none z) in
        let is = operation-is (eqb r.kind 1) (first_cell r.last) w r.token goes (goes_of r) e in
        rw u (v ∙ is.0)
    by_token (suc n) z =
        let u : from + (run rest + 1) - 1 ≡ from + 1 + run rest - 1 = omega arith in
        rw u ((ih (grown b w goes)).last_token (omega arith))

    by-goes : (n : ℕ) → run rest ≡ n
        → (closing (grown b w goes) rest).goes ≡ goes_of (record_at cells (from + (run rest + 1) - 1))
    by-goes zero z =
        let r = record_at cells from in
        let u : from + (run rest + 1) - 1 ≡ from = omega arith in
        let v : (closing (grown b w goes) rest).goes ≡ goes =
        ap (λ (x : Block). x.goes) ((ih (grown b w goes)).none z) in
        let is = operation-is (eqb r.kind 1) (first_cell r.last) w r.token goes (goes_of r) e in
        rw u (v ∙ is.1)
    by-goes (suc n) z =
        let u : from + (run rest + 1) - 1 ≡ from + 1 + run rest - 1 = omega arith in
        rw u ((ih (grown b w goes)).last_goes (omega arith))

pub closed_at : (cells : List ℕ) (m from : ℕ) (b : Block)
    → Closed cells from b (closing b (parts_at cells from m)) (run (parts_at cells from m))
unfolding run parts_at
closed_at cells zero from b =
    record {
      begins = refl;
      has_operations = omega arith;
      none = λ h. refl;
      last_token = λ h. absurd (omega arith);
      last_goes = λ h. absurd (omega arith);
    }
closed_at cells (suc m) from b =
    closed-one cells from b (parts_at cells (from + 1) m) (record_part (record_at cells from)) refl
    (λ x. closed_at cells m (from + 1) x)
