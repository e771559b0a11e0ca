-- Two tables whose rows have the same names, function types and type numbers answer alike. So the replaced function's
-- row may hold the new function's items, blocks and formals' names, its header being kept.
use Rattle.std.specs.Prelude.{Option, Some}
use Prim.Native.Nat.{ℕ, zero, suc, ◌+◌, ◌≤◌, ◌<◌}
use mathlib.Core.Path.{◌≡◌, refl, ◌∙◌}
use mathlib.Core.List.{List, [], ◌∷◌}
use mathlib.Core.Bool.{Bool, true, false}
use native.Mathlib.Omega.{arith}
use borrow.Author.Tests.{ltb-true, ltb-false}
use lib.Dec.{ltb, eqb}
use lib.ListN.{length, get_or, set}
use lib.Seq.{sets, get_or-set_other}
use Rattle.utils.specs.Bytes.{pick}
use Rattle.functions.specs.Columns.{row_at, name_at, type_at}
use Rattle.functions.proofs.Stores.{get_or-sets-below}
use Rattle.functions.specs.Rows.{row_from}
use Rattle.sema.specs.Globals.{row_global, global_of, globals_in}
use Rattle.elaborate.specs.Types.{type_cell_of, callee_of}
use Rattle.elaborate.proofs.Rows.{type-pick}
use Rattle.headers.proofs.Brought.{RowSame, global-same, cell_same}

-- row k of the one and of the other
pub record Alike (cells cells' : List ℕ) (k : ℕ) : Type 0 where
  pub name : get_or cells (name_at k) 0 ≡ get_or cells' (name_at k) 0
  pub global : row_global cells k ≡ row_global cells' k
  pub type : get_or cells (type_at k) 0 ≡ get_or cells' (type_at k) 0

global-pick : (cells : List ℕ) (t : Bool) (f g : Option ℕ)
    → global_of cells (pick t f g) ≡ pick t (global_of cells f) (global_of cells g)
unfolding pick
global-pick cells true f g = refl
global-pick cells false f g = refl

module _ (cells cells' : List ℕ) (x : ℕ) where
  globals_from : (n i : ℕ) → ((k : ℕ) → i ≤ k → k < i + n → Alike cells cells' k)
      → global_of cells (row_from cells i n x) ≡ global_of cells' (row_from cells' i n x)
  unfolding row_from
  globals_from zero i h = refl
  globals_from (suc n) i h =
      let a = h i (omega arith) (omega arith) in
      rw (
        global-pick cells (eqb (get_or cells (name_at i) 0) x) (Some i) (row_from cells (i + 1) n x),
        global-pick cells' (eqb (get_or cells' (name_at i) 0) x) (Some i) (row_from cells' (i + 1) n x),
        a.name,
        a.global,
        globals_from n (i + 1) (λ k p q. h k (omega arith) (omega arith)),
      )

  callees_from : (n i : ℕ) → ((k : ℕ) → i ≤ k → k < i + n → Alike cells cells' k)
      → type_cell_of cells (row_from cells i n x) ≡ type_cell_of cells' (row_from cells' i n x)
  unfolding row_from
  callees_from zero i h = refl
  callees_from (suc n) i h =
      let a = h i (omega arith) (omega arith) in
      rw (
        type-pick cells (eqb (get_or cells (name_at i) 0) x) (Some i) (row_from cells (i + 1) n x),
        type-pick cells' (eqb (get_or cells' (name_at i) 0) x) (Some i) (row_from cells' (i + 1) n x),
        a.name,
        a.type,
        callees_from n (i + 1) (λ k p q. h k (omega arith) (omega arith)),
      )

  module _ (n : ℕ) (h : (k : ℕ) → k < n → Alike cells cells' k) where
    pub globals_alike : globals_in cells n x ≡ globals_in cells' n x
    globals_alike = globals_from n 0 (λ k p q. h k (omega arith))

    pub callees_alike : callee_of cells n x ≡ callee_of cells' n x
    callees_alike = callees_from n 0 (λ k p q. h k (omega arith))

-- A row that is stored leaves every other. ---------------------------------------------------------------------------

get_or-sets-behind : (vs l : List ℕ) (at j : ℕ) → at + length vs ≤ j → get_or (sets l at vs) j 0 ≡ get_or l j 0
get_or-sets-behind [] l at j h = refl
get_or-sets-behind (v ∷ vs) l at j h =
    get_or-sets-behind vs (set l at v) (suc at) j (omega arith) ∙ get_or-set_other l at j v 0 (λ e. omega (arith, e))

-- rows with the same cells
row-alike : (cells cells' : List ℕ) (k : ℕ)
    → ((j : ℕ) → j < 45 → get_or cells (row_at k + j) 0 ≡ get_or cells' (row_at k + j) 0) → Alike cells cells' k
row-alike cells cells' k h =
    let m : name_at k ≡ row_at k + 1 = omega arith in
    let s : RowSame cells cells' k k = λ j l other. h j l in
    record {
      name = rw m (h 1 (omega arith));
      global = global-same cells cells' (Some k) (Some k) s;
      type = cell_same cells cells' k k 7 s (omega arith) (λ q. omega (arith, q));
    }

pub other_row : (vs out : List ℕ) (p k : ℕ) → length vs ≤ 45 → (k ≡ p → ⊥) → Alike (sets out (row_at p) vs) out k
other_row vs out p k short other = by (ltb k p) (ltb p k) refl refl
  where
    by : (s t : Bool) → ltb k p ≡ s → ltb p k ≡ t → Alike (sets out (row_at p) vs) out k
    by true t e f =
        let q = ltb-true k p e in
        row-alike (sets out (row_at p) vs) out k
        (λ j l. get_or-sets-below vs out (row_at p) (row_at k + j) (omega arith))
    by false true e f =
        let q = ltb-true p k f in
        row-alike (sets out (row_at p) vs) out k
        (λ j l. get_or-sets-behind vs out (row_at p) (row_at k + j) (omega arith))
    by false false e f = absurd (other (omega (arith, ltb-false k p e, ltb-false p k f)))
