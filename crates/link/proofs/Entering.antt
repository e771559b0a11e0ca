-- The edges that enter a block, stored source by source: what is still to be stored, stored from here, gives the whole.
use Prim.Native.Nat.{ℕ, zero, suc, ◌+◌, ◌-◌, ◌*◌, ◌≤◌, ◌<◌}
use mathlib.Core.Path.{◌≡◌, refl, sym, ap, ◌∙◌}
use mathlib.Core.Bool.{Bool, true, false}
use mathlib.Core.List.{List, [], ◌∷◌, ◌++◌}
use native.Mathlib.Omega.{arith}
use borrow.Author.Tests.{lt-ltb}
use lib.Dec.{eqb}
use lib.ListN.{length, get_or, set, length-append}
use lib.Seq.{sets, length-sets}
use Rattle.utils.specs.Bytes.{pick}
use Rattle.utils.proofs.Runs.{sets_append}
use Rattle.graph.specs.Records.{cells_of, block_at, counted, row_of}
use Rattle.link.specs.Edges.{entering, predecessors}
use Rattle.link.specs.Steps.{enters_d, links_from, entries_from, entered_by, put_entered}

-- Of `whole`, to be stored from `used` on, `rest` is left, to be stored from `here` on.
pub record Entered (whole rest : List ℕ) (used here : ℕ) (s₀ s : List ℕ) : Type 0 where
  pub count : here + length rest ≡ used + length whole
  pub long : length s ≡ length s₀
  pub stored : sets s here rest ≡ sets s₀ used whole

pub entered-none : (whole : List ℕ) (used : ℕ) (s : List ℕ) → Entered whole whole used used s s
entered-none whole used s = record { count = refl; long = refl; stored = refl }

pub entered-more : {whole rest : List ℕ} {used here : ℕ} {s₀ s : List ℕ} (xs more : List ℕ) (there : ℕ) (t : List ℕ)
    → Entered whole rest used here s₀ s → rest ≡ xs ++ more → (there ≡ here + length xs) × (t ≡ sets s here xs)
    → Entered whole more used there s₀ t
entered-more {whole} {rest} {used} {here} {s₀} {s} xs more there t e p q =
    record {
      count = omega (arith, q.0, rw (p, length-append) at e.count);
      long = rw q.1 (length-sets s here xs ∙ e.long);
      stored = rw (q.1, q.0, ← sets_append xs more s here, ← p) e.stored;
    }

pub entered_all : {whole rest : List ℕ} {used here : ℕ} {s₀ s : List ℕ} → Entered whole rest used here s₀ s → rest ≡ []
    → (here ≡ used + length whole) × (s ≡ sets s₀ used whole)
entered_all e p = (omega (arith, rw p at e.count), rw p at e.stored)

-- One block's edges. ------------------------------------------------------------------------------------------------

-- a source, or none
abbrev pub source : ℕ → Bool → List ℕ
source k b = pick b (k ∷ []) []

entering-one : (k : ℕ) (b : Bool) (r : List ℕ) → pick b (k ∷ r) r ≡ source k b ++ r
unfolding pick
entering-one k true r = refl
entering-one k false r = refl

sources_of : (j k count x y : ℕ)
    → entering j k (counted count x y) [] ≡ source k (enters_d count 0 x j) ++ source k (enters_d count 1 y j)
unfolding entering enters_d pick
sources_of j k zero x y = refl
sources_of j k (suc zero) x y = entering-one k (eqb x j) []
sources_of j k (suc (suc n)) x y =
    rw (lt-ltb 0 (suc (suc n)) (omega arith), lt-ltb 1 (suc (suc n)) (omega arith))
    (entering-one k (eqb x j) (source k (eqb y j)))

source_length : (k : ℕ) (b : Bool) → length (source k b) ≡ pick b 1 0
unfolding pick
source_length k true = refl
source_length k false = refl

source_stored : (s : List ℕ) (i k : ℕ) (b : Bool) → pick b (set s i k) s ≡ sets s i (source k b)
unfolding pick
source_stored s i k true = refl
source_stored s i k false = refl

module _ (rows : List (List ℕ)) (counts : List ℕ) (j k used : ℕ) (s : List ℕ) (one two : Bool)
    (p : one ≡ enters_d (get_or counts k 0) 0 (get_or (get_or rows k []) 0 0) j)
    (q : two ≡ enters_d (get_or counts k 0) 1 (get_or (get_or rows k []) 1 0) j) where
  both : entering j k (row_of rows counts k) [] ≡ source k one ++ source k two
  both = rw (p, q) (sources_of j k (get_or counts k 0) (get_or (get_or rows k []) 0 0) (get_or (get_or rows k []) 1 0))

  number : length (entering j k (row_of rows counts k) []) ≡ pick one 1 0 + pick two 1 0
  number =
      ap length both ∙ length-append (source k one) (source k two)
      ∙ rw (source_length k one, source_length k two)

  pub room-first : used + length (entering j k (row_of rows counts k) []) ≤ length s → used + pick one 1 0 ≤ length s
  room-first h = omega (arith, h, number)

  pub room_second : (next : ℕ) (t : List ℕ) → used + length (entering j k (row_of rows counts k) []) ≤ length s
      → next ≡ used + pick one 1 0 → length t ≡ length s → next + pick two 1 0 ≤ length t
  room_second next t h u v = omega (arith, h, number, u, v)

  pub two_sources : (next last : ℕ) (t w : List ℕ) → (next ≡ used + pick one 1 0) × (t ≡ pick one (set s used k) s)
      → (last ≡ next + pick two 1 0) × (w ≡ pick two (set t next k) t)
      → (last ≡ used + length (entering j k (row_of rows counts k) []))
      × (w ≡ sets s used (entering j k (row_of rows counts k) []))
  two_sources next last t w u v =
      let e : next ≡ used + length (source k one) = omega (arith, u.0, source_length k one) in
      let f : t ≡ sets s used (source k one) = u.1 ∙ source_stored s used k one in
      let g : w ≡ sets t next (source k two) = v.1 ∙ source_stored t next k two in (
        omega (arith, u.0, v.0, number),
        g ∙ rw (e, f, both) (sym (sets_append (source k one) (source k two) s used)),
      )

-- All blocks' edges to one block. -----------------------------------------------------------------------------------

prepend : (b : Bool) (k : ℕ) (xs ys more : List ℕ) → xs ≡ ys ++ more
    → pick b (k ∷ xs) xs ≡ pick b (k ∷ ys) ys ++ more
unfolding pick
prepend true k xs ys more h = ap (λ (r : List ℕ). k ∷ r) h
prepend false k xs ys more h = h

pub entering_append : (j k : ℕ) (ts more : List ℕ) → entering j k ts more ≡ entering j k ts [] ++ more
unfolding entering
entering_append j k [] more = refl
entering_append j k (t ∷ ts) more =
    prepend (eqb t j) k (entering j k ts more) (entering j k ts []) more (entering_append j k ts more)

pub predecessors-more : (goes : ℕ → List ℕ) (j k n : ℕ) → k < n
    → predecessors j k (links_from goes k (n - k))
    ≡ entering j k (goes k) [] ++ predecessors j (k + 1) (links_from goes (k + 1) (n - (k + 1)))
unfolding predecessors links_from
predecessors-more goes j k n h =
    let e : n - k ≡ suc (n - (k + 1)) = omega arith in
    rw e (entering_append j k (goes k) (predecessors j (k + 1) (links_from goes (k + 1) (n - (k + 1)))))

pub predecessors-none : (goes : ℕ → List ℕ) (j k rest : ℕ) → rest ≡ 0 → predecessors j k (links_from goes k rest) ≡ []
unfolding predecessors links_from
predecessors-none goes j k rest z = rw z

-- The rows' successors are the records', where the rows hold them.
pub links_same : (f g : ℕ → List ℕ) (k n : ℕ) → ((v : ℕ) → v < k + n → f v ≡ g v) → links_from f k n ≡ links_from g k n
unfolding links_from
links_same f g k zero h = refl
links_same f g k (suc n) h =
    rw (h k (omega arith))
    (ap (λ (x : List (List ℕ)). g k ∷ x) (links_same f g (k + 1) n (λ v less. h v (omega arith))))

-- All blocks' edges to all blocks. ----------------------------------------------------------------------------------

pub entries-more : (all : List (List ℕ)) (j n : ℕ) → j < n
    → entries_from j all (n - j) ≡ predecessors j 0 all ++ entries_from (j + 1) all (n - (j + 1))
unfolding entries_from
entries-more all j n h =
    let e : n - j ≡ suc (n - (j + 1)) = omega arith in
    rw e

pub entries_none : (all : List (List ℕ)) (j n : ℕ) → n ≡ 0 → entries_from j all n ≡ []
unfolding entries_from
entries_none all j n z = rw z

pub entered_step : (used : ℕ) (all : List (List ℕ)) (cells : List ℕ) (base j n next : ℕ) → j < n
    → next ≡ used + length (predecessors j 0 all)
    → put_entered (j + 1) next all
    (sets cells ((base + j) * 8) (cells_of (entered_by (block_at cells (base + j)) j used (next - used))))
    (base + (j + 1))
    (n - (j + 1))
    ≡ put_entered j used all cells (base + j) (n - j)
unfolding put_entered
entered_step used all cells base j n next h q =
    let e : n - j ≡ suc (n - (j + 1)) = omega arith in
    let f : next - used ≡ length (predecessors j 0 all) = omega arith in
    let g : base + (j + 1) ≡ base + j + 1 = omega arith in
    rw (e, f, g, q)

pub entered-end : (used : ℕ) (all : List (List ℕ)) (cells : List ℕ) (j k n : ℕ) → n ≡ 0
    → put_entered j used all cells k n ≡ cells
unfolding put_entered
entered-end used all cells j k n z = rw z
