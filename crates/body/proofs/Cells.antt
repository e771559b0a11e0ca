-- What one item adds to the cells, the counts and the blocks of those behind it.
use Prim.Native.Nat.{ℕ, ◌+◌, ◌*◌, ◌≤◌}
use mathlib.Core.Path.{◌≡◌, refl, sym, ◌∙◌}
use mathlib.Core.Bool.{Bool, true, false}
use mathlib.Core.List.{List, [], ◌∷◌, ◌++◌, append_assoc}
use native.Mathlib.Omega.{arith}
use native.Mathlib.Nat.{add-zero, zero-add}
use borrow.Author.Tests.{eqb-true, leb-true, leb-false}
use lib.Dec.{leb}
use lib.ListN.{length, length-append}
use lib.Seq.{sets}
use Rattle.utils.specs.Bytes.{pick}
use Rattle.utils.proofs.Runs.{sets_append}
use Rattle.parser.specs.Runs.{variables_cells}
use Rattle.body.specs.Body.{Item, label, plain, call, call_into, terminates, arguments_in}
use Rattle.body.specs.Body.{behind, labels_of, ret, lacks_ret, closed_from}
use Rattle.body.specs.Shapes.{shapes_of}
use Rattle.parser.specs.declared.Operation.{Operation}
use Rattle.body.specs.Records.{record_of, items_cells, arguments_cells, arguments_count}
use Rattle.body.specs.Room.{filled}
use Rattle.body.specs.Turns.{before_number, added, closing, before_next, last_next, Taken}
use Rattle.body.specs.declared.Going.{Going}
use Rattle.body.proofs.Lay.{length-items_cells, length-variables_cells, items_cells_append}

-- no argument in an added `ret`
pub added_cells_lem : (t : Bool) (last used : ℕ) → items_cells 0 (added t last) ≡ items_cells used (added t last)
unfolding items_cells record_of added pick
added_cells_lem true last used = refl
added_cells_lem false last used = refl

added-front : (t : Bool) (last : ℕ) (i : Item) (more : List Item)
    → pick t (ret last ∷ i ∷ more) (i ∷ more) ≡ (added t last ++ (i ∷ [])) ++ more
unfolding added pick
added-front true last i more = refl
added-front false last i more = refl

pub closed_cons : (void : Bool) (before last : ℕ) (i : Item) (is : List Item)
    → closed_from void before last (i ∷ is)
    ≡ closing void before last i ++ closed_from void (before_next i) (last_next last i) is
unfolding closed_from closing before_next last_next
closed_cons void before last (label w l) is =
    added-front (lacks_ret void before) last (label w l) (closed_from void 1 last is)
closed_cons void before last (plain o) is = refl
closed_cons void before last (call w g xs) is = refl
closed_cons void before last (call_into w v g xs) is = refl

added-count : (t : Bool) (last : ℕ) (is : List Item) → arguments_count is ≡ 0 → arguments_count (added t last ++ is) ≡ 0
unfolding arguments_count added pick
added-count true last is e = omega arith
added-count false last is e = e

pub closing-count : (void : Bool) (before last : ℕ) (i : Item)
    → arguments_count (closing void before last i) ≡ length (arguments_in i)
unfolding closing arguments_count
closing-count void before last (label w l) = added-count (lacks_ret void before) last (label w l ∷ []) refl
closing-count void before last (plain o) = refl
closing-count void before last (call w g xs) = add-zero (length xs)
closing-count void before last (call_into w v g xs) = add-zero (length xs)

labels_cons : (i : Item) (is : List Item) → labels_of (i ∷ is) ≡ labels_of (i ∷ []) ++ labels_of is
unfolding labels_of
labels_cons (label w l) is = refl
labels_cons (plain o) is = refl
labels_cons (call w g xs) is = refl
labels_cons (call_into w v g xs) is = refl

-- Blocks with an operation: one more where an operation stands behind a label or the brace. ---------------------------

abbrev pub fresh : ℕ → Bool
fresh before = leb before 1

unfoldable pub started : ℕ → Item → ℕ
started before (label w l) = 0
started before (plain o) = pick (fresh before) 1 0
started before (call w g xs) = pick (fresh before) 1 0
started before (call_into w v g xs) = pick (fresh before) 1 0

-- a `ret` is added only behind an operation
pub lacks_operation : (void : Bool) (before : ℕ) → lacks_ret void before ≡ true → before ≡ 2
unfolding lacks_ret pick
lacks_operation true before h = eqb-true before 2 h
lacks_operation false before h = absurd (cc)

added-filled : (t : Bool) (before last : ℕ) (is : List Item) → (t ≡ true → before ≡ 2)
    → filled (fresh before) (shapes_of (added t last ++ is)) ≡ filled (pick t false (fresh before)) (shapes_of is)
unfolding filled shapes_of added pick
added-filled true before last is h = let e = h refl in rw e (zero-add (filled false (shapes_of is)))
added-filled false before last is h = refl

behind-late : (t : Bool) → leb (pick t 3 2) 1 ≡ false
unfolding pick
behind-late true = refl
behind-late false = refl

late : (o : Operation) → fresh (behind (plain o)) ≡ false
unfolding behind
late o = behind-late (terminates o)

closing-filled : (void : Bool) (before last : ℕ) (i : Item) (is : List Item)
    → filled (fresh before) (shapes_of (closing void before last i ++ is))
    ≡ started before i + filled (fresh (before_next i)) (shapes_of is)
unfolding closing started before_next filled shapes_of
closing-filled void before last (label w l) is =
    rw (append_assoc (added (lacks_ret void before) last) (label w l ∷ []) is)
    (added-filled (lacks_ret void before) before last (label w l ∷ is) (lacks_operation void before)
    ∙ sym (zero-add (filled true (shapes_of is))))
closing-filled void before last (plain o) is = rw (late o)
closing-filled void before last (call w g xs) is = refl
closing-filled void before last (call_into w v g xs) is = refl

pub ending_filled : (void : Bool) (before last : ℕ)
    → filled (fresh before) (shapes_of (added (lacks_ret void before) last)) ≡ 0
unfolding filled shapes_of added pick
ending_filled void before last = ends (lacks_ret void before) (lacks_operation void before)
  where
    ends : (t : Bool) → (t ≡ true → before ≡ 2) → filled (fresh before) (shapes_of (added t last)) ≡ 0
    ends true h = let e = h refl in rw e
    ends false h = refl

-- One item. ---------------------------------------------------------------------------------------------------------

module _ {void : Bool} {i : Item} {s s' : Going} {items₀ items arguments₀ arguments : List ℕ}
    (t : Taken void i s s' items₀ items arguments₀ arguments) (is : List Item) where
  closed_on : closed_from void (before_number s.before) s.last (i ∷ is)
      ≡ closing void (before_number s.before) s.last i ++ closed_from void (before_number s'.before) s'.last is
  closed_on = rw (t.before_is, t.last_is) (closed_cons void (before_number s.before) s.last i is)

  pub items-on : sets items (s'.items * 8)
      (items_cells s'.arguments (closed_from void (before_number s'.before) s'.last is))
      ≡ sets items₀ (s.items * 8) (items_cells s.arguments (closed_from void (before_number s.before) s.last (i ∷ is)))
  items-on =
      let xs = closing void (before_number s.before) s.last i in
      let ys = closed_from void (before_number s'.before) s'.last is in
      let n : s'.items * 8 ≡ s.items * 8 + length (items_cells s.arguments xs) =
      omega (arith, t.items_next, length-items_cells s.arguments xs) in
      let u : s'.arguments ≡ s.arguments + arguments_count xs =
      omega (arith, t.arguments_next, closing-count void (before_number s.before) s.last i) in
      rw (closed_on, items_cells_append s.arguments xs ys, t.items_are, n, u)
      (sym (sets_append (items_cells s.arguments xs) (items_cells (s.arguments + arguments_count xs) ys) items₀
      (s.items * 8)))

  pub arguments-on : sets arguments (s'.arguments * 2) (arguments_cells is)
      ≡ sets arguments₀ (s.arguments * 2) (arguments_cells (i ∷ is))
  unfolding arguments_cells
  arguments-on =
      let n : s'.arguments * 2 ≡ s.arguments * 2 + length (variables_cells (arguments_in i)) =
      omega (arith, t.arguments_next, length-variables_cells (arguments_in i)) in
      rw (t.arguments_are, n)
      (sym (sets_append (variables_cells (arguments_in i)) (arguments_cells is) arguments₀ (s.arguments * 2)))

  pub items-count-on : s'.items + length (closed_from void (before_number s'.before) s'.last is)
      ≡ s.items + length (closed_from void (before_number s.before) s.last (i ∷ is))
  items-count-on =
      rw closed_on
      (omega (
        arith,
        t.items_next,
        length-append (closing void (before_number s.before) s.last i)
            (closed_from void (before_number s'.before) s'.last is),
      ))

  pub arguments_count-on : s'.arguments + arguments_count is ≡ s.arguments + arguments_count (i ∷ is)
  unfolding arguments_count
  arguments_count-on = omega (arith, t.arguments_next)

  pub blocks-on : started (before_number s.before) i + filled (fresh (before_number s'.before))
      (shapes_of (closed_from void (before_number s'.before) s'.last is))
      ≡ filled (fresh (before_number s.before)) (shapes_of (closed_from void (before_number s.before) s.last (i ∷ is)))
  blocks-on =
      rw (closed_on, t.before_is, t.last_is)
      (sym (closing-filled void (before_number s.before) s.last i (closed_from void (before_next i) (last_next s.last
      i) is)))

module _ (i : Item) (is : List Item) (n n' : ℕ) (next : n' ≡ n + length (labels_of (i ∷ []))) where
  pub labels-on : (labels labels' : List ℕ) → labels' ≡ sets labels n (labels_of (i ∷ []))
      → sets labels' n' (labels_of is) ≡ sets labels n (labels_of (i ∷ is))
  labels-on labels labels' e =
      rw (e, next, labels_cons i is) (sym (sets_append (labels_of (i ∷ [])) (labels_of is) labels n))

  pub labels-count-on : n' + length (labels_of is) ≡ n + length (labels_of (i ∷ is))
  labels-count-on = rw (labels_cons i is) (omega (arith, next, length-append (labels_of (i ∷ [])) (labels_of is)))

-- Bounds. -----------------------------------------------------------------------------------------------------------

added-few : (t : Bool) (last : ℕ) (l : Item) (before n sum at next more : ℕ) → (t ≡ true → before ≡ 2)
    → sum + n * 4 ≤ at * 3 + more → (before ≡ 2 → sum + n * 4 + 2 ≤ at * 3 + more) → at + 2 ≤ next
    → sum + (n + length (added t last ++ (l ∷ []))) * 4 ≤ next * 3 + more
unfolding added pick
added-few true last l before n sum at next more h a b p = omega (arith, b (h refl))
added-few false last l before n sum at next more h a b p = omega arith

pub ending_few : (t : Bool) (last before n sum at next more : ℕ) → (t ≡ true → before ≡ 2)
    → sum + n * 4 ≤ at * 3 + more → (before ≡ 2 → sum + n * 4 + 2 ≤ at * 3 + more) → at + 1 ≤ next
    → sum + (n + length (added t last)) * 4 ≤ next * 3 + more
unfolding added pick
ending_few true last before n sum at next more h a b p = omega (arith, b (h refl))
ending_few false last before n sum at next more h a b p = omega arith

-- three items for every four tokens, with two of twelve spared behind an operation for its `ret`
pub items-few-on : (void : Bool) (last : ℕ) (i : Item) (before n sum at next more : ℕ)
    → sum + n * 4 ≤ at * 3 + more → (before ≡ 2 → sum + n * 4 + 2 ≤ at * 3 + more) → at + 2 ≤ next
    → (sum + (n + length (closing void before last i)) * 4 ≤ next * 3 + more)
    × (before_next i ≡ 2 → sum + (n + length (closing void before last i)) * 4 + 2 ≤ next * 3 + more)
unfolding closing before_next
items-few-on void last (label w l) before n sum at next more a b p = (
  added-few (lacks_ret void before) last (label w l) before n sum at next more (lacks_operation void before) a b p,
  λ z. absurd (omega arith),
)
items-few-on void last (plain o) before n sum at next more a b p = (omega arith, λ z. omega arith)
items-few-on void last (call w g xs) before n sum at next more a b p = (omega arith, λ z. omega arith)
items-few-on void last (call_into w v g xs) before n sum at next more a b p = (omega arith, λ z. omega arith)

started_few : (t : Bool) (before n sum at next : ℕ) → (t ≡ true → before ≤ 1) → sum + n * 4 ≤ at + 2
    → (before ≤ 1 → sum + n * 4 ≤ at) → at + 2 ≤ next → sum + (n + pick t 1 0) * 4 ≤ next + 2
unfolding pick
started_few true before n sum at next h a b p = omega (arith, b (h refl))
started_few false before n sum at next h a b p = omega arith

-- a block for every four tokens, two of them spared behind an operation
pub blocks-few-on : (i : Item) (before n sum at next : ℕ) → sum + n * 4 ≤ at + 2 → (before ≤ 1 → sum + n * 4 ≤ at)
    → at + 2 ≤ next
    → (sum + (n + started before i) * 4 ≤ next + 2) × (before_next i ≤ 1 → sum + (n + started before i) * 4 ≤ next)
unfolding started before_next
blocks-few-on (label w l) before n sum at next a b p = (omega arith, λ z. omega arith)
blocks-few-on (plain o) before n sum at next a b p = (
  started_few (fresh before) before n sum at next (leb-true before 1) a b p,
  λ z. absurd (omega (arith, leb-false (behind (plain o)) 1 (late o))),
)
blocks-few-on (call w g xs) before n sum at next a b p =
    (started_few (fresh before) before n sum at next (leb-true before 1) a b p, λ z. absurd (omega arith))
blocks-few-on (call_into w v g xs) before n sum at next a b p =
    (started_few (fresh before) before n sum at next (leb-true before 1) a b p, λ z. absurd (omega arith))
