-- Runs one behind the other: what the code makes of a run's numbers, and what is left at the file's end.
use Rattle.std.proofs.Common.{◌≡◌, ℕ, zero, suc, ◌+◌, ◌-◌, ◌*◌, ◌<◌, ◌≤◌, Bool, true, false, eqb, ltb, leb, cond, List, [], ◌∷◌, ◌++◌, length, take, drop, sym, refl, ap, ◌∙◌, append-nil, add-one, arith, length-append, length-drop, length-take-le, take_at, ltb-false, ltb-true, le-ltb, lt-ltb, eq-eqb, ne_eqb, eqb-true, le-leb, leb-true}
use borrow.Author.Tests.{lt-leb, eqb-false}
use lib.Seq.{sets, sets-eq, drop-length}
use Rattle.utils.proofs.Runs.{sets_append}
use Rattle.replay.specs.Numbers.{number, to_digit, digits_of, number_at}
use Rattle.replay.specs.Lists.{
  Values,
  values,
  values_at,
  stepped,
  repeated,
  behind_quote,
  run_at,
  fitting,
  runs_at,
  list_at,
  Stored,
  low_bytes,
  text_at,
}
use Rattle.replay.specs.declared.Number.{Number}
use Rattle.replay.specs.declared.Loaded.{Loaded}
use Rattle.replay.specs.declared.lists.Kind.{Kind}
use Rattle.replay.specs.declared.lists.Kind.TheVariants.{Numbers, Bytes}
use Rattle.replay.proofs.Rows.{values-none, values_length, stepped-length, repeated-more, repeated-length, sets-behind}

repeated_empty : (n : ℕ) → repeated n [] [] ≡ []
unfolding repeated stepped
repeated_empty zero = refl
repeated_empty (suc n) = repeated_empty n

-- a run as the code makes it: the values, and the rows that repeat them
module _ (kind : Kind) (s : List ℕ) (from : ℕ) where
  abbrev times : Number
  times = number_at s from

  abbrev width : Number
  width = number_at s times.next

  abbrev once : Values
  once = values_at kind s width.value (behind_quote kind s width.next)

  abbrev steps : Values
  steps = values_at Numbers s width.value once.next

  abbrev more : ℕ
  more = cond (eqb width.value 0) 0 (times.value - 1)

  abbrev made : Values
  made =
      values (once.cells ++ repeated more (stepped once.cells steps.cells) steps.cells)
      (cond (ltb 0 more) steps.next once.next)

  run_empty : width.value ≡ 0 → run_at kind s from ≡ made
  unfolding run_at repeated
  run_empty w =
      let o : once ≡ values [] (behind_quote kind s width.next) = values-none kind s width.value _ w in
      let d : steps ≡ values [] once.next = values-none Numbers s width.value _ w in
      by (ltb 1 times.value) o d
    where
      by : (t : Bool) → once ≡ values [] (behind_quote kind s width.next) → steps ≡ values [] once.next
          → cond t (values (repeated times.value once.cells steps.cells) steps.next) once ≡ made
      by true o d = rw (d, o, repeated_empty times.value, eq-eqb width.value 0 w)
      by false o d = rw (d, o, eq-eqb width.value 0 w)

  run-once : (width.value ≡ 0 → ⊥) → times.value ≤ 1 → run_at kind s from ≡ made
  unfolding run_at repeated
  run-once w t =
      let z : times.value - 1 ≡ 0 = omega arith in
      rw (le-ltb 1 times.value t, ne_eqb _ _ w, z, append-nil)

  run_often : (width.value ≡ 0 → ⊥) → 1 < times.value → run_at kind s from ≡ made
  unfolding run_at
  run_often w t =
      rw (
        lt-ltb 1 times.value t,
        ne_eqb _ _ w,
        lt-ltb 0 (times.value - 1) (omega arith),
        repeated-more times.value (times.value - 1) once.cells steps.cells (omega arith),
      )

  run_made : run_at kind s from ≡ made
  run_made = by (eqb width.value 0) refl (ltb 1 times.value) refl
    where
      by : (e : Bool) → eqb width.value 0 ≡ e → (t : Bool) → ltb 1 times.value ≡ t → run_at kind s from ≡ made
      by true e t f = run_empty (eqb-true _ _ e)
      by false e true f = run_often (eqb-false _ _ e) (ltb-true _ _ f)
      by false e false f = run-once (eqb-false _ _ e) (ltb-false _ _ f)

  made_length : length made.cells ≡ width.value + more * width.value
  made_length =
      let w = width.value in
      let o : length once.cells ≡ w = values_length kind s w _ in
      let d : length steps.cells ≡ w = values_length Numbers s w _ in
      let l : length (stepped once.cells steps.cells) ≡ w = stepped-length _ _ (o ∙ sym d) ∙ o in
      let m : length (repeated more (stepped once.cells steps.cells) steps.cells) ≡ more * w =
      repeated-length more _ _ (l ∙ sym d) ∙ ap (λ (k : ℕ). more * k) l in
      length-append once.cells _ ∙ rw (o, m)

-- a run from what the calls of `load_run` answer
module _ (kind : Kind) (s b : List ℕ) (from : ℕ) (t w : Number) (m : ℕ) (times-are : t ≡ number_at s from)
    (width_is : w ≡ number_at s t.next) (more-are : m ≡ cond (eqb w.value 0) 0 (t.value - 1)) where
  run_length : length (run_at kind s from).cells ≡ w.value + m * w.value
  run_length = rw (more-are, width_is, times-are, run_made kind s from) (made_length kind s from)

  pub without_room : (r : Loaded) → leb (w.value + m * w.value) (length b) ≡ false → r.count ≡ 0
      → r.next ≡ length s
      → Stored (fitting (length b) (length s) (run_at kind s from)) b r b
  unfolding fitting
  without_room r h p q = rw (run_length, h) record { count = p; next = q; cells = refl }

  module _ (at n k : ℕ) (vs b₂ : List ℕ) (r : Loaded) (values-begin : at ≡ behind_quote kind s w.next)
      (as_many : k ≡ w.value) (values-end : n ≡ (values_at kind s k at).next) where
    abbrev once_at : Values
    once_at = values_at kind s w.value at

    abbrev steps_at : Values
    steps_at = values_at Numbers s w.value n

    run_is : run_at kind s from
        ≡ values (once_at.cells ++ repeated m (stepped once_at.cells steps_at.cells) steps_at.cells)
        (cond (ltb 0 m) steps_at.next n)
    run_is = rw (values-end, as_many, values-begin, more-are, width_is, times-are) (run_made kind s from)

    pub with_room : leb (w.value + m * w.value) (length b) ≡ true
        → vs ≡ (values_at kind s k at).cells
        → r.count ≡ w.value + m * w.value
        → r.next ≡ cond (ltb 0 m) steps_at.next n
        → b₂
        ≡ sets (vs ++ drop w.value b) w.value
        (repeated m (stepped (take w.value (vs ++ drop w.value b)) steps_at.cells) steps_at.cells)
        → Stored (fitting (length b) (length s) (run_at kind s from)) b r b₂
    unfolding fitting
    with_room h first count next last =
        let same : vs ≡ once_at.cells = first ∙ ap (λ (j : ℕ). (values_at kind s j at).cells) as_many in
        let l : length vs ≡ w.value = ap length same ∙ values_length kind s w.value at in
        let fits : w.value + m * w.value ≤ length b = leb-true _ _ h in
        let z : 0 + length vs ≡ w.value = omega arith in
        let front : sets b 0 vs ≡ vs ++ drop w.value b = sets-eq vs b 0 (omega arith) ∙ rw z refl in
        let more-cells = repeated m (stepped vs steps_at.cells) steps_at.cells in
        let stands : take w.value (vs ++ drop w.value b) ≡ vs = take_at vs _ w.value l in
        let seam : sets b 0 (vs ++ more-cells) ≡ sets (vs ++ drop w.value b) w.value more-cells =
        sets_append vs more-cells b 0 ∙ rw (front, z) refl in
        let all : b₂ ≡ sets b 0 (vs ++ more-cells) = last ∙ rw stands (sym seam) in
        rw (run_length, h) record {
          count = count ∙ sym run_length;
          next = next ∙ rw run_is refl;
          cells = all ∙ rw (run_is, ← same) refl;
        }

-- at the file's end there is nothing
number-end : (s : List ℕ) → number_at s (length s) ≡ number 0 (length s)
unfolding number_at to_digit digits_of
number-end s =
    let z : length s - 0 + 0 ≡ length s = omega arith in
    rw (drop-length s, z, eq-eqb (length s) (length s) refl)

run_end : (kind : Kind) (s : List ℕ) → run_at kind s (length s) ≡ values [] (length s)
unfolding run_at values_at
run_end Numbers s = rw (number-end, number-end) refl
run_end Bytes s = rw (number-end, number-end) (ap (λ (k : ℕ). values [] k) (omega arith))

pub runs_end : (kind : Kind) (s : List ℕ) (room n : ℕ) → runs_at kind s room n (length s) ≡ values [] (length s)
unfolding runs_at fitting
runs_end kind s room zero = refl
runs_end kind s room (suc n) =
    let none : leb 0 room ≡ true = le-leb 0 room (omega arith) in
    let more = runs_end kind s (room - 0) n in
    rw (run_end kind s, none, more)

pub fitting-le : (room end : ℕ) (run : Values) → length (fitting room end run).cells ≤ room
unfolding fitting
fitting-le room end run = by (leb (length run.cells) room) refl
  where
    by : (t : Bool) → leb (length run.cells) room ≡ t → length (cond t run (values [] end)).cells ≤ room
    by true e = leb-true _ _ e
    by false e = omega arith

-- one run more
pub runs_more : (kind : Kind) (s : List ℕ) (room n m at : ℕ) → n ≡ m + 1
    → runs_at kind s room n at
    ≡ values
    ((fitting room (length s) (run_at kind s at)).cells
    ++ (runs_at kind s (room - length (fitting room (length s) (run_at kind s at)).cells) m
    (fitting room (length s) (run_at kind s at)).next).cells)
    (runs_at kind s (room - length (fitting room (length s) (run_at kind s at)).cells) m
    (fitting room (length s) (run_at kind s at)).next).next
unfolding runs_at
runs_more kind s room n m at h = rw (h, add-one m)

-- what is left to do of a list where so many runs are left, from a place on, behind so many cells
pub record Left (kind : Kind) (s : List ℕ) (from : ℕ) (before cells : List ℕ) (left at count : ℕ) : Type 0 where
  pub within : count ≤ length before
  pub next : (runs_at kind s (length before - count) left at).next ≡ (list_at kind s (length before) from).next
  pub number : count + length (runs_at kind s (length before - count) left at).cells
      ≡ length (list_at kind s (length before) from).cells
  pub stored : sets cells count (runs_at kind s (length before - count) left at).cells
      ≡ sets before 0 (list_at kind s (length before) from).cells

module _ (kind : Kind) (s : List ℕ) (from : ℕ) (before : List ℕ) where
  pub all_left : (t : Number) (left : ℕ) → t ≡ number_at s from → left ≡ t.value
      → Left kind s from before before left t.next 0
  unfolding list_at
  all_left t left e h =
      let z : length before - 0 ≡ length before = omega arith in
      record {
        within = omega arith;
        next = rw (h, z, e);
        number = rw (h, z, e) (omega arith);
        stored = rw (h, z, e);
      }

  module _ (cells : List ℕ) (left at count : ℕ) (known : Left kind s from before cells left at count) where
    done : runs_at kind s (length before - count) left at ≡ values [] at
        → Stored (list_at kind s (length before) from) before (record { count = count; next = at }) cells
    done e =
        let n : count + 0 ≡ length (list_at kind s (length before) from).cells = rw e at known.number in
        record {
          count = omega arith;
          next = rw e at known.next;
          cells = rw e at known.stored;
        }

    pub none_left : left ≡ 0
        → Stored (list_at kind s (length before) from) before (record { count = count; next = at }) cells
    unfolding runs_at
    none_left h = done (rw h)

    pub at_end : at ≡ length s
        → Stored (list_at kind s (length before) from) before (record { count = count; next = at }) cells
    at_end e = done (rw e (runs_end kind s (length before - count) left))

    pub one_less : (m : ℕ) (part part' cells' : List ℕ) (r : Loaded) → left ≡ m + 1 → length cells ≡ length before
        → part ≡ drop count cells
        → cells' ≡ take count cells ++ part'
        → Stored (fitting (length part) (length s) (run_at kind s at)) part r part'
        → Left kind s from before cells' m r.next (count + r.count)
    one_less m part part' cells' r h size part-is cells-are stored =
        let most = length before - count in
        let run = fitting most (length s) (run_at kind s at) in
        let fits : length run.cells ≤ most = fitting-le most (length s) (run_at kind s at) in
        let l : length part ≡ most = ap length part-is ∙ (length-drop count cells ∙ ap (λ (k : ℕ). k - count) size) in
        let new : Stored run part r part' = rw l at stored in
        let after : cells' ≡ sets cells count run.cells =
        cells-are
        ∙ (ap (λ (p : List ℕ). take count cells ++ p) new.cells ∙ rw part-is (sets-behind cells run.cells count)) in
        let place : count + r.count ≡ count + length run.cells = ap (λ (k : ℕ). count + k) new.count in
        let room : length before - (count + r.count) ≡ most - length run.cells = omega (arith, new.count) in
        let rest = runs_at kind s (length before - (count + r.count)) m r.next in
        let split : runs_at kind s most left at ≡ values (run.cells ++ rest.cells) rest.next =
        runs_more kind s most left m at h ∙ rw (room, new.next) in
        let n : count + length (run.cells ++ rest.cells) ≡ length (list_at kind s (length before) from).cells =
        rw split at known.number in
        let c : sets cells count (run.cells ++ rest.cells) ≡ sets before 0 (list_at kind s (length before) from).cells =
        rw split at known.stored in
        record {
          within = omega (arith, new.count, known.within);
          next = rw split at known.next;
          number = omega (arith, new.count, length-append run.cells rest.cells);
          stored =
              ap (λ (k : ℕ). sets cells' k rest.cells) place
              ∙ rw after (sym (sets_append run.cells rest.cells cells count) ∙ c);
        }

-- a part of a slice with so many cells has so many
pub count_lent : (n m : ℕ) (after : List ℕ) → n ≤ m → length after ≡ m → n ≡ length (take n after)
count_lent n m after h l = sym (length-take-le n after (omega arith))

-- a list that is stored stands first
pub stored-first : (list : Values) (before after : List ℕ) (r : Loaded) → Stored list before r after
    → r.count ≤ length before
    → take r.count after ≡ list.cells
stored-first list before after r stored h =
    let l : length list.cells ≡ r.count = omega (arith, stored.count) in
    let k : 0 + length list.cells ≤ length before = omega arith in
    rw (stored.cells, sets-eq list.cells before 0 k)
    (take_at list.cells (drop (0 + length list.cells) before) r.count l)

low-length : (l : List ℕ) → length (low_bytes l) ≡ length l
unfolding low_bytes
low-length [] = refl
low-length (x ∷ xs) = ap suc (low-length xs)

-- a text from the list that was loaded for it
module _ (s before text : List ℕ) (room from : ℕ) (list : Loaded) (after : List ℕ)
    (stored : Stored (list_at Bytes s room from) before list after) where
  pub text_too_long : (r : Loaded) → length text < list.count → r.count ≡ 0 → r.next ≡ length s
      → Stored (text_at s room (length text) from) text r text
  unfolding text_at fitting low_bytes
  text_too_long r h p q =
      let l : length text < length (list_at Bytes s room from).cells = omega (arith, stored.count) in
      rw (lt-leb _ _ l) record { count = p; next = q; cells = refl }

  pub text-fits : (text' : List ℕ) → list.count ≤ length text
      → text' ≡ sets text 0 (low_bytes (list_at Bytes s room from).cells)
      → Stored (text_at s room (length text) from) text list text'
  unfolding text_at fitting
  text-fits text' h e =
      let l : length (list_at Bytes s room from).cells ≤ length text = omega (arith, stored.count) in
      rw (le-leb _ _ l) record {
        count = omega (arith, stored.count, low-length (list_at Bytes s room from).cells);
        next = stored.next;
        cells = e;
      }
