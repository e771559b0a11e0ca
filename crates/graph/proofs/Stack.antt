-- Why a stack may stand in the place of recursion. `resume` is what comes of the things still to do. To walk from a new
-- block is to meet it, walk from its successors and leave it; so the entry that says to walk from it may be replaced by
-- one that says to leave it, with its successors above.
use Prim.Native.Nat.{ℕ, zero, suc, ◌+◌, ◌-◌, ◌≤◌, ◌<◌}
use mathlib.Core.Path.{◌≡◌, refl, sym, ap, ◌∙◌, subst}
use mathlib.Core.Bool.{Bool, true, false}
use mathlib.Core.List.{List, [], ◌∷◌, ◌++◌, append-nil}
use native.Mathlib.Omega.{arith}
use native.Mathlib.Decide.{ℕ_discrete}
use native.Mathlib.Numerals.{add-one}
use borrow.Author.Tests.{lt-ltb, le-ltb, ltb-true, ltb-false}
use lib.Dec.{ltb}
use lib.ListN.{length, get_or, set, length-set, length-append}
use lib.Seq.{get_or-set_same, get_or-set_other, append_snoc}
use Rattle.utils.specs.Bytes.{pick}
use Rattle.graph.specs.Walk.{Walk, leave, last_first, walk_from}
use Rattle.graph.specs.Frames.{Stack, stack, push_one, push_all, frame, resume, marks}
use Rattle.graph.proofs.Steps.{absent_old, walk_again}
use Rattle.graph.proofs.Counts.{walk_kept}

-- Entries. ----------------------------------------------------------------------------------------------------------

module _ (g : ℕ → List ℕ) (n : ℕ) where
  pub frame-low : (e : ℕ) (s : Walk) → e < 256 → frame g n e s ≡ walk_from g n e s
  unfolding pick
  frame-low e s h = rw (lt-ltb e 256 h)

  pub frame_high : (e : ℕ) (s : Walk) → 256 ≤ e → frame g n e s ≡ leave (e - 256) s
  unfolding pick
  frame_high e s h = rw (le-ltb e 256 h)

  frame_mark : (e : ℕ) (s : Walk) → frame g n (e + 256) s ≡ leave e s
  frame_mark e s =
      let p : e + 256 - 256 ≡ e = omega arith in
      frame_high (e + 256) s (omega arith) ∙ ap (λ (x : ℕ). leave x s) p

  -- what is stored above is not seen
  resume_above : (entries : List ℕ) (i x t : ℕ) (s : Walk) → t ≤ i
      → resume g n (set entries i x) t s ≡ resume g n entries t s
  resume_above entries i x zero s h = refl
  resume_above entries i x (suc t) s h =
      let f : t ≡ i → ⊥ = λ e. omega arith in
      rw (get_or-set_other entries i t x 0 f) (resume_above entries i x t (frame g n (get_or entries t 0) s) (omega arith))

  -- an entry is stored on top
  resume_push : (entries : List ℕ) (i x : ℕ) (s : Walk) → i < length entries
      → resume g n (set entries i x) (suc i) s ≡ resume g n entries i (frame g n x s)
  resume_push entries i x s h =
      rw (get_or-set_same entries i x 0 h) (resume_above entries i x i (frame g n x s) (omega arith))

  -- the entry on top
  pub resume-top : (entries : List ℕ) (top : ℕ) (s : Walk) → 0 < top
      → resume g n entries top s ≡ resume g n entries (top - 1) (frame g n (get_or entries (top - 1) 0) s)
  resume-top entries zero s h = absurd (omega arith)
  resume-top entries (suc t) s h =
      let p : suc t - 1 ≡ t = omega arith in
      rw p

marks_above : (entries : List ℕ) (i x t : ℕ) → t ≤ i → marks (set entries i x) t ≡ marks entries t
marks_above entries i x zero h = refl
marks_above entries i x (suc t) h =
    let f : t ≡ i → ⊥ = λ e. omega arith in
    rw (get_or-set_other entries i t x 0 f, marks_above entries i x t (omega arith)) refl

marks_push : (entries : List ℕ) (i x : ℕ) → i < length entries
    → marks (set entries i x) (suc i) ≡ pick (ltb x 256) 0 1 + marks entries i
marks_push entries i x h = rw (get_or-set_same entries i x 0 h, marks_above entries i x i (omega arith)) refl

pub marks-top : (entries : List ℕ) (top : ℕ) → 0 < top
    → marks entries top ≡ pick (ltb (get_or entries (top - 1) 0) 256) 0 1 + marks entries (top - 1)
marks-top entries zero h = absurd (omega arith)
marks-top entries (suc t) h =
    let p : suc t - 1 ≡ t = omega arith in
    rw p

-- What holds of each entry holds once one more is stored of which it holds.
entries_push : (P : ℕ → Type 0) (entries : List ℕ) (i x : ℕ) → i < length entries → P x
    → ((k : ℕ) → k < i → P (get_or entries k 0)) → (k : ℕ) → k < suc i → P (get_or (set entries i x) k 0)
entries_push P entries i x h b p k l = go (ℕ_discrete k i)
  where
    go : Dec (k ≡ i) → P (get_or (set entries i x) k 0)
    go (yes e) = rw (e, get_or-set_same entries i x 0 h) b
    go (no f) = rw (get_or-set_other entries i k x 0 f) (p k (omega (arith, f)))

-- In the place of the entry on top. ---------------------------------------------------------------------------------

each_snoc : (from : ℕ → Walk → Walk) (vs : List ℕ) (a : ℕ) (s : Walk)
    → last_first from (vs ++ (a ∷ [])) s ≡ last_first from vs (from a s)
each_snoc from [] a s = refl
each_snoc from (v ∷ vs) a s = ap (from v) (each_snoc from vs a s)

-- The stack p: as the entries are below the top one, and in its place to leave e, and above it to walk from each of vs
-- that is there.
pub record Pushed (g : ℕ → List ℕ) (n : ℕ) (entries : List ℕ) (top e : ℕ) (vs : List ℕ) (p : Stack) : Type 0 where
  pub deep : length p.entries ≡ length entries
  pub up : p.top ≤ top + length vs
  pub small : (k : ℕ) → k < p.top → get_or p.entries k 0 < 512
  pub blocks : (k : ℕ) → k < p.top → get_or p.entries k 0 < 256 → get_or p.entries k 0 < n
  pub marked : marks p.entries p.top ≡ 1 + marks entries (top - 1)
  pub resumed : (s : Walk) → length s.met ≤ n
      → resume g n p.entries p.top s ≡ resume g n entries (top - 1) (leave e (last_first (walk_from g n) vs s))

module _ (g : ℕ → List ℕ) (n : ℕ) (entries : List ℕ) where
  abbrev Small : ℕ → Type 0
  Small top = (k : ℕ) → k < top → get_or entries k 0 < 512

  abbrev Blocks : ℕ → Type 0
  Blocks top = (k : ℕ) → k < top → get_or entries k 0 < 256 → get_or entries k 0 < n

  push_mark : (t e : ℕ) → t < length entries → e < 256 → Small (suc t) → Blocks (suc t)
      → Pushed g n entries (suc t) e [] (stack (set entries t (e + 256)) (suc t))
  unfolding pick
  push_mark t e h b p q =
      let z : suc t - 1 ≡ t = omega arith in
      record {
        deep = length-set entries t (e + 256);
        up = omega arith;
        small = entries_push (λ (x : ℕ). x < 512) entries t (e + 256) h (omega arith) (λ k l. p k (omega arith));
        blocks =
            entries_push (λ (x : ℕ). x < 256 → x < n) entries t (e + 256) h (λ l. omega arith)
            (λ k l. q k (omega arith));
        marked = rw z (marks_push entries t (e + 256) h ∙ rw (le-ltb (e + 256) 256 (omega arith)) refl);
        resumed =
            λ s l. rw z (resume_push g n entries t (e + 256) s h ∙ ap (resume g n entries t) (frame_mark g n e s));
      }

  pub pushed_none : (top e : ℕ) → 0 < top → top ≤ length entries → e < 256 → Small top → Blocks top
      → Pushed g n entries top e [] (stack (set entries (top - 1) (e + 256)) top)
  pushed_none zero e h l b p q = absurd (omega arith)
  pushed_none (suc t) e h l b p q =
      let z : suc t - 1 ≡ t = omega arith in
      subst (λ (k : ℕ). Pushed g n entries (suc t) e [] (stack (set entries k (e + 256)) (suc t))) (sym z)
      (push_mark t e (omega arith) b p q)

module _ (g : ℕ → List ℕ) (n : ℕ) (entries : List ℕ) (top e : ℕ) (few : n ≤ 256) where
  module _ (a : ℕ) (vs : List ℕ) (p : Stack) (q : Pushed g n entries top e vs p) where
    push_block : p.top < length entries → a < n
        → Pushed g n entries top e (vs ++ (a ∷ [])) (stack (set p.entries p.top a) (p.top + 1))
    unfolding pick
    push_block h b =
        let h' : p.top < length p.entries = omega (arith, q.deep) in
        rw (add-one p.top)
        (record {
          deep = length-set p.entries p.top a ∙ q.deep;
          up = omega (arith, q.up, length-append vs (a ∷ []));
          small = entries_push (λ (x : ℕ). x < 512) p.entries p.top a h' (omega arith) q.small;
          blocks = entries_push (λ (x : ℕ). x < 256 → x < n) p.entries p.top a h' (λ l. b) q.blocks;
          marked = marks_push p.entries p.top a h' ∙ rw (lt-ltb a 256 (omega arith)) (omega (arith, q.marked));
          resumed =
              λ s l. resume_push g n p.entries p.top a s h'
              ∙ ap (resume g n p.entries p.top) (frame-low g n a s (omega arith))
              ∙ q.resumed (walk_from g n a s) (omega (arith, (walk_kept g n a s).long))
              ∙ ap (λ (w : Walk). resume g n entries (top - 1) (leave e w)) (sym (each_snoc (walk_from g n) vs a s));
        })

    push_absent : n ≤ a → Pushed g n entries top e (vs ++ (a ∷ [])) p
    push_absent b =
        record {
          deep = q.deep;
          up = omega (arith, q.up, length-append vs (a ∷ []));
          small = q.small;
          blocks = q.blocks;
          marked = q.marked;
          resumed =
              λ s l. q.resumed s l
              ∙ ap (λ (w : Walk). resume g n entries (top - 1) (leave e (last_first (walk_from g n) vs w)))
              (sym (walk_again g n a s (absent_old a s (omega arith))))
              ∙ ap (λ (w : Walk). resume g n entries (top - 1) (leave e w)) (sym (each_snoc (walk_from g n) vs a s));
        }

    pushed-one : p.top < length entries → Pushed g n entries top e (vs ++ (a ∷ [])) (push_one n a p)
    unfolding push_one pick
    pushed-one h = by (ltb a n) refl
      where
        by : (b : Bool) → ltb a n ≡ b
            → Pushed g n entries top e (vs ++ (a ∷ [])) (pick b (stack (set p.entries p.top a) (p.top + 1)) p)
        by true t = push_block h (ltb-true a n t)
        by false t = push_absent (ltb-false a n t)

  -- blocks are pushed one after the other
  pub pushed-all : (ws vs : List ℕ) (p : Stack) → Pushed g n entries top e vs p
      → top + length vs + length ws ≤ length entries → Pushed g n entries top e (vs ++ ws) (push_all n ws p)
  pushed-all [] vs p q h = rw append-nil q
  pushed-all (w ∷ ws) vs p q h =
      let l = length-append vs (w ∷ []) in
      let one = pushed-one w vs p q (omega (arith, q.up)) in
      let r = pushed-all ws (vs ++ (w ∷ [])) (push_one n w p) one (omega arith) in
      rw append_snoc at r
