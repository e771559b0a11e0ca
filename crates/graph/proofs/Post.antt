-- Where every block is met, the order is the reverse post-order. The walk follows the rules of `Post` step by step: it
-- goes into the blocks that are there and not met before, and each block that it leaves goes in front, where the
-- post-order has it at the end. The rules leave no choice, so there is one post-order.
use Prim.Native.Nat.{ℕ, zero, suc, ◌+◌, ◌≤◌, ◌<◌}
use mathlib.Core.Path.{◌≡◌, refl, sym, ap, ◌∙◌, subst}
use mathlib.Core.Logic.{⊎_elim, ◌⊎◌, inl, inr}
use mathlib.Core.Bool.{Bool, true, false, true≢false}
use mathlib.Core.List.{List, [], ◌∷◌, ◌++◌, append-nil, append_assoc, reverse, reverse-append}
use native.Mathlib.Omega.{arith}
use native.Mathlib.Decide.{dec_lt}
use lib.ListN.{length, get_or, length-replicate}
use Rattle.utils.specs.Bytes.{pick}
use Rattle.graph.specs.Walk.{Walk, fresh, is_new, meet, leave, last_first, walk_from, walked}
use Rattle.graph.specs.Walk.{met_blocks, Met, never_met, block_order}
use Rattle.graph.specs.Reach.{In, front, later, Post, done, pass, into, PostOrder}
use Rattle.graph.specs.Frames.{waiting}
use Rattle.graph.proofs.Steps.{new, meet_self, meet_old, old_meet, fresh-new, walk_again, walk_on}
use Rattle.graph.proofs.Counts.{waiting-set, waiting-fresh, each-kept, walked-long}

-- The blocks still new are those that are there and were not seen.
record Sees (n : ℕ) (seen : List ℕ) (s : Walk) : Type 0 where
  new_there : (k : ℕ) → is_new k s ≡ true → k < n
  new_unseen : (k : ℕ) → is_new k s ≡ true → In k seen → ⊥
  old_seen : (k : ℕ) → is_new k s ≡ false → (n ≤ k) ⊎ In k seen

sees_fresh : (n : ℕ) → Sees n [] (fresh n)
sees_fresh n =
    record {
      new_there = λ k e. rw (length-replicate {A = ℕ} n 0) at (new k (fresh n) e).there;
      new_unseen = λ k e i. elim i [ ];
      old_seen = λ k e. by k e (dec_lt k n);
    }
  where
    by : (k : ℕ) → is_new k (fresh n) ≡ false → Dec (k < n) → (n ≤ k) ⊎ In k []
    by k e (yes h) = absurd (true≢false (sym (fresh-new n k h) ∙ e))
    by k e (no f) = inl (omega arith)

in_cons : (k v : ℕ) (vs : List ℕ) → In k (v ∷ vs) → (k ≡ v) ⊎ In k vs
in_cons k v vs (front) = inl refl
in_cons k v vs (later i) = inr i

in_front : (k v : ℕ) (vs : List ℕ) → k ≡ v → In k (v ∷ vs)
in_front k v vs e = rw e front

sees_meet : (n v : ℕ) (seen : List ℕ) (s : Walk) → Sees n seen s → Sees n (v ∷ seen) (meet v s)
sees_meet n v seen s o =
    record {
      new_there = λ k e. o.new_there k (still k e);
      new_unseen =
          λ k e i. ⊎_elim (λ q. true≢false (sym e ∙ rw q (meet_self v s))) (λ j. o.new_unseen k (still k e) j)
          (in_cons k v seen i);
      old_seen =
          λ k e. ⊎_elim (λ q. inr (in_front k v seen q))
          (λ q. ⊎_elim (λ a. inl a) (λ a. inr (later a)) (o.old_seen k q)) (old_meet v k s e);
    }
  where
    by : (k : ℕ) → is_new k (meet v s) ≡ true → (b : Bool) → is_new k s ≡ b → is_new k s ≡ true
    by k e true q = q
    by k e false q = absurd (true≢false (sym e ∙ meet_old v k s q))

    still : (k : ℕ) → is_new k (meet v s) ≡ true → is_new k s ≡ true
    still k e = by k e (is_new k s) refl

sees_leave : (n v : ℕ) (seen : List ℕ) (s : Walk) → Sees n seen s → Sees n seen (leave v s)
sees_leave n v seen s o = record { new_there = o.new_there; new_unseen = o.new_unseen; old_seen = o.old_seen }

module _ (g : ℕ → List ℕ) (n : ℕ) where
  -- A walk from s to t, and the rules' walk to the blocks vs.
  record Follows (vs seen : List ℕ) (s t : Walk) : Type 0 where
    out : List ℕ
    seen' : List ℕ
    rules : Post g n vs seen out seen'
    sees : Sees n seen' t
    left : t.left ≡ reverse out ++ s.left

  abbrev Followed : ℕ → Type 0
  Followed d = (vs : List ℕ) (seen : List ℕ) (s : Walk) → Sees n seen s → waiting s.met ≤ d
      → Follows vs seen s (last_first (walk_from g d) vs s)

  follow_old : (d v : ℕ) (vs seen : List ℕ) (s t : Walk) → Follows vs seen s t → is_new v t ≡ false
      → Follows (v ∷ vs) seen s (walk_from g d v t)
  follow_old d v vs seen s t f e =
      rw (walk_again g d v t e)
      (record {
        out = f.out;
        seen' = f.seen';
        rules = pass f.rules (f.sees.old_seen v e);
        sees = f.sees;
        left = f.left;
      })

  follow_new : (v : ℕ) (vs seen : List ℕ) (s t u : Walk) → (f : Follows vs seen s t) → is_new v t ≡ true
      → Follows (g v) (v ∷ f.seen') (meet v t) u → Follows (v ∷ vs) seen s (leave v u)
  follow_new v vs seen s t u f e i =
      record {
        out = f.out ++ (i.out ++ (v ∷ []));
        seen' = i.seen';
        rules = into f.rules (f.sees.new_there v e) (f.sees.new_unseen v e) i.rules;
        sees = sees_leave n v i.seen' u i.sees;
        left = rw (i.left, f.left) (simp (reverse-append, append_assoc));
      }

  abbrev Goes : ℕ → Type 0
  Goes d = (v : ℕ) (vs seen : List ℕ) (s t : Walk) → Follows vs seen s t → waiting t.met ≤ d
      → Follows (v ∷ vs) seen s (walk_from g d v t)

  followed : (d : ℕ) → Goes d → Followed d
  followed d p [] seen s o h = record { out = []; seen' = seen; rules = done; sees = o; left = refl }
  followed d p (v ∷ vs) seen s o h =
      p v vs seen s (last_first (walk_from g d) vs s) (followed d p vs seen s o h)
      (omega (arith, (each-kept g d vs s).fewer))

  step_goes : (d : ℕ) → Goes d → (v : ℕ) (vs seen : List ℕ) (s t : Walk) → Follows vs seen s t
      → waiting t.met ≤ suc d → (b : Bool) → is_new v t ≡ b → Follows (v ∷ vs) seen s (walk_from g (suc d) v t)
  step_goes d p v vs seen s t f h true e =
      rw (walk_on g d v t e)
      (follow_new v vs seen s t (last_first (walk_from g d) (g v) (meet v t)) f e
      (followed d p (g v) (v ∷ f.seen') (meet v t) (sees_meet n v f.seen' t f.sees)
      (omega (arith, waiting-set t.met v (new v t e)))))
  step_goes d p v vs seen s t f h false e = follow_old (suc d) v vs seen s t f e

  none-goes : (v : ℕ) (vs seen : List ℕ) (s t : Walk) → Follows vs seen s t → waiting t.met ≤ 0
      → (b : Bool) → is_new v t ≡ b → Follows (v ∷ vs) seen s (walk_from g 0 v t)
  none-goes v vs seen s t f h true e = absurd (omega (arith, waiting-set t.met v (new v t e)))
  none-goes v vs seen s t f h false e = follow_old 0 v vs seen s t f e

  goes : (d : ℕ) → Goes d
  goes zero v vs seen s t f h = none-goes v vs seen s t f h (is_new v t) refl
  goes (suc d) v vs seen s t f h = step_goes d (goes d) v vs seen s t f h (is_new v t) refl

  -- What the walk leaves is the reverse of a post-order.
  walked_follows : Follows (0 ∷ []) [] (fresh n) (walked g n)
  unfolding walked
  walked_follows = followed n (goes n) (0 ∷ []) [] (fresh n) (sees_fresh n) (omega (arith, waiting-fresh n))

  pub left-reverse_postorder : (out : List ℕ) × PostOrder g n out × ((walked g n).left ≡ reverse out)
  left-reverse_postorder =
      let f = walked_follows in
      (f.out, record { seen = f.seen'; rules = f.rules }, f.left ∙ append-nil (reverse f.out))

  -- The rules leave no choice.
  abbrev Same : List ℕ → List ℕ → List ℕ → List ℕ → Type 0
  Same a b seen₁ seen₂ = (a ≡ b) × (seen₁ ≡ seen₂)

  met_twice : (v : ℕ) (seen₁ seen₂ : List ℕ) → seen₁ ≡ seen₂ → (n ≤ v) ⊎ In v seen₁ → v < n → (In v seen₂ → ⊥) → ⊥
  met_twice v seen₁ seen₂ e x h u = ⊎_elim (λ a. omega arith) (λ a. u (subst (In v) e a)) x

  post_unique : (vs seen a b seen₁ seen₂ : List ℕ) → Post g n vs seen a seen₁ → Post g n vs seen b seen₂
      → Same a b seen₁ seen₂
  post_unique vs seen a b seen₁ seen₂ (done) (done) = (refl, refl)
  post_unique vs seen a b seen₁ seen₂ (pass p x) (pass q y) = post_unique _ _ _ _ _ _ p q
  post_unique vs seen a b seen₁ seen₂ (pass {v = v} p x) (into q h u r) =
      absurd (met_twice v _ _ (post_unique _ _ _ _ _ _ p q).1 x h u)
  post_unique vs seen a b seen₁ seen₂ (into {v = v} p h u r) (pass q y) =
      absurd (met_twice v _ _ (sym (post_unique _ _ _ _ _ _ p q).1) y h u)
  post_unique vs seen a b seen₁ seen₂ (into {v = v} {inner = inner} {seen₂ = seen₃} p h u r) (into q h' u' r') =
      let e = post_unique _ _ _ _ _ _ p q in
      let r'' = subst (λ (l : List ℕ). Post g n (g v) (v ∷ l) inner seen₃) e.1 r in
      let i = post_unique _ _ _ _ _ _ r'' r' in
      (rw (e.0, i.0) refl, i.1)

  pub postorder_unique : (a b : List ℕ) → PostOrder g n a → PostOrder g n b → a ≡ b
  postorder_unique a b p q = (post_unique (0 ∷ []) [] a b p.seen q.seen p.rules q.rules).0

never_none : (k : ℕ) (flags : List ℕ) → ((i : ℕ) → i < length flags → get_or flags i 0 ≡ 1) → never_met k flags ≡ []
unfolding never_met pick
never_none k [] f = refl
never_none k (flag ∷ flags) f = rw (f 0 (omega arith)) (never_none (k + 1) flags (λ i h. f (suc i) (omega arith)))

pub all-met-reverse_postorder : (g : ℕ → List ℕ) (n : ℕ) → ((v : ℕ) → v < n → Met g n v)
    → (out : List ℕ) → PostOrder g n out → block_order g n ≡ reverse out
unfolding block_order met_blocks
all-met-reverse_postorder g n all out p =
    let l = left-reverse_postorder g n in
    let none = never_none 0 (walked g n).met (λ i h. all i (rw (walked-long g n) at h)) in
    rw none (append-nil (walked g n).left) ∙ l.2 ∙ ap reverse (postorder_unique g n l.0 out l.1 p)
