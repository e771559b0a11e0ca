-- Two lists whose elements are related one by one, at an index; and two lists with one element exchanged, at any other
-- index.
use Prim.Native.Nat.{ℕ, zero, suc, ◌+◌, ◌-◌, ◌≤◌, ◌<◌}
use mathlib.Core.Path.{◌≡◌, refl, sym, ap, subst, ◌∙◌}
use mathlib.Core.Bool.{Bool, true, false}
use mathlib.Core.List.{List, [], ◌∷◌, ◌++◌, append_assoc}
use native.Mathlib.Omega.{arith}
use borrow.Author.Tests.{ltb-true, ltb-false}
use lib.Dec.{ltb}
use lib.ListN.{length, length-append}
use Rattle.parser.specs.Moved.{Each}

pub each_both : {A : Type 0} {P Q : A → A → Type 0} {xs ys : List A} → Each P xs ys → Each Q xs ys
    → Each (λ x y. P x y × Q x y) xs ys
each_both Each.none Each.none = Each.none
each_both (Each.more p ps) (Each.more q qs) = Each.more (p, q) (each_both ps qs)

-- both related to a third
pub each-meet : {A : Type 0} {P Q R : A → A → Type 0} {xs ys zs : List A} → ((x y z : A) → P x z → Q y z → R x y)
    → Each P xs zs → Each Q ys zs → Each R xs ys
each-meet f Each.none Each.none = Each.none
each-meet f (Each.more p ps) (Each.more q qs) = Each.more (f _ _ _ p q) (each-meet f ps qs)

pub each_long : {A : Type 0} {R : A → A → Type 0} {xs ys : List A} → Each R xs ys → length xs ≡ length ys
each_long Each.none = refl
each_long (Each.more q r) = ap suc (each_long r)

-- the elements at the index j, related
pub record At {A : Type 0} (R : A → A → Type 0) (xs ys : List A) (j : ℕ) : Type 0 where
  pub front : List A
  pub x : A
  pub back : List A
  pub is : xs ≡ front ++ (x ∷ back)
  pub counted : length front ≡ j
  pub front' : List A
  pub y : A
  pub back' : List A
  pub is' : ys ≡ front' ++ (y ∷ back')
  pub counted' : length front' ≡ j
  pub related : R x y

pub each_at : {A : Type 0} {R : A → A → Type 0} {xs ys : List A} → Each R xs ys → (j : ℕ) → j < length ys → At R xs ys j
each_at Each.none j h = absurd (omega arith)
each_at (Each.more {x = x} {x' = y} {xs = xs} {xs' = ys} q r) zero h =
    record {
      front = [];
      x = x;
      back = xs;
      is = refl;
      counted = refl;
      front' = [];
      y = y;
      back' = ys;
      is' = refl;
      counted' = refl;
      related = q;
    }
each_at {A = A} (Each.more {x = x} {x' = y} {xs = xs} {xs' = ys} q r) (suc j) h =
    let a = each_at r j (omega arith) in
    record {
      front = x ∷ a.front;
      x = a.x;
      back = a.back;
      is = ap (λ (l : List A). x ∷ l) a.is;
      counted = ap suc a.counted;
      front' = y ∷ a.front';
      y = a.y;
      back' = a.back';
      is' = ap (λ (l : List A). y ∷ l) a.is';
      counted' = ap suc a.counted';
      related = a.related;
    }

-- an index that is not below another, and not that one
past_one : {i j : ℕ} → i ≤ j → (j ≡ i → ⊥) → i < j
past_one {i} {j} h other = by (ltb i j) refl
  where
    by : (b : Bool) → ltb i j ≡ b → i < j
    by true e = ltb-true i j e
    by false e = absurd (other (omega (arith, ltb-false i j e)))

module _ {A : Type 0} {R : A → A → Type 0} where
  -- .. with more behind
  at_before : {xs ys : List A} {j : ℕ} (vs ws : List A) → At R xs ys j → At R (xs ++ vs) (ys ++ ws) j
  at_before vs ws a =
      record {
        front = a.front;
        x = a.x;
        back = a.back ++ vs;
        is = ap (λ (l : List A). l ++ vs) a.is ∙ append_assoc a.front (a.x ∷ a.back) vs;
        counted = a.counted;
        front' = a.front';
        y = a.y;
        back' = a.back' ++ ws;
        is' = ap (λ (l : List A). l ++ ws) a.is' ∙ append_assoc a.front' (a.y ∷ a.back') ws;
        counted' = a.counted';
        related = a.related;
      }

  -- .. with more before
  at-behind : {xs ys : List A} {j : ℕ} (vs ws : List A) → length vs ≡ length ws → At R xs ys j
      → At R (vs ++ xs) (ws ++ ys) (length ws + j)
  at-behind vs ws e a =
      record {
        front = vs ++ a.front;
        x = a.x;
        back = a.back;
        is = ap (λ (l : List A). vs ++ l) a.is ∙ sym (append_assoc vs a.front (a.x ∷ a.back));
        counted = length-append vs a.front ∙ omega (arith, e, a.counted);
        front' = ws ++ a.front';
        y = a.y;
        back' = a.back';
        is' = ap (λ (l : List A). ws ++ l) a.is' ∙ sym (append_assoc ws a.front' (a.y ∷ a.back'));
        counted' = length-append ws a.front' ∙ omega (arith, a.counted');
        related = a.related;
      }

  -- THE LAW: at any index but that of the one exchanged
  pub others_at : {xs ys vs ws : List A} (x y : A) → Each R xs ys → Each R vs ws → (j : ℕ)
      → j < length (ys ++ (y ∷ ws)) → (j ≡ length ys → ⊥) → At R (xs ++ (x ∷ vs)) (ys ++ (y ∷ ws)) j
  others_at {xs} {ys} {vs} {ws} x y front back j h other = by (ltb j (length ys)) refl
    where
      by : (b : Bool) → ltb j (length ys) ≡ b → At R (xs ++ (x ∷ vs)) (ys ++ (y ∷ ws)) j
      by true e = at_before (x ∷ vs) (y ∷ ws) (each_at front j (ltb-true j (length ys) e))
      by false e =
          let above = ltb-false j (length ys) e in
          let past : length ys < j = past_one above other in
          let within : j - (length ys + 1) < length ws =
          omega (arith, past, h, length-append ys (y ∷ ws)) in
          let long : length (xs ++ (x ∷ [])) ≡ length (ys ++ (y ∷ [])) =
          length-append xs (x ∷ []) ∙ omega (arith, each_long front, length-append ys (y ∷ [])) in
          let a = at-behind (xs ++ (x ∷ [])) (ys ++ (y ∷ [])) long (each_at back (j - (length ys + 1)) within) in
          let i : length (ys ++ (y ∷ [])) + (j - (length ys + 1)) ≡ j =
          omega (arith, past, length-append ys (y ∷ [])) in
          subst (λ (k : ℕ). At R (xs ++ (x ∷ vs)) (ys ++ (y ∷ ws)) k) i
          (subst (λ (l : List A). At R (xs ++ (x ∷ vs)) l (length (ys ++ (y ∷ [])) + (j - (length ys + 1))))
          (append_assoc ys (y ∷ []) ws)
          (subst (λ (l : List A). At R l ((ys ++ (y ∷ [])) ++ ws) (length (ys ++ (y ∷ [])) + (j - (length ys + 1))))
          (append_assoc xs (x ∷ []) vs) a))
