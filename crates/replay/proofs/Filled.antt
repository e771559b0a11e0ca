-- A slice against a list that is filled up to its length: what stands where the list does, and what stands behind.
use Rattle.std.proofs.Common.{◌≡◌, ℕ, suc, ◌-◌, ◌<◌, ◌≤◌, Bool, true, false, eqb, ◌&&◌, List, [], ◌∷◌, length, take, drop, map, replicate, refl, ap, ◌∙◌, arith}
use Rattle.std.specs.List.{list_all, zip}
use Rattle.std.specs.Str.{bytes_eq}
use Rattle.replay.specs.Held.{filled}

and_assoc : (a b c : Bool) → a && (b && c) ≡ (a && b) && c
and_assoc true b c = refl
and_assoc false b c = refl

module _ {A : Type 0} (value : A → ℕ) (rest : ℕ) where
  behind : (got : List A) → bytes_eq (map value got) (replicate (length got) rest)
      ≡ list_all (λ x. eqb (value x) rest) got
  behind [] = refl
  behind (x ∷ xs) = ap (λ (t : Bool). eqb (value x) rest && t) (behind xs)

  pub split : (got : List A) (list : List ℕ) → length list ≤ length got
      → bytes_eq (map value got) (filled rest (length got) list)
      ≡ (list_all (λ (p : A × ℕ). eqb (value p.0) p.1) (zip (take (length list) got) list)
      && list_all (λ x. eqb (value x) rest) (drop (length list) got))
  split got [] h =
      let e : length got - 0 ≡ length got = omega arith in
      rw e (behind got)
  split [] (y ∷ ys) h = absurd (omega arith)
  split (x ∷ xs) (y ∷ ys) h =
      let e : suc (length xs) - suc (length ys) ≡ length xs - length ys = omega arith in
      rw e (ap (λ (t : Bool). eqb (value x) y && t) (split xs ys (omega arith))
      ∙ and_assoc (eqb (value x) y) _ _)

  pub too_short : (got : List A) (list : List ℕ) → length got < length list
      → false ≡ bytes_eq (map value got) (filled rest (length got) list)
  too_short got [] h = absurd (omega arith)
  too_short [] (y ∷ ys) h = refl
  too_short (x ∷ xs) (y ∷ ys) h =
      let e : suc (length xs) - suc (length ys) ≡ length xs - length ys = omega arith in
      rw (e, ← too_short xs ys (omega arith)) (no (eqb (value x) y))
    where
      no : (t : Bool) → false ≡ t && false
      no true = refl
      no false = refl
