-- Front: a piece of `s ++ u` that ends in s is the piece of `s ++ u'`, where u' is nothing or begins as u does.
-- Each scan that stops in s has met there what stops it, or looks at one byte behind s.
use Rattle.std.specs.Prelude.{Option, Some, None, Result, Ok}
use Prim.Native.Nat.{ℕ, suc, ◌+◌, ◌-◌, ◌*◌, ◌≤◌, ◌<◌}
use mathlib.Core.Path.{◌≡◌, refl, sym, ap, ◌∙◌}
use mathlib.Core.Bool.{Bool, true, false}
use mathlib.Core.List.{List, [], ◌∷◌, ◌++◌}
use native.Mathlib.Omega.{arith}
use native.Mathlib.Nat.{add-zero}
use borrow.Author.Tests.{lt-leb, ltb-true, ltb-false}
use lib.Dec.{leb, ltb, eqb}
use lib.ListN.{length, get_or, drop, length-append, get_or-append}
use lib.Seq.{slice, get_or-drop, drop-append-le, take-append-le}
use Rattle.utils.specs.Bytes.{pick}
use Rattle.pieces.specs.Classes.{is_blank, is_digit, is_letter, is_name_part}
use Rattle.pieces.specs.Tokens.{keyword}
use Rattle.pieces.specs.Pieces.{cursor, token, number, line_end, closes, star_after, comment_end, digits_from}
use Rattle.pieces.specs.Pieces.{name_end, name_end_at}
use Rattle.pieces.specs.Pieces.{on_comment, slash_at, digit_at, minus_at, name_at, sigil_at, then_value, word_at, number_at}
use Rattle.pieces.specs.Pieces.{symbol_at, token_from, piece_at}
use Rattle.pieces.specs.declared.NameKind.{NameKind}
use Rattle.pieces.specs.declared.NameKind.TheVariants as NK
use Rattle.pieces.specs.declared.Number.{Number}
use Rattle.pieces.specs.declared.Lexed.{Lexed}
use Rattle.pieces.specs.declared.Lexed.TheVariants as L
use Rattle.pieces.proofs.Progress.{pick_either, left-from, line_end-from, name_end-from, digits-end-from, ClosedIn}
use Rattle.pieces.proofs.Progress.{comment_end_in}
use Rattle.joined.specs.Runs.{EndsBy, Begins}
use Rattle.pieces.specs.declared.TokenValue.{TokenValue}
use Rattle.pieces.specs.declared.Refusal.{Refusal}

-- Two choices by one test, under what is known of one of them.
pub pick-front : {A : Type 0} (P : A → Type 0) (t : Bool) {a b a' b' : A} → (t ≡ true → P a → a' ≡ a)
    → (t ≡ false → P b → b' ≡ b) → P (pick t a b) → pick t a' b' ≡ pick t a b
unfolding pick
pick-front P true f g h = f refl h
pick-front P false f g h = g refl h

-- A name or a number takes what it can begin with.
taken_letter : (v : List ℕ) (k : ℕ) → is_letter (get_or v 0 0) ≡ true → k < name_end v k
unfolding is_letter is_name_part name_end pick
taken_letter [] k e = absurd (let z : ◌≡◌ {A = ℕ} 0 1 = cc in omega arith)
taken_letter (b ∷ v) k e = rw e (omega (arith, name_end-from v (k + 1)))

taken_digit : (v : List ℕ) (k a : ℕ) → is_digit (get_or v 0 0) ≡ true → k < (digits_from v k a).end
unfolding is_digit digits_from pick
taken_digit [] k a e = absurd (let z : ◌≡◌ {A = ℕ} 0 1 = cc in omega arith)
taken_digit (b ∷ v) k a e = rw e (omega (arith, digits-end-from v (k + 1) (a * 10 + (b - 48))))

abbrev ClosedBy : ℕ → Option ℕ → Type 0
ClosedBy n (Some end) = end ≤ n
ClosedBy n None = ⊥

never_closed : (n : ℕ) (c : Option ℕ) (to : ℕ) → ClosedIn n to c → ClosedBy n c → ⊥
never_closed n (Some end) to p q = omega arith
never_closed n None to p q = q

-- The scans, over x with u or u' behind it. ------------------------------------------------------------------------

name_end-stop : {u u' : List ℕ} → Begins u u' → (at : ℕ) → name_end u at ≤ at → name_end u' at ≡ name_end u at
unfolding name_end
name_end-stop (Begins.nothing {u}) at h = omega (arith, name_end-from u at)
name_end-stop (Begins.alike {b} {u} {u'}) at h =
    pick-front (λ (e : ℕ). e ≤ at) (is_name_part b) (λ _ k. absurd (omega (arith, name_end-from u (at + 1))))
    (λ _ _. refl) h

line_end-stop : {u u' : List ℕ} → Begins u u' → (at : ℕ) → line_end u at ≤ at → line_end u' at ≡ line_end u at
unfolding line_end
line_end-stop (Begins.nothing {u}) at h = omega (arith, line_end-from u at)
line_end-stop (Begins.alike {b} {u} {u'}) at h =
    pick-front (λ (e : ℕ). e ≤ at) (eqb b 10) (λ _ k. refl) (λ _ k. absurd (omega (arith, line_end-from u (at + 1)))) h

digits-stop : {u u' : List ℕ} → Begins u u' → (at v : ℕ) → (digits_from u at v).end ≤ at → digits_from u' at v
    ≡ digits_from u at v
unfolding digits_from
digits-stop (Begins.nothing {u = []}) at v h = refl
digits-stop (Begins.nothing {u = b ∷ u}) at v h =
    pick_either (λ (n : Number). n.end ≤ at → number v at ≡ n) (is_digit b) _ _
    (λ _ k. absurd (omega (arith, digits-end-from u (at + 1) (v * 10 + (b - 48))))) (λ _ _. refl) h
digits-stop (Begins.alike {b} {u} {u'}) at v h =
    pick-front (λ (n : Number). n.end ≤ at) (is_digit b)
    (λ _ k. absurd (omega (arith, digits-end-from u (at + 1) (v * 10 + (b - 48))))) (λ _ _. refl) h

module _ {u u' : List ℕ} (g : Begins u u') where
  name_end-front : (x : List ℕ) (at : ℕ) → name_end (x ++ u) at ≤ at + length x → name_end (x ++ u') at ≡ name_end
      (x ++ u) at
  unfolding name_end
  name_end-front [] at h = name_end-stop g at (omega arith)
  name_end-front (b ∷ x) at h =
      pick-front (λ (e : ℕ). e ≤ at + suc (length x)) (is_name_part b)
      (λ _ k. name_end-front x (at + 1) (omega arith)) (λ _ _. refl) h

  line_end-front : (x : List ℕ) (at : ℕ) → line_end (x ++ u) at ≤ at + length x → line_end (x ++ u') at ≡ line_end
      (x ++ u) at
  unfolding line_end
  line_end-front [] at h = line_end-stop g at (omega arith)
  line_end-front (b ∷ x) at h =
      pick-front (λ (e : ℕ). e ≤ at + suc (length x)) (eqb b 10)
      (λ _ _. refl) (λ _ k. line_end-front x (at + 1) (omega arith)) h

  digits-front : (x : List ℕ) (at v : ℕ) → (digits_from (x ++ u) at v).end ≤ at + length x
      → digits_from (x ++ u') at v ≡ digits_from (x ++ u) at v
  unfolding digits_from
  digits-front [] at v h = digits-stop g at v (omega arith)
  digits-front (b ∷ x) at v h =
      pick-front (λ (n : Number). n.end ≤ at + suc (length x)) (is_digit b)
      (λ _ k. digits-front x (at + 1) (v * 10 + (b - 48)) (omega arith)) (λ _ _. refl) h

  comment_front : (star : Bool) (x : List ℕ) (at : ℕ) → ClosedBy (at + length x) (comment_end star (x ++ u) at)
      → comment_end star (x ++ u') at ≡ comment_end star (x ++ u) at
  unfolding comment_end
  comment_front star [] at h =
      absurd (never_closed at (comment_end star u at) (at + length u) (comment_end_in star u at) (rw add-zero at h))
  comment_front star (b ∷ x) at h =
      let e : at + suc (length x) ≡ at + 1 + length x = omega arith in
      pick-front (ClosedBy (at + 1 + length x)) (closes star b)
      (λ _ _. refl) (λ _ k. comment_front (star_after star b) x (at + 1) k) (rw e at h)

-- One piece of s, at a place before its end. -----------------------------------------------------------------------

module _ (s : List ℕ) {u u' : List ℕ} (g : Begins u u') (at line : ℕ) (h : at < length s) where
  byte_front : (v : List ℕ) → get_or (s ++ v) at 0 ≡ get_or s at 0
  byte_front v = get_or-append s v 0 at h

  left-front : (v : List ℕ) → drop (at + 1) (s ++ v) ≡ drop (at + 1) s ++ v
  left-front v = drop-append-le (at + 1) s v (omega arith)

  -- the byte behind
  second_front : (v : List ℕ) → get_or (s ++ v) (at + 1) 0 ≡ get_or (drop (at + 1) s ++ v) 0 0
  second_front v =
      let e : at + 1 + 0 ≡ at + 1 = omega arith in
      sym (rw (← left-front v) (get_or-drop (at + 1) (s ++ v) 0 0 ∙ rw e))

  name_end_at-front : name_end_at (s ++ u) at ≤ length s → name_end_at (s ++ u') at ≡ name_end_at (s ++ u) at
  name_end_at-front k =
      let l = left-from s (at + 1) (omega arith) in
      rw (left-front u, left-front u')
      (name_end-front g (drop (at + 1) s) (at + 1) (omega (arith, rw (left-front u) at k)))

  name-front : (kind : NameKind) → EndsBy (length s) (name_at kind (s ++ u) at line)
      → name_at kind (s ++ u') at line ≡ name_at kind (s ++ u) at line
  unfolding name_at
  name-front kind k = rw (name_end_at-front k)

  -- where a name begins with two bytes, the second is the same
  second_letter : (x : List ℕ) (k : ℕ) → is_letter (get_or (x ++ u) 0 0) ≡ true → name_end (x ++ u) k ≤ k + length x
      → get_or (x ++ u') 0 0 ≡ get_or (x ++ u) 0 0
  second_letter [] k e m = absurd (omega (arith, taken_letter u k e))
  second_letter (b ∷ x) k e m = refl

  second_digit : (x : List ℕ) (k v : ℕ) → is_digit (get_or (x ++ u) 0 0) ≡ true → (digits_from
      (x ++ u) k v).end ≤ k + length x
      → get_or (x ++ u') 0 0 ≡ get_or (x ++ u) 0 0
  second_digit [] k v e m = absurd (omega (arith, taken_digit u k v e))
  second_digit (b ∷ x) k v e m = refl

  sigil_front : (kind : NameKind) → EndsBy (length s) (sigil_at kind (s ++ u) at line)
      → sigil_at kind (s ++ u') at line ≡ sigil_at kind (s ++ u) at line
  unfolding sigil_at name_at pick
  sigil_front kind = by (is_letter (get_or (s ++ u) (at + 1) 0)) refl
    where
      by : (t : Bool) → is_letter (get_or (s ++ u) (at + 1) 0) ≡ t → EndsBy (length s) (sigil_at kind (s ++ u) at line)
          → sigil_at kind (s ++ u') at line ≡ sigil_at kind (s ++ u) at line
      by true e k =
          let n : name_end_at (s ++ u) at ≤ length s = rw e at k in
          let l = left-from s (at + 1) (omega arith) in
          let second : get_or (s ++ u') (at + 1) 0 ≡ get_or (s ++ u) (at + 1) 0 =
          second_front u' ∙ second_letter (drop (at + 1) s) (at + 1) (rw (second_front u) at e)
          (omega (arith, rw (left-front u) at n)) ∙ sym (second_front u) in
          rw (second, e) (name-front kind n)
      by false e k = absurd (rw e at k)

  minus_front : EndsBy (length s) (minus_at (s ++ u) at line) → minus_at (s ++ u') at line ≡ minus_at (s ++ u) at line
  unfolding minus_at pick
  minus_front = by (is_digit (get_or (s ++ u) (at + 1) 0)) refl (leb (number_at (s ++ u) (at + 1)).value 2147483648) refl
    where
      by : (t : Bool) → is_digit (get_or (s ++ u) (at + 1) 0) ≡ t
          → (small : Bool) → leb (number_at (s ++ u) (at + 1)).value 2147483648 ≡ small
          → EndsBy (length s) (minus_at (s ++ u) at line) → minus_at (s ++ u') at line ≡ minus_at (s ++ u) at line
      by true e true f k =
          let n : (number_at (s ++ u) (at + 1)).end ≤ length s = rw (e, f) at k in
          let l = left-from s (at + 1) (omega arith) in
          let m : (digits_from (drop (at + 1) s ++ u) (at + 1) 0).end ≤ at + 1 + length (drop (at + 1) s) =
          omega (arith, rw (left-front u) at n) in
          let second : get_or (s ++ u') (at + 1) 0 ≡ get_or (s ++ u) (at + 1) 0 =
          second_front u' ∙ second_digit (drop (at + 1) s) (at + 1) 0 (rw (second_front u) at e) m
          ∙ sym (second_front u) in
          let same : number_at (s ++ u') (at + 1) ≡ number_at (s ++ u) (at + 1) =
          rw (left-front u, left-front u') (digits-front g (drop (at + 1) s) (at + 1) 0 m) in
          rw (second, same)
      by true e false f k = absurd (rw (e, f) at k)
      by false e small f k = absurd (rw e at k)

  digit_front : EndsBy (length s) (digit_at (s ++ u) at line) → digit_at (s ++ u') at line ≡ digit_at (s ++ u) at line
  unfolding digit_at pick
  digit_front = by (leb (number_at (s ++ u) at).value 2147483647) refl
    where
      same : (number_at (s ++ u) at).end ≤ length s → number_at (s ++ u') at ≡ number_at (s ++ u) at
      same k =
          let l = left-from s at (omega arith) in
          let e = drop-append-le at s u (omega arith) in
          let e' = drop-append-le at s u' (omega arith) in
          rw (e, e') (digits-front g (drop at s) at 0 (omega (arith, rw e at k)))

      by : (small : Bool) → leb (number_at (s ++ u) at).value 2147483647 ≡ small
          → EndsBy (length s) (digit_at (s ++ u) at line) → digit_at (s ++ u') at line ≡ digit_at (s ++ u) at line
      by true e k = rw (same (rw e at k))
      by false e k = absurd (rw e at k)

  word-front : EndsBy (length s) (word_at (s ++ u) at line) → word_at (s ++ u') at line ≡ word_at (s ++ u) at line
  unfolding word_at name_at then_value
  word-front k =
      let n = ends (keyword (slice at (name_end_at (s ++ u) at) (s ++ u))) k in
      let e = take-append-le (name_end_at (s ++ u) at) s u n in
      let e' = take-append-le (name_end_at (s ++ u) at) s u' n in
      rw (name_end_at-front n, e, e')
    where
      ends : (v : Option TokenValue)
          → EndsBy (length s) (then_value v
          (λ v. Ok (L.Token (token v line at) (cursor (name_end_at (s ++ u) at) line)))
          (name_at NK.Local (s ++ u) at line)) → name_end_at (s ++ u) at ≤ length s
      ends (Some v) k = k
      ends None k = k

  symbol-front : symbol_at (s ++ u') at line ≡ symbol_at (s ++ u) at line
  unfolding symbol_at
  symbol-front = rw (byte_front u, byte_front u')

  slash_front : EndsBy (length s) (slash_at (s ++ u) at line) → slash_at (s ++ u') at line ≡ slash_at (s ++ u) at line
  unfolding slash_at
  slash_front = by (ltb (at + 1) (length s)) refl
    where
      closed : (c : Option ℕ) → EndsBy (length s) (on_comment at line c) → ClosedBy (length s) c
      closed (Some end) k = k
      closed None k = k

      two : (v : List ℕ) → at + 1 < length s → drop (at + 2) (s ++ v) ≡ drop (at + 2) s ++ v
      two v m = drop-append-le (at + 2) s v (omega arith)

      late : length s ≤ at + 1 → (c : Option ℕ) → ClosedIn (at + 2) (at + 2 + length (drop (at + 2) (s ++ u))) c
          → ClosedBy (length s) c → ⊥
      late m (Some end) p q = omega arith
      late m None p q = q

      by : (t : Bool) → ltb (at + 1) (length s) ≡ t
          → EndsBy (length s) (slash_at (s ++ u) at line) → slash_at (s ++ u') at line ≡ slash_at (s ++ u) at line
      by true e k =
          let m : at + 1 < length s = ltb-true _ _ e in
          let l = left-from s (at + 2) (omega arith) in
          let x = drop (at + 2) s in
          let second : get_or (s ++ u') (at + 1) 0 ≡ get_or (s ++ u) (at + 1) 0 =
          get_or-append s u' 0 (at + 1) m ∙ sym (get_or-append s u 0 (at + 1) m) in
          rw second
          (pick-front (EndsBy (length s)) (eqb (get_or (s ++ u) (at + 1) 0) 47)
          (λ _ n. rw (two u m, two u' m) (ap (λ (z : ℕ). Ok (L.Skipped (cursor z line)))
          (line_end-front g x (at + 2) (omega (arith, rw (two u m) at n)))))
          (λ _. pick-front (EndsBy (length s)) (eqb (get_or (s ++ u) (at + 1) 0) 42)
          (λ _ n. rw (two u m, two u' m) (ap (on_comment at line)
          (comment_front g false x (at + 2) (rw l (closed (comment_end false (x ++ u) (at + 2)) (rw (two u m) at n))))))
          (λ _ n. refl)) k)
      by false e k =
          let m : length s ≤ at + 1 = ltb-false _ _ e in
          let y = drop (at + 2) (s ++ u) in
          let P : Result Lexed Refusal → Type 0 = λ l. EndsBy (length s) l → ⊥ in
          absurd (pick_either P (eqb (get_or (s ++ u) (at + 1) 0) 47) _ _
          (λ _ n. omega (arith, line_end-from y (at + 2)))
          (λ _. pick_either P (eqb (get_or (s ++ u) (at + 1) 0) 42) _ _
          (λ _ n. late m (comment_end false y (at + 2)) (comment_end_in false y (at + 2))
          (closed (comment_end false y (at + 2)) n))
          (λ _ n. n)) k)

  token-front : EndsBy (length s) (token_from (s ++ u) at line) → token_from (s ++ u') at line ≡ token_from
      (s ++ u) at line
  unfolding token_from
  token-front k =
      let b = get_or s at 0 in
      let P = EndsBy (length s) in
      rw (byte_front u, byte_front u')
      (pick-front P (eqb b 45) (λ _. minus_front) (λ _.
      pick-front P (eqb b 64) (λ _. sigil_front NK.Global) (λ _.
      pick-front P (eqb b 46) (λ _. sigil_front NK.Label) (λ _.
      pick-front P (is_digit b) (λ _. digit_front) (λ _.
      pick-front P (is_letter b) (λ _. word-front) (λ _ _. symbol-front))))) (rw (byte_front u) at k))

  over-front : (v : List ℕ) → leb (length (s ++ v)) at ≡ false
  over-front v = lt-leb (length (s ++ v)) at (omega (arith, length-append s v))

  -- the theorem
  pub piece_front : EndsBy (length s) (piece_at (s ++ u) at line) → piece_at (s ++ u') at line ≡ piece_at (s ++ u) at line
  unfolding piece_at
  piece_front k =
      let b = get_or s at 0 in
      let P = EndsBy (length s) in
      let l = left-from s (at + 1) (omega arith) in
      rw (byte_front u, byte_front u', over-front u, over-front u')
      (pick-front P false (λ _ _. refl) (λ _.
      pick-front P (eqb b 10) (λ _ _. refl) (λ _.
      pick-front P (is_blank b) (λ _ _. refl) (λ _.
      pick-front P (eqb b 35)
      (λ _ n. rw (left-front u, left-front u') (ap (λ (z : ℕ). Ok (L.Skipped (cursor z line)))
      (line_end-front g (drop (at + 1) s) (at + 1) (omega (arith, rw (left-front u) at n))))) (λ _.
      pick-front P (eqb b 47) (λ _. slash_front) (λ _. token-front))))) (rw (byte_front u, over-front u) at k))
