-- Shift: behind p, a text s reads as it does alone, moved by the length of p (and by as many lines as one likes). Each
-- scan goes over what is left of the text, which is the same behind p, and only counts from another place.
use Rattle.std.specs.Prelude.{Option, Some, None, Ok, Err}
use Prim.Native.Nat.{ℕ, ◌+◌, ◌-◌, ◌*◌}
use mathlib.Core.Path.{◌≡◌, refl, sym, ◌∙◌}
use mathlib.Core.Bool.{Bool, true, false}
use mathlib.Core.List.{List, [], ◌∷◌, ◌++◌}
use native.Mathlib.Omega.{arith}
use borrow.Author.Tests.{le-leb, lt-leb, leb-true, leb-false}
use lib.Dec.{leb, eqb}
use lib.ListN.{length, get_or, take, drop, length-append}
use lib.Seq.{slice, get_or-append-add, drop-append-add, take-append-add}
use Rattle.utils.specs.Bytes.{pick}
use Rattle.pieces.specs.Classes.{is_blank, is_digit, is_letter, is_name_part}
use Rattle.pieces.specs.Tokens.{keyword, symbol}
use Rattle.pieces.specs.Pieces.{cursor, token, number, line_end, closes, star_after, comment_end, digits_from, name_end}
use Rattle.pieces.specs.Pieces.{name_end_at}
use Rattle.pieces.specs.Pieces.{on_comment, slash_at, digit_at, minus_at, name_at, sigil_at, then_value, word_at, number_at}
use Rattle.pieces.specs.Pieces.{symbol_at, token_from, piece_at}
use Rattle.pieces.specs.declared.NameKind.{NameKind}
use Rattle.pieces.specs.declared.NameKind.TheVariants as NK
use Rattle.pieces.specs.declared.Number.{Number}
use Rattle.pieces.specs.declared.Refusal.TheVariants as R
use Rattle.pieces.specs.declared.Lexed.TheVariants as L
use Rattle.joined.specs.Moves.{move_piece}
use Rattle.pieces.specs.declared.TokenValue.{TokenValue}

-- A choice, taken through a function: where each side is what the function makes of a side.
pub pick_through : {A B : Type 0} (f : A → B) (t : Bool) {a b : A} {a' b' : B} → (t ≡ true → a' ≡ f a) →
    (t ≡ false → b' ≡ f b)
    → pick t a' b' ≡ f (pick t a b)
unfolding pick
pick_through f true p q = p refl
pick_through f false p q = q refl

-- The scans, counting from another place. --------------------------------------------------------------------------

line_end_shift : (by : ℕ) (r : List ℕ) (at : ℕ) → line_end r (by + at) ≡ by + line_end r at
unfolding line_end
line_end_shift by [] at = refl
line_end_shift by (b ∷ r) at =
    let e : by + at + 1 ≡ by + (at + 1) = omega arith in
    rw e (pick_through (λ (n : ℕ). by + n) (eqb b 10) (λ _. refl) (λ _. line_end_shift by r (at + 1)))

name_end_shift : (by : ℕ) (r : List ℕ) (at : ℕ) → name_end r (by + at) ≡ by + name_end r at
unfolding name_end
name_end_shift by [] at = refl
name_end_shift by (b ∷ r) at =
    let e : by + at + 1 ≡ by + (at + 1) = omega arith in
    rw e (pick_through (λ (n : ℕ). by + n) (is_name_part b) (λ _. name_end_shift by r (at + 1)) (λ _. refl))

abbrev move_number : ℕ → Number → Number
move_number by n = number n.value (by + n.end)

digits_shift : (by : ℕ) (r : List ℕ) (at v : ℕ) → digits_from r (by + at) v ≡ move_number by (digits_from r at v)
unfolding digits_from
digits_shift by [] at v = refl
digits_shift by (b ∷ r) at v =
    let e : by + at + 1 ≡ by + (at + 1) = omega arith in
    rw e (pick_through (move_number by) (is_digit b) (λ _. digits_shift by r (at + 1) (v * 10 + (b - 48))) (λ _. refl))

abbrev move_comment : ℕ → Option ℕ → Option ℕ
move_comment by (Some end) = Some (by + end)
move_comment by None = None

comment_shift : (by : ℕ) (star : Bool) (r : List ℕ) (at : ℕ)
    → comment_end star r (by + at) ≡ move_comment by (comment_end star r at)
unfolding comment_end
comment_shift by star [] at = refl
comment_shift by star (b ∷ r) at =
    let e : by + at + 1 ≡ by + (at + 1) = omega arith in
    rw e (pick_through (move_comment by) (closes star b) (λ _. refl)
    (λ _. comment_shift by (star_after star b) r (at + 1)))

-- What is read of a text at a place, behind p. ---------------------------------------------------------------------

module _ (p s : List ℕ) where
  byte_shift : (at : ℕ) → get_or (p ++ s) (length p + at) 0 ≡ get_or s at 0
  byte_shift at = get_or-append-add p s at 0

  second_shift : (at : ℕ) → get_or (p ++ s) (length p + at + 1) 0 ≡ get_or s (at + 1) 0
  second_shift at =
      let e : length p + at + 1 ≡ length p + (at + 1) = omega arith in
      rw e (get_or-append-add p s (at + 1) 0)

  left_shift : (at k : ℕ) → drop (length p + at + k) (p ++ s) ≡ drop (at + k) s
  left_shift at k =
      let e : length p + at + k ≡ length p + (at + k) = omega arith in
      rw e (drop-append-add p s (at + k))

  over_shift : (at : ℕ) → leb (length (p ++ s)) (length p + at) ≡ leb (length s) at
  over_shift at = by (leb (length s) at) refl
    where
      by : (t : Bool) → leb (length s) at ≡ t → leb (length (p ++ s)) (length p + at) ≡ leb (length s) at
      by true e = le-leb (length (p ++ s)) (length p + at) (omega (arith, leb-true (length s) at e, length-append p s))
          ∙ sym e
      by false e = lt-leb (length (p ++ s)) (length p + at)
          (omega (arith, leb-false (length s) at e, length-append p s)) ∙ sym e

  name_end_at_shift : (at : ℕ) → name_end_at (p ++ s) (length p + at) ≡ length p + name_end_at s at
  name_end_at_shift at =
      let e : length p + at + 1 ≡ length p + (at + 1) = omega arith in
      rw (left_shift at 1, e) (name_end_shift (length p) (drop (at + 1) s) (at + 1))

  number_at_shift : (at : ℕ) → number_at (p ++ s) (length p + at) ≡ move_number (length p) (number_at s at)
  number_at_shift at = rw (drop-append-add p s at) (digits_shift (length p) (drop at s) at 0)

  pub slice_shift : (a b : ℕ) → slice (length p + a) (length p + b) (p ++ s) ≡ slice a b s
  slice_shift a b = rw (take-append-add p s b) (drop-append-add p (take b s) a)

-- One piece. -------------------------------------------------------------------------------------------------------

module _ (p s : List ℕ) (down at line : ℕ) where
  name_shift : (kind : NameKind) → name_at kind (p ++ s) (length p + at) (down + line) ≡ move_piece (length p) down
      (name_at kind s at line)
  unfolding name_at
  name_shift kind =
      let e : length p + name_end_at s at - (length p + at) ≡ name_end_at s at - at = omega arith in
      rw (name_end_at_shift p s at, e)

  sigil_shift : (kind : NameKind) → sigil_at kind (p ++ s) (length p + at) (down + line) ≡ move_piece (length p) down
      (sigil_at kind s at line)
  unfolding sigil_at
  sigil_shift kind =
      rw (second_shift p s at, byte_shift p s at)
      (pick_through (move_piece (length p) down) (is_letter (get_or s (at + 1) 0)) (λ _. name_shift kind) (λ _. refl))

  word_shift : word_at (p ++ s) (length p + at) (down + line) ≡ move_piece (length p) down (word_at s at line)
  unfolding word_at then_value
  word_shift =
      rw (name_end_at_shift p s at, slice_shift p s at (name_end_at s at))
      (worded (keyword (slice at (name_end_at s at) s)))
    where
      worded : (v : Option TokenValue)
          → then_value v (λ v. Ok (L.Token (token v (down + line) (length p + at))
          (cursor (length p + name_end_at s at) (down + line))))
          (name_at NK.Local (p ++ s) (length p + at) (down + line))
          ≡ move_piece (length p) down
          (then_value v (λ v. Ok (L.Token (token v line at) (cursor (name_end_at s at) line)))
          (name_at NK.Local s at line))
      worded (Some v) = refl
      worded None = name_shift NK.Local

  symbol_shift : symbol_at (p ++ s) (length p + at) (down + line) ≡ move_piece (length p) down (symbol_at s at line)
  unfolding symbol_at then_value
  symbol_shift =
      let e : length p + at + 1 ≡ length p + (at + 1) = omega arith in
      rw (byte_shift p s at, e) (found (symbol (get_or s at 0)))
    where
      found : (v : Option TokenValue)
          → then_value v (λ v. Ok (L.Token (token v (down + line) (length p + at))
          (cursor (length p + (at + 1)) (down + line))))
          (Err (R.UnexpectedByte (get_or s at 0) (cursor (length p + at) (down + line))))
          ≡ move_piece (length p) down
          (then_value v (λ v. Ok (L.Token (token v line at) (cursor (at + 1) line)))
          (Err (R.UnexpectedByte (get_or s at 0) (cursor at line))))
      found (Some v) = refl
      found None = refl

  digit_shift : digit_at (p ++ s) (length p + at) (down + line) ≡ move_piece (length p) down (digit_at s at line)
  unfolding digit_at
  digit_shift =
      rw (number_at_shift p s at)
      (pick_through (move_piece (length p) down) (leb (number_at s at).value 2147483647) (λ _. refl) (λ _. refl))

  minus_shift : minus_at (p ++ s) (length p + at) (down + line) ≡ move_piece (length p) down (minus_at s at line)
  unfolding minus_at
  minus_shift =
      let e : length p + at + 1 ≡ length p + (at + 1) = omega arith in
      rw (e, number_at_shift p s (at + 1), byte_shift p s (at + 1))
      (pick_through (move_piece (length p) down) (is_digit (get_or s (at + 1) 0))
      (λ _. pick_through (move_piece (length p) down) (leb (number_at s (at + 1)).value 2147483648) (λ _. refl)
      (λ _. refl))
      (λ _. refl))

  slash_shift : slash_at (p ++ s) (length p + at) (down + line) ≡ move_piece (length p) down (slash_at s at line)
  unfolding slash_at
  slash_shift =
      let e : length p + at + 2 ≡ length p + (at + 2) = omega arith in
      rw (
        second_shift p s at,
        left_shift p s at 2,
        e,
        line_end_shift (length p) (drop (at + 2) s) (at + 2),
        comment_shift (length p) false (drop (at + 2) s) (at + 2),
      )
      (pick_through (move_piece (length p) down) (eqb (get_or s (at + 1) 0) 47) (λ _. refl) (λ _.
      pick_through (move_piece (length p) down) (eqb (get_or s (at + 1) 0) 42)
      (λ _. commented (comment_end false (drop (at + 2) s) (at + 2))) (λ _. refl)))
    where
      commented : (c : Option ℕ)
          → on_comment (length p + at) (down + line) (move_comment (length p) c)
          ≡ move_piece (length p) down (on_comment at line c)
      commented (Some end) = refl
      commented None = refl

  token_shift : token_from (p ++ s) (length p + at) (down + line) ≡ move_piece (length p) down (token_from s at line)
  unfolding token_from
  token_shift =
      let b = get_or s at 0 in
      let to = move_piece (length p) down in
      rw (byte_shift p s at)
      (pick_through to (eqb b 45) (λ _. minus_shift) (λ _.
      pick_through to (eqb b 64) (λ _. sigil_shift NK.Global) (λ _.
      pick_through to (eqb b 46) (λ _. sigil_shift NK.Label) (λ _.
      pick_through to (is_digit b) (λ _. digit_shift) (λ _.
      pick_through to (is_letter b) (λ _. word_shift) (λ _. symbol_shift))))))

  pub piece_shift : piece_at (p ++ s) (length p + at) (down + line) ≡ move_piece (length p) down (piece_at s at line)
  unfolding piece_at
  piece_shift =
      let b = get_or s at 0 in
      let to = move_piece (length p) down in
      let e : length p + at + 1 ≡ length p + (at + 1) = omega arith in
      let f : down + line + 1 ≡ down + (line + 1) = omega arith in
      rw (
        byte_shift p s at,
        over_shift p s at,
        left_shift p s at 1,
        e,
        f,
        line_end_shift (length p) (drop (at + 1) s) (at + 1),
      )
      (pick_through to (leb (length s) at) (λ _. refl) (λ _.
      pick_through to (eqb b 10) (λ _. refl) (λ _.
      pick_through to (is_blank b) (λ _. refl) (λ _.
      pick_through to (eqb b 35) (λ _. refl) (λ _.
      pick_through to (eqb b 47) (λ _. slash_shift) (λ _. token_shift))))))
