-- A number, digit by digit: the digits from a place on, behind a value that is known to 32 bits, give the whole number.
use Rattle.std.proofs.Common.{◌≡◌, ℕ, suc, ◌+◌, ◌-◌, ◌*◌, ◌/◌, ◌%◌, ◌<◌, ◌≤◌, Bool, true, false, not, ◌&&◌, cond, ◌⊎◌, ⊎_elim, List, [], ◌∷◌, length, get_or, drop, sym, refl, ap, ◌∙◌, add-zero, mod-lt, mod-eq_of_lt, add-one, arith, length-drop, drop_of_length-le, drop-cons, eq-eqb, ne_eqb}
use Rattle.std.specs.Char.{is_ascii_digit}
use native.Mathlib.Nat.{mod-mod, add-mul-mod_self_left, mod-add-div}
use lib.Seq.{drop-length}
use Rattle.replay.specs.Numbers.{number, in_comment, to_digit, digits_of, decimal, number_at}

no_digit : (digit comment : Bool) → ((digit ≡ true) × (comment ≡ true)) ⊎ (digit ≡ false) → digit && not comment ≡ false
no_digit true true e = refl
no_digit true false e = ⊎_elim (λ p. cc) (λ p. cc) e
no_digit false comment e = refl

-- one byte of what is left, before the next digit
module _ (s : List ℕ) (from at : ℕ) (before : Bool)
    (known : to_digit before (drop at s) ≡ to_digit false (drop from s)) where
  module _ (comment digit : Bool) (h : at < length s) (in-comment : comment ≡ in_comment before (get_or s at 0))
      (digit_is : digit ≡ is_ascii_digit (get_or s at 0)) where
    one_byte : cond (digit && not comment) (drop at s) (to_digit comment (drop (at + 1) s))
        ≡ to_digit false (drop from s)
    unfolding to_digit
    one_byte = rw (← known, drop-cons s at 0 h, in-comment, digit_is, add-one at)

    pub digit_here : digit ≡ true → comment ≡ false → drop at s ≡ to_digit false (drop from s)
    digit_here p q = rw (p, q) at one_byte

    pub digit_later : ((digit ≡ true) × (comment ≡ true)) ⊎ (digit ≡ false)
        → to_digit comment (drop (at + 1) s) ≡ to_digit false (drop from s)
    digit_later e = rw (no_digit digit comment e) at one_byte

  pub digit_nowhere : length s ≤ at → drop (length s) s ≡ to_digit false (drop from s)
  unfolding to_digit
  digit_nowhere h = rw (← known, drop_of_length-le s {i = at} h) (drop-length s)

digit_mod : (v d : ℕ) → (v % 4294967296 * 10 + d) % 4294967296 ≡ (v * 10 + d) % 4294967296
digit_mod v d =
    let low = v % 4294967296 in
    let high = v / 4294967296 in
    let e : low * 10 + d + 4294967296 * (high * 10) ≡ v * 10 + d = omega (arith, mod-add-div v 4294967296) in
    sym (add-mul-mod_self_left (low * 10 + d) 4294967296 (high * 10)) ∙ ap (λ (k : ℕ). k % 4294967296) e

decimal_mod : (v : ℕ) (ds : List ℕ) → decimal (v % 4294967296) ds % 4294967296 ≡ decimal v ds % 4294967296
unfolding decimal
decimal_mod v [] = mod-mod v 4294967296
decimal_mod v (b ∷ r) =
    sym (decimal_mod (v % 4294967296 * 10 + (b - 48)) r)
    ∙ rw (digit_mod v (b - 48)) (decimal_mod (v * 10 + (b - 48)) r)

-- what is known of the number that is read from `from` on, where the code is at a place with a value
pub record Reading (s : List ℕ) (from at value : ℕ) : Type 0 where
  pub within : at ≤ length s
  pub fits : value < 4294967296
  pub rest : decimal value (digits_of (drop at s)) % 4294967296
      ≡ decimal 0 (digits_of (to_digit false (drop from s))) % 4294967296
  pub place : at + length (digits_of (drop at s))
      ≡ length s - length (to_digit false (drop from s)) + length (digits_of (to_digit false (drop from s)))

pub start : (s : List ℕ) (from p : ℕ) → p ≤ length s → drop p s ≡ to_digit false (drop from s) → Reading s from p 0
start s from p h e =
    let l : length (drop p s) ≡ length s - p = length-drop p s in
    let f : p ≡ length s - length (drop p s) = omega arith in
    record {
      within = h;
      fits = omega arith;
      rest = rw e;
      place = rw (← e) (ap (λ (k : ℕ). k + length (digits_of (drop p s))) f);
    }

module _ (s : List ℕ) (from at value : ℕ) (known : Reading s from at value) where
  none_left : at < length s → is_ascii_digit (get_or s at 0) ≡ false → digits_of (drop at s) ≡ []
  unfolding digits_of
  none_left h e = rw (drop-cons s at 0 h, e)

  one_left : at < length s → is_ascii_digit (get_or s at 0) ≡ true
      → digits_of (drop at s) ≡ get_or s at 0 ∷ digits_of (drop (at + 1) s)
  unfolding digits_of
  one_left h e = rw (drop-cons s at 0 h, e, add-one at)

  pub stops : at < length s → is_ascii_digit (get_or s at 0) ≡ false → number value at ≡ number_at s from
  unfolding number_at decimal
  stops h e =
      let none = none_left h e in
      let left = to_digit false (drop from s) in
      let v : value ≡ decimal 0 (digits_of left) % 4294967296 =
      sym (mod-eq_of_lt known.fits) ∙ (rw none at known.rest) in
      let p : length s - length left + length (digits_of left) ≡ at = sym (rw (none, add-zero at) at known.place) in
      rw (p, ne_eqb at (length s) (λ q. omega arith), ← v)

  pub ends : length s ≤ at → number 0 (length s) ≡ number_at s from
  unfolding number_at digits_of
  ends h =
      let left = to_digit false (drop from s) in
      let none : drop at s ≡ [] = drop_of_length-le s {i = at} h in
      let q : at ≡ length s = omega (arith, known.within) in
      let p : length s - length left + length (digits_of left) ≡ length s =
      sym (rw (none, add-zero at) at known.place) ∙ q in
      rw (p, eq-eqb (length s) (length s) refl)

  pub turn : (v : ℕ) → at < length s → is_ascii_digit (get_or s at 0) ≡ true
      → v ≡ (value * 10 + (get_or s at 0 - 48)) % 4294967296
      → Reading s from (at + 1) v
  unfolding decimal
  turn v h e q =
      let one = one_left h e in
      let b = get_or s at 0 in
      record {
        within = omega arith;
        fits = rw q (mod-lt (value * 10 + (b - 48)) (omega arith));
        rest =
            rw q (decimal_mod (value * 10 + (b - 48)) (digits_of (drop (at + 1) s)) ∙ (rw one at known.rest));
        place =
            let p : at + suc (length (digits_of (drop (at + 1) s)))
            ≡ length s - length (to_digit false (drop from s)) + length (digits_of (to_digit false (drop from s))) =
            rw one at known.place in
            omega arith;
      }
