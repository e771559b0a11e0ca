-- The laws of `recheck`: two permitted answers are equal, whatever the slices held before; and the header table that an
-- accepted check left, with its text, is never refused with 42.
use Prim.Native.Nat.{ℕ, ◌-◌, ◌≤◌, ◌<◌}
use mathlib.Core.Path.{◌≡◌, refl, sym, ap, ◌∙◌}
use mathlib.Core.Logic.{inl, inr}
use mathlib.Core.List.{List}
use mathlib.Core.Bool.{Bool, true, false}
use native.Mathlib.Nat.{zero-add}
use native.Mathlib.Omega.{arith}
use borrow.Author.Tests.{ltb-false}
use lib.ListN.{length, get_or, replicate, length-append, length-replicate}
use Rattle.utils.specs.Bytes.{pick, pad_to}
use Rattle.lexer.specs.Read.{read_of}
use Rattle.lexer.proofs.Sound.{read_sound}
use Rattle.functions.specs.Answer.{Slices}
use Rattle.functions.proofs.Laid.{functions-counted}
use Rattle.unit.specs.Outcome.{none}
use Rattle.checker.specs.Check.{Checking, check_refusal, check_of}
use Rattle.checker.specs.Promise.{checking, padded, sized, sized_unit, all_sized, check_def, Checks}
use Rattle.checker.specs.Numbers.{Accepts, Numbered}
use Rattle.checker.specs.declared.CheckAnswer.{CheckAnswer}
use Rattle.checker.proofs.Ends.{as_whole, gives_equal, SameLengths, same-gated}
use Rattle.checker.proofs.Numbers as numbers
use Rattle.checker.proofs.Header.{written_in_range}
use Rattle.recheck.specs.Recheck.{recheck_of}
use Rattle.recheck.specs.Promise.{recheck_def, Rechecks}
use Rattle.headers.proofs.Ranges.{neither, Tabled, in_range_table}
use Rattle.recheck.proofs.Numbers.{forty_two-is_the_table, gate_gives_thirty}

-- Equal answers. -----------------------------------------------------------------------------------------------------

module _ (old table : List ℕ) (number : ℕ) (new : List ℕ) where
  -- TWO PERMITTED ANSWERS ARE EQUAL
  pub permitted_equal : (m₀ t₀ n₀ : List ℕ) (u₀ : Slices) {r r' : CheckAnswer} {m t n m' t' n' : List ℕ} {u u' : Slices}
      → Rechecks old table number new m₀ t₀ n₀ u₀ r m t n u → Rechecks old table number new m₀ t₀ n₀ u₀ r' m' t' n' u'
      → checking r m t n u ≡ checking r' m' t' n' u'
  permitted_equal m₀ t₀ n₀ u₀ a b = gives_equal a b

  -- EQUAL INPUTS AND LENGTHS GIVE EQUAL ANSWERS, whatever the slices held before
  pub same_inputs : {m₀ t₀ n₀ m₁ t₁ n₁ : List ℕ} {u₀ u₁ : Slices} {r r' : CheckAnswer} {m t n m' t' n' : List ℕ}
      {u u' : Slices}
      → all_sized m₀ t₀ n₀ u₀ ≡ true → SameLengths m₀ t₀ n₀ u₀ m₁ t₁ n₁ u₁
      → Rechecks old table number new m₀ t₀ n₀ u₀ r m t n u → Rechecks old table number new m₁ t₁ n₁ u₁ r' m' t' n' u'
      → checking r m t n u ≡ checking r' m' t' n' u'
  unfolding recheck_def
  same_inputs s l a b = same-gated (recheck_of old table number new) s l a b

  -- A SLICE SHORTER THAN ITS SIZE: 30, and every slice as it was
  pub short_unwritten : (m₀ t₀ n₀ : List ℕ) (u₀ : Slices) {r : CheckAnswer} {m t n : List ℕ} {u : Slices}
      → all_sized m₀ t₀ n₀ u₀ ≡ false → Rechecks old table number new m₀ t₀ n₀ u₀ r m t n u
      → checking r m t n u ≡ checking (check_refusal 30 0 0) m₀ t₀ n₀ u₀
  short_unwritten m₀ t₀ n₀ u₀ s a = as_whole a ∙ gate_gives_thirty old table number new m₀ t₀ n₀ u₀ s

-- The table of an accepted check. ------------------------------------------------------------------------------------

-- the header table's slice has its size
table-long : (m t n : List ℕ) (u : Slices) → all_sized m t n u ≡ true → 2881 ≤ length u.functions
unfolding sized sized_unit
table-long m t n u h =
    let a = neither _ _ h in
    let b = neither _ _ a.1 in
    let d = neither _ _ b.1 in
    ltb-false _ _ (neither _ _ d.1).0

-- padding gives a list its length at least
pub padded-long : (k : ℕ) (l : List ℕ) → k ≤ length (pad_to k l)
padded-long k l =
    omega (arith, length-append l (replicate (k - length l) 0), length-replicate {A = ℕ} (k - length l) 0)

-- and its first cell is how many functions there are
pub first_cell_lem : (text : List ℕ) (k : ℕ) → Accepts text
    → (check_of text).answer.functions ≡ get_or (pad_to k (check_of text).unit.functions) 0 0
unfolding check_of read_of pick
first_cell_lem text k a = rw (a.lexed, a.typed) (functions-counted none a.functions ∙ zero-add (length a.functions))

-- 0 is the number of an accepted text alone
pub zero-accepts : (text : List ℕ) (k : ℕ) → Numbered text k → k ≡ 0 → Accepts text
zero-accepts text k (inl h) e = h.0
zero-accepts text k (inr (f, l)) e = absurd (omega (arith, numbers.listed_above k l, e))

-- a table that is one gives no 42
pub table-not_42 : (old table : List ℕ) (number : ℕ) (new : List ℕ) → Tabled old table number
    → (recheck_of old table number new).answer.number ≡ 42 → ⊥
table-not_42 old table number new v e =
    not-both (in_range_table old table number v) (forty_two-is_the_table old table number new e)
  where
    not-both : {b : Bool} → b ≡ true → b ≡ false → ⊥
    not-both p q = let z : ◌≡◌ {A = ℕ} 0 1 = cc in omega arith

module _ (text m₀ t₀ n₀ : List ℕ) (u₀ : Slices) (r : CheckAnswer) (m t n : List ℕ) (u : Slices)
    (p : Checks text m₀ t₀ n₀ u₀ r m t n u) (z : r.number ≡ 0) where
  was_sized : all_sized m₀ t₀ n₀ u₀ ≡ true
  was_sized = by (all_sized m₀ t₀ n₀ u₀) refl
    where
      by : (b : Bool) → all_sized m₀ t₀ n₀ u₀ ≡ b → b ≡ true
      by true e = refl
      by false e =
          absurd (omega (
            arith,
            z,
            ap (λ (a : CheckAnswer). a.number) p.answer,
            numbers.gate_gives_thirty text m₀ t₀ n₀ u₀ e,
          ))

  as_checked : checking r m t n u ≡ padded m₀ t₀ n₀ u₀ (check_of text)
  unfolding check_def pick
  as_checked = as_whole p ∙ rw was_sized

  was_accepted : Accepts text
  was_accepted =
      zero-accepts text _ (numbers.every_number text) (sym (ap (λ (k : Checking). k.answer.number) as_checked) ∙ z)

  count_written : r.functions ≡ get_or u.functions 0 0
  count_written =
      ap (λ (k : Checking). k.answer.functions) as_checked
      ∙ first_cell_lem text (length u₀.functions) was_accepted
      ∙ sym (ap (λ (k : Checking). get_or k.unit.functions 0 0) as_checked)

  -- THE TABLE OF AN ACCEPTED CHECK IS ONE, with its text, for each of its functions
  pub written_table : (number : ℕ) → number < r.functions → Tabled text u.functions number
  written_table number l =
      let long : length u.functions ≡ length (pad_to (length u₀.functions) (check_of text).unit.functions) =
      ap (λ (k : Checking). length k.unit.functions) as_checked in
      record {
        short = (read_sound 1 text was_accepted.tokens was_accepted.names was_accepted.lexed).short;
        sized = omega (
          arith,
          long,
          table-long m₀ t₀ n₀ u₀ was_sized,
          padded-long (length u₀.functions) (check_of text).unit.functions,
        );
        there = omega (arith, l, count_written);
        in_range = written_in_range text m₀ t₀ n₀ u₀ r m t n u p (λ e. omega (arith, z, e));
      }

  -- SO IT IS NEVER REFUSED WITH 42 ..
  pub never_42 : (number : ℕ) → number < r.functions → (new : List ℕ)
      → (recheck_of text u.functions number new).answer.number ≡ 42 → ⊥
  never_42 number l new e = table-not_42 text u.functions number new (written_table number l) e

  -- .. in any answer that is permitted
  pub never_answered_42 : (number : ℕ) → number < r.functions → (new m₁ t₁ n₁ : List ℕ) (u₁ : Slices)
      {r' : CheckAnswer} {m' t' n' : List ℕ} {u' : Slices}
      → Rechecks text u.functions number new m₁ t₁ n₁ u₁ r' m' t' n' u' → r'.number ≡ 42 → ⊥
  unfolding recheck_def pick
  never_answered_42 number l new m₁ t₁ n₁ u₁ g e =
      by (all_sized m₁ t₁ n₁ u₁) refl (sym (ap (λ (a : CheckAnswer). a.number) g.answer) ∙ e)
    where
      by : (b : Bool) → all_sized m₁ t₁ n₁ u₁ ≡ b
          → (recheck_def text u.functions number new m₁ t₁ n₁ u₁).answer.number ≡ 42 → ⊥
      by true s h = never_42 number l new (rw s at h)
      by false s h = omega (arith, rw s at h)
