-- How the recheck of a new text ends, over plain variables.
use Rattle.std.specs.Prelude.{Err, Ok}
use Prim.Native.Nat.{ℕ, ◌*◌, ◌-◌, ◌≤◌}
use mathlib.Core.Path.{◌≡◌, refl, sym, ap, subst, ◌∙◌}
use mathlib.Core.List.{List, [], ◌∷◌}
use mathlib.Core.Bool.{true, false}
use native.Mathlib.Omega.{arith}
use borrow.Author.Tests.{eq-eqb, ne_eqb}
use lib.ListN.{length, get_or, take, drop}
use Rattle.utils.specs.Bytes.{pick, pad_to}
use Rattle.lexer.specs.Read.{Reading, read_from, ReadsInto}
use Rattle.lexer.specs.Numbered.{names_cells}
use Rattle.lexer.specs.Decoded.{Tok, tokens_of}
use Rattle.lexer.specs.declared.ReadAnswer.{ReadAnswer}
use Rattle.parser.specs.declared.Refusal.{Refusal}
use Rattle.functions.specs.Columns.{type_at, line_at}
use Rattle.functions.specs.Answer.{Slices, counts_from}
use Rattle.functions.specs.declared.Counts.{Counts}
use Rattle.unit.specs.Outcome.{none}
use Rattle.checker.specs.Check.{Checking, accepted, check_refusal, refused_at}
use Rattle.checker.specs.Promise.{Lexed, ChecksInto}
use Rattle.checker.specs.declared.CheckAnswer.{CheckAnswer}
use Rattle.checker.proofs.Lexed.{is-done, used_names, read_names, unpadded, within}
use Rattle.checker.proofs.Ends.{accepted_as, refused-into, not-read, unread_into}
use Rattle.headers.specs.Table.{is_table}
use Rattle.headers.specs.Spelled.{callees_spelled, Named}
use Rattle.headers.specs.Kept.{is_whole}
use Rattle.recheck.specs.Recheck.{Verdict, refuses, accepts, verdict_d, verdict_slices, verdict_as, parsed_as}
use Rattle.recheck.specs.Recheck.{refused_with, recheck_of}
use Rattle.recheck.specs.Alone.{verdict_read, VerdictHeld}
use Rattle.recheck.specs.Numbers.{Listed}
use Rattle.recheck.proofs.Numbers.{IfRefused, verdict_listed, listed_above}
use Rattle.headers.proofs.Named.{accepted-named}
use Rattle.headers.proofs.Ranges.{table_in_range}

-- A new text that is read. -------------------------------------------------------------------------------------------

module _ (old table : List ℕ) (number : ℕ) (new m₀ m t n : List ℕ) (r : ReadAnswer)
    (good : is_table old table number ≡ true) (v : Lexed (get_or table (line_at number) 0) new r t n) where
  abbrev read : Reading
  read = read_from (get_or table (line_at number) 0) new

  abbrev ts : List Tok
  ts = tokens_of read.tokens

  abbrev type : ℕ
  type = get_or table (type_at number) 0

  goes_on : recheck_of old table number new ≡ parsed_as old table number new read ts
  unfolding recheck_of pick
  goes_on = rw (good, eq-eqb _ _ (sym (ap (λ (a : ReadAnswer). a.number) v.answer) ∙ v.fine))

  -- the same by the cells in use
  module _ (tk nm : List ℕ) (tk-is : tk ≡ read.tokens) (nm-is : nm ≡ read.names) where
    pub not-whole : is_whole new (tokens_of tk) ≡ false
        → recheck_of old table number new ≡ refused_with 40 (get_or table (line_at number) 0) 0
    unfolding pick
    not-whole h = goes_on ∙ rw (rw tk-is at h)

    module _ (whole : is_whole new ts ≡ true) where
      goes-on-whole : recheck_of old table number new
          ≡ verdict_as new read ts (callees_spelled old table new read.names) type
          (verdict_d old table number new read.names ts)
      unfolding pick
      goes-on-whole = goes_on ∙ rw whole

      -- by what the new function is
      abbrev callees : ℕ → ℕ
      callees = callees_spelled old table new read.names

      accepts-by : (k : Counts) (w : Verdict) (u : Slices) → Ok k ≡ verdict_read w
          → VerdictHeld ts read.names callees type u w
          → ChecksInto (verdict_as new read ts callees type w) m₀ (accepted r.tokens r.names k) m t n u
      accepts-by k (accepts f symbols) u h e =
          let counts-are : k ≡ counts_from none (f ∷ []) = cc in
          accepted_as v m₀ m k (counts_from none (f ∷ [])) u
          (verdict_slices ts read.names callees type (accepts f symbols)) counts-are e
      accepts-by k (refuses e') u h e = absurd (let z : ◌≡◌ {A = ℕ} 0 1 = cc in omega arith)

      refuses-by : (e : Refusal) (w : Verdict) → Err e ≡ verdict_read w → IfRefused w
          → (verdict_as new read ts callees type w ≡ refused_at new read.names ts e) × Listed e.number
      refuses-by e (accepts f symbols) h g = absurd (let z : ◌≡◌ {A = ℕ} 0 1 = cc in omega arith)
      refuses-by e (refuses e') h g =
          let same : e ≡ e' = cc in
          rw same (refl, g)

      pub ends-accepted : (k : Counts) (u : Slices)
          → Ok k ≡ verdict_read (verdict_d old table number new nm (tokens_of tk))
          → VerdictHeld (tokens_of tk) nm (callees_spelled old table new nm) type u
          (verdict_d old table number new nm (tokens_of tk))
          → ChecksInto (recheck_of old table number new) m₀ (accepted r.tokens r.names k) m t n u
      ends-accepted k u h e =
          rw goes-on-whole
          (accepts-by k (verdict_d old table number new read.names ts) u (rw (tk-is, nm-is) at h)
          (rw (tk-is, nm-is) at e))

      pub ends-refused : (e : Refusal) (res : CheckAnswer) (u : Slices)
          → Err e ≡ verdict_read (verdict_d old table number new nm (tokens_of tk))
          → res ≡ (refused_at new (take (r.names * 2) n) (tokens_of (take (r.tokens * 4) t)) e).answer
          → m ≡ pad_to (length m₀) (refused_at new (take (r.names * 2) n) (tokens_of (take (r.tokens * 4) t)) e).message
          → ChecksInto (recheck_of old table number new) m₀ res m t n u
      ends-refused e res u h a b =
          let k = refuses-by e (verdict_d old table number new read.names ts) (rw (tk-is, nm-is) at h)
          (verdict_listed ts (within v) old table number new read.names) in
          rw (a, v.tokens)
          (refused-into (recheck_of old table number new) m₀ m t n u _ _ _ _ (goes-on-whole ∙ k.0)
          (λ z. omega (arith, z, listed_above _ k.1)) (rw (v.tokens, v.names) at b))

-- the names lent to the parser are its names
pub named_now : {line : ℕ} {new t n : List ℕ} {r : ReadAnswer} (v : Lexed line new r t n)
    → Named new (take (r.names * 2 - 0) (drop 0 n)) r.names
named_now {line} {new} {r = r} v =
    let d = is-done v in
    subst (λ (l : List ℕ). Named new l r.names)
    (sym (used_names v ∙ read_names v ∙ sym (unpadded (names_cells d.ns))))
    (subst (Named new (pad_to 0 (names_cells d.ns))) (sym d.counted_names) (accepted-named new line 0 d.ts
    d.ns d.sound))

-- Before it is read. -------------------------------------------------------------------------------------------------

pub bad_table : (old table : List ℕ) (number : ℕ) (new : List ℕ) → is_table old table number ≡ false
    → recheck_of old table number new ≡ refused_with 42 0 0
unfolding recheck_of pick
bad_table old table number new h = rw h

-- a line of the table is one that a text of that size has
pub line_small : (old table : List ℕ) (number : ℕ) → is_table old table number ≡ true → (k : ℕ)
    → k ≡ get_or table (line_at number) 0 → k ≤ 2147483648
line_small old table number good k e =
    let v = table_in_range old table number good in
    omega (arith, e, (v.in_range.each number v.there).line.1)

-- a new text that isn't read
pub not-lexed : (line : ℕ) (new m₀ : List ℕ) (r : ReadAnswer) (t n m : List ℕ)
    → ReadsInto (read_from line new) m₀ r t n m → (old table : List ℕ) (number : ℕ)
    → is_table old table number ≡ true → line ≡ get_or table (line_at number) 0 → (r.number ≡ 0 → ⊥) → (u : Slices)
    → ChecksInto (recheck_of old table number new) m₀ (check_refusal r.number r.line r.place) m t n u
unfolding recheck_of pick
not-lexed line new m₀ r t n m reads old table number good same z u =
    unread_into line new m₀ r t n m reads (recheck_of old table number new)
    (rw (good, ← same, ne_eqb _ _ (not-read line new m₀ r t n m reads z))) z u

-- a refusal at no token
pub refused_with_lem : (o : Checking) (number line : ℕ) (res : CheckAnswer) (m₀ m t n : List ℕ) (u : Slices)
    → o ≡ refused_with number line 0 → (number ≡ 0 → ⊥) → res ≡ (refused_with number line 0).answer
    → m ≡ pad_to (length m₀) (refused_with number line 0).message → ChecksInto o m₀ res m t n u
refused_with_lem o number line res m₀ m t n u e some a b =
    rw a (refused-into o m₀ m t n u number line 0 _ e some b)
