-- A text with number 0: its tokens and names as they were lexed, its functions, and all that its slices hold.
use Prim.Native.Nat.{ℕ, zero, suc, ◌<◌}
use mathlib.Core.Path.{◌≡◌, refl, sym, ap, ◌∙◌}
use mathlib.Core.List.{List, [], ◌∷◌, append-nil}
use native.Mathlib.Omega.{arith}
use native.Mathlib.Nat.{zero-add}
use lib.ListN.{length}
use Rattle.utils.specs.Bytes.{pick}
use Rattle.lexer.specs.Numbered.{Outcome, tokens_cells, names_cells}
use Rattle.lexer.specs.Read.{reading_of, read_of}
use Rattle.lexer.specs.Sound.{Sound}
use Rattle.lexer.specs.Decoded.{tokens_of}
use Rattle.lexer.proofs.Sound.{read_sound}
use Rattle.functions.specs.Functions.{Function}
use Rattle.functions.proofs.Laid.{functions-counted}
use Rattle.unit.specs.Outcome.{checked, unit_d, unit_slices, none}
use Rattle.checker.specs.Check.{Checking, checked_or, check_of}
use Rattle.checker.specs.Numbers.{Accepts}
use Rattle.checker.proofs.Numbers.{every_number}
use Rattle.recheck.proofs.Laws.{zero-accepts}
use Rattle.related.specs.Tables.{All}
use Rattle.related.specs.Runs.{start}
use Rattle.related.proofs.Running.{cut}
use Rattle.related.proofs.Edited.{accepted-by}
use Rattle.edited.specs.Rows.{tokens_read, names_read, Split, NamedAt}
use Rattle.edited.proofs.Names.{run-named}

-- function k is there
pub split_at : (fs : List Function) (k : ℕ) → k < length fs → Split fs k
split_at [] k h = absurd (omega arith)
split_at (f ∷ fs) zero h = record { before = []; function = f; behind = fs; all = refl; counted = refl }
split_at (f ∷ fs) (suc k) h =
    let s = split_at fs k (omega arith) in
    record {
      before = f ∷ s.before;
      function = s.function;
      behind = s.behind;
      all = ap (λ (l : List Function). f ∷ l) s.all;
      counted = ap suc s.counted;
    }

-- A TEXT WITH NUMBER 0 IS LEXED, PARSED AND TYPED
pub accepted-text : (text : List ℕ) → (check_of text).answer.number ≡ 0 → Accepts text
accepted-text text z = zero-accepts text _ (every_number text) z

module _ (text : List ℕ) (a : Accepts text) where
  pub sound : Sound text 1 a.tokens a.names
  sound = read_sound 1 text a.tokens a.names a.lexed

  -- it checks as its functions
  whole : check_of text
      ≡ checked_or text (reading_of (Outcome.done a.tokens a.names)) (tokens_of (tokens_cells a.tokens))
      (checked a.functions)
  unfolding check_of read_of pick
  whole = rw (a.lexed, a.typed)

  pub tokens_are : (check_of text).tokens ≡ tokens_cells a.tokens
  tokens_are = ap (λ (c : Checking). c.tokens) whole

  pub names_are : (check_of text).names ≡ names_cells a.names
  names_are = ap (λ (c : Checking). c.names) whole

  pub typed_so : unit_d (tokens_read text) ≡ checked a.functions
  typed_so = ap (λ (l : List ℕ). unit_d (tokens_of l)) tokens_are ∙ a.typed

  pub unit-is : (check_of text).unit ≡ unit_slices (tokens_read text) (names_read text) (checked a.functions)
  unit-is =
      ap (λ (c : Checking). c.unit) whole
      ∙ ap (λ (l : List ℕ). unit_slices (tokens_of l) (names_cells a.names) (checked a.functions)) (sym tokens_are)
      ∙ ap (λ (l : List ℕ). unit_slices (tokens_read text) l (checked a.functions)) (sym names_are)

  pub functions_are : (check_of text).answer.functions ≡ length a.functions
  functions_are =
      ap (λ (c : Checking). c.answer.functions) whole
      ∙ functions-counted none a.functions ∙ zero-add (length a.functions)

  -- each of its functions has its name where it begins
  pub names_there : All (NamedAt (tokens_read text)) a.functions
  names_there =
      let parsed = accepted-by (tokens_read text) a.functions typed_so in
      run-named
      (cut (tokens_read text) 64 start a.functions [] (parsed.functions ∙ sym (append-nil a.functions))).run
