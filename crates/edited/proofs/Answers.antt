-- What check and recheck answer once their texts are lexed: by what parsing and typing make of the tokens.
use Prim.Native.Nat.{ℕ}
use mathlib.Core.Path.{◌≡◌, refl}
use mathlib.Core.Bool.{Bool, true, false}
use mathlib.Core.List.{List}
use lib.ListN.{get_or}
use Rattle.utils.specs.Bytes.{pick, same_bytes}
use Rattle.pieces.specs.declared.Token.{Token}
use Rattle.lexer.specs.Numbered as lexes
use Rattle.lexer.specs.Numbered.{Part, tokens_cells, names_cells}
use Rattle.lexer.specs.Read.{lexed_from, read_from, read_of}
use Rattle.lexer.specs.Decoded.{Tok, tokens_of}
use Rattle.functions.specs.Columns.{type_at, line_at}
use Rattle.functions.specs.Rows.{signed_at}
use Rattle.unit.specs.Outcome.{UnitOutcome, unit_d}
use Rattle.checker.specs.Check.{checked_or, check_of}
use Rattle.headers.specs.Table.{is_table}
use Rattle.headers.specs.Spelled.{row_name, globals_spelled, callees_spelled}
use Rattle.headers.specs.Kept.{is_whole, keeps}
use Rattle.recheck.specs.Recheck.{function_alone, verdict_as, recheck_of}

-- Check. ------------------------------------------------------------------------------------------------------------

pub checked_as : (text : List ℕ) (toks : List Token) (ns : List Part) (o : UnitOutcome)
    → lexed_from 1 text ≡ lexes.Outcome.done toks ns → unit_d (tokens_of (tokens_cells toks)) ≡ o
    → check_of text ≡ checked_or text (read_from 1 text) (tokens_of (tokens_cells toks)) o
unfolding check_of read_of pick
checked_as text toks ns o p q = rw (p, q)

-- Recheck. ----------------------------------------------------------------------------------------------------------

-- a new text that begins and ends as one function and keeps the header is what its tokens are
pub record Alone (old table : List ℕ) (k : ℕ) (new : List ℕ) (toks : List Token) (ns : List Part) : Type 0 where
  pub whole : is_whole new (tokens_of (tokens_cells toks)) ≡ true
  pub kept : keeps (same_bytes (row_name old table k)) (signed_at table k) new (names_cells ns)
      (tokens_of (tokens_cells toks))
      ≡ true
  pub answer : recheck_of old table k new
      ≡ verdict_as new (read_from (get_or table (line_at k) 0) new) (tokens_of (tokens_cells toks))
      (callees_spelled old table new (names_cells ns)) (get_or table (type_at k) 0)
      (function_alone (tokens_of (tokens_cells toks)) (globals_spelled old table new (names_cells ns)))

pub rechecked_as_lem : (old table : List ℕ) (k : ℕ) (new : List ℕ) (toks : List Token) (ns : List Part)
    → is_table old table k ≡ true → lexed_from (get_or table (line_at k) 0) new ≡ lexes.Outcome.done toks ns
    → ((recheck_of old table k new).answer.number ≡ 40 → ⊥) → ((recheck_of old table k new).answer.number ≡ 41 → ⊥)
    → Alone old table k new toks ns
unfolding recheck_of pick
rechecked_as_lem old table k new toks ns t p not40 not41 =
    by (is_whole new ts) (keeps (same_bytes (row_name old table k)) (signed_at table k) new (names_cells ns) ts) refl
    refl
  where
    ts : List Tok
    ts = tokens_of (tokens_cells toks)

    by : (b d : Bool) → is_whole new ts ≡ b
        → keeps (same_bytes (row_name old table k)) (signed_at table k) new (names_cells ns) ts ≡ d
        → Alone old table k new toks ns
    by true true e f = record { whole = e; kept = f; answer = rw (t, p, e, f) }
    by true false e f = absurd (not41 (rw (t, p, e, f)))
    by false d e f = absurd (not40 (rw (t, p, e)))
