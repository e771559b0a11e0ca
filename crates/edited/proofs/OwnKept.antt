-- The own text of function k of an accepted text is read alone as that function, and keeps its header: recheck gives
-- neither 40 nor 41.
use Prim.Native.Nat.{ℕ, ◌+◌, ◌-◌, ◌<◌}
use mathlib.Core.Path.{◌≡◌, sym, ap, ◌∙◌}
use mathlib.Core.Bool.{true, false}
use mathlib.Core.List.{List, []}
use native.Mathlib.Omega.{arith}
use lib.ListN.{length, get_or}
use Rattle.utils.specs.Bytes.{pick, same_bytes}
use Rattle.pieces.specs.declared.Token.{Token}
use Rattle.pieces.specs.declared.Identifier.{Identifier}
use Rattle.lexer.specs.Numbered as lexes
use Rattle.lexer.specs.Numbered.{Part, names_cells}
use Rattle.lexer.specs.Read.{lexed_from, reading_of}
use Rattle.lexer.specs.Decoded.{Tok, name_of}
use Rattle.lexer.proofs.Same.{same_bytes-refl}
use Rattle.parser.specs.Moved.{SimName}
use Rattle.parser.specs.declared.Ty.{Ty}
use Rattle.functions.specs.Known.{signature}
use Rattle.functions.specs.Functions.{Function, function, then_function, function_d}
use Rattle.functions.specs.Rows.{signed_at}
use Rattle.functions.proofs.SimFunctions.{signature_of_s}
use Rattle.checker.specs.Check.{check_of}
use Rattle.functions.specs.Columns.{line_at}
use Rattle.checker.specs.Numbers.{Accepts}
use Rattle.checker.proofs.TypedNumbers.{function-fine}
use Rattle.unit.specs.Outcome.{untyped}
use Rattle.headers.specs.Table.{is_table}
use Rattle.headers.specs.Spelled.{row_name, globals_spelled}
use Rattle.headers.specs.Kept.{is_whole, keeps}
use Rattle.recheck.specs.Recheck.{typed_as, alone_d, function_alone, recheck_of}
use Rattle.recheck.proofs.Keeping.{kept_same}
use Rattle.edited.specs.Demand3.{table_of, rechecked_as}
use Rattle.edited.specs.Itself.{own_text}
use Rattle.edited.specs.Spelled.{tokens_in}
use Rattle.edited.proofs.Accepted.{names_are}
use Rattle.sema.specs.Program.{function_typed}
use Rattle.edited.proofs.Low.{typed-low, answer-low}
use Rattle.edited.proofs.Rows.{is_table_lem}
use Rattle.edited.proofs.Located.{ts, there, s, typed, stands, row}
use Rattle.edited.proofs.ReadAlone.{ReadFree, accepted_free, ReadOwn, read-own}
use Rattle.edited.proofs.OwnTokens.{f, own-tokens, own-names, own-lexes, move, own-moves, own_many, own-spelled}
use Rattle.edited.proofs.OwnTokens.{own-ends, own-whole}

-- A new text that is read and keeps its header. ----------------------------------------------------------------------

rechecked-low : (old table : List ℕ) (k : ℕ) (new : List ℕ) (toks : List Token) (ns : List Part) (g : Function)
    → is_table old table k ≡ true → lexed_from (get_or table (line_at k) 0) new ≡ lexes.Outcome.done toks ns
    → is_whole new (tokens_in toks) ≡ true
    → keeps (same_bytes (row_name old table k)) (signed_at table k) new (names_cells ns) (tokens_in toks) ≡ true
    → alone_d (tokens_in toks) ≡ function g → (recheck_of old table k new).answer.number < 40
unfolding recheck_of function_alone then_function pick
rechecked-low old table k new toks ns g t p w h e =
    rw (t, p, w, h, e)
    (answer-low new (reading_of (lexes.Outcome.done toks ns)) (tokens_in toks) _ _
    (typed_as g (function_typed (tokens_in toks) (globals_spelled old table new (names_cells ns)) g untyped))
    (typed-low g (function-fine (tokens_in toks) (globals_spelled old table new (names_cells ns)) g untyped)))

-- Function k, by its own text. ---------------------------------------------------------------------------------------

module _ (old : List ℕ) (k : ℕ) (a : Accepts old) (one : k < (check_of old).answer.functions) where
  abbrev replaced : Function
  replaced = f old k a one

  abbrev own : List ℕ
  own = own_text old k

  abbrev cells : List ℕ
  cells = names_cells (own-names old k a one)

  abbrev alone : List Tok
  alone = tokens_in (own-tokens old k a one)

  abbrev size : ℕ
  size = length (own-tokens old k a one) - 1

  free : ReadFree (ts old k a one) replaced.token replaced
  free = accepted_free (ts old k a one) (s old k a one).before replaced (s old k a one).behind (typed old k a one)

  -- it is read alone as it is read in its text
  read : ReadOwn (move old k a one) size alone free.free
  read =
      let h = stands old k a one in
      let many = own_many old k a one in
      let at : replaced.token + 0 ≡ replaced.token = omega arith in
      read-own (own-moves old k a one) (omega (arith, many))
      (ap (function_d (ts old k a one) false [] 0) at ∙ free.is)
      (ap (λ (g : Function). g.next) free.same ∙ omega (arith, many, h.behind, h.order)) (own-ends old k a one)

  abbrev new : Function
  new = read.own

  -- its name is spelled as its row's, and its function type is its row's
  same_name : {g g' : Identifier} → SimName (move old k a one) g g'
      → name_of old (names_cells a.names) g.0 ≡ name_of own cells g'.0
  same_name (SimName.renamed x h) = own-spelled old k a one x h

  name-kept : row_name old (table_of old) k ≡ name_of own cells new.head.name.0
  name-kept =
      (row old k a one).name
      ∙ ap (λ (l : List ℕ). name_of old l replaced.head.name.0) (names_are old a)
      ∙ ap (λ (g : Function). name_of old (names_cells a.names) g.head.name.0) (sym free.same)
      ∙ same_name read.same.head.name

  type-kept : signed_at (table_of old) k ≡ signature new.head.ret new.head.formals
  type-kept =
      (row old k a one).signed
      ∙ ap (λ (g : Function). signature g.head.ret g.head.formals) (sym free.same)
      ∙ signature_of_s free.free.head.ret read.same.head.formals
      ∙ ap (λ (t : Ty). signature t new.head.formals) read.same.head.ret

  kept : keeps (same_bytes (row_name old (table_of old) k)) (signed_at (table_of old) k) own cells alone ≡ true
  unfolding pick
  kept =
      kept_same (same_bytes (row_name old (table_of old) k)) (signed_at (table_of old) k) own cells alone new read.is
      ∙ rw (name-kept, type-kept, same_bytes-refl (name_of own cells new.head.name.0))
      (same_bytes-refl (signature new.head.ret new.head.formals))

  -- THE LAW
  pub own-low : (rechecked_as old k own).answer.number < 40
  own-low =
      rechecked-low old (table_of old) k own (own-tokens old k a one) (own-names old k a one) new
      (is_table_lem old a 2881 (omega arith) k (there old k a one)) (own-lexes old k a one) (own-whole old k a one) kept
      read.is
