-- How a function of an accepted text reads, by what it is related to: tokens, a function and records of another
-- reading, from which it is moved and renamed. Two functions that are related to the same read the same.
use Prim.Native.Nat.{ℕ, suc, ◌+◌, ◌-◌, ◌<◌}
use mathlib.Core.Path.{◌≡◌, refl, sym, ap, subst, ◌∙◌}
use mathlib.Core.List.{List, [], ◌∷◌, ◌++◌, append-nil}
use native.Mathlib.Omega.{arith}
use lib.ListN.{length, get_or}
use Rattle.pieces.specs.declared.Token.{Token}
use Rattle.lexer.specs.Numbered.{tokens_cells, names_cells}
use Rattle.lexer.specs.Decoded.{Tok, tokens_of, token_at, name_of}
use Rattle.lexer.specs.declared.TokenAt.{TokenAt}
use Rattle.parser.specs.Moved.{Move, Sim}
use Rattle.functions.specs.Functions.{Function}
use Rattle.functions.specs.Answer.{counts_from}
use Rattle.functions.specs.declared.Counts.{Counts}
use Rattle.functions.proofs.Heads.{formals_few}
use Rattle.sema.specs.Program.{globals_of, function_typed}
use Rattle.elaborate.specs.Types.{callee_in}
use Rattle.unit.specs.Outcome.{checked, unit_d, slices_of, tables_of, none, untyped}
use Rattle.checker.specs.Check.{check_of}
use Rattle.checker.specs.Numbers.{Accepts}
use Rattle.related.specs.Runs.{Place, start, Run}
use Rattle.functions.specs.Moved.{SimFunction}
use Rattle.related.specs.Written.{Written, SimWritten}
use Rattle.related.specs.Reading.{written_in}
use Rattle.related.proofs.Running.{cut}
use Rattle.related.proofs.Entry.{function_up_to}
use Rattle.related.proofs.Edited.{accepted-by}
use Rattle.edited.specs.Reading.{Own, firsts_of, seen_own, reading_from, own_of, reading_of, moved_reading}
use Rattle.edited.specs.Spelled.{tokens_in}
use Rattle.edited.specs.Standing.{own_written, FewFormals, Stands}
use Rattle.edited.proofs.Placed.{Placed, function_placed}
use Rattle.edited.proofs.Replacing.{last-kind}
use Rattle.edited.proofs.Accepted.{sound, tokens_are, names_are, unit-is}
use Rattle.edited.proofs.Cells.{own-cells}
use Rattle.edited.proofs.Alike.{Laid, laid}
use Rattle.edited.proofs.Same.{read, own_line, same_lines, same-moved}

-- A function that is read has 16 formals at most. -------------------------------------------------------------------

run-few : {ts : List Tok} {p : Place} {fs : List Function} → Run ts p fs → FewFormals fs
run-few Run.none = tt
run-few {ts} {p} (Run.more {f = f} h e r) =
    let u = function_up_to ts p.known p.types p.at f e in
    (omega (arith, formals_few ts u.at1, ap length u.listed), run-few r)

pub accepted-few : (ts : List Tok) (fs : List Function) → unit_d ts ≡ checked fs → FewFormals fs
accepted-few ts fs e = run-few (cut ts 64 start fs [] ((accepted-by ts fs e).functions ∙ sym (append-nil fs))).run

-- The tables that typing leaves, one a function. --------------------------------------------------------------------

module _ (ts : List Tok) (all : List Function) where
  tables-split : (fs gs : List Function) → tables_of ts all (fs ++ gs) ≡ tables_of ts all fs ++ tables_of ts all gs
  unfolding tables_of
  tables-split [] gs = refl
  tables-split (f ∷ fs) gs = rw (tables-split fs gs)

  tables-long : (fs : List Function) → length (tables_of ts all fs) ≡ length fs
  unfolding tables_of
  tables-long [] = refl
  tables-long (f ∷ fs) = ap suc (tables-long fs)

-- A function of an accepted text. -----------------------------------------------------------------------------------

module _ (text : List ℕ) (a : Accepts text) (before : List Function) (g : Function) (behind : List Function)
    (whole : a.functions ≡ before ++ (g ∷ behind)) where
  abbrev n : Counts
  n = counts_from none before

  -- what is written for it
  abbrev pub written : Written
  written = written_in (tokens_in a.tokens) (names_cells a.names) a.functions n g

  stands : Stands (check_of text) (tokens_of (check_of text).tokens) (callee_in a.functions) before g
      (function_typed (tokens_of (check_of text).tokens) (globals_of a.functions) g untyped).table
  unfolding tables_of
  stands =
      let ts = tokens_of (check_of text).tokens in
      let fs = a.functions in
      let tables : tables_of ts fs fs
      ≡ tables_of ts fs before ++ ((function_typed ts (globals_of fs) g untyped).table ∷ tables_of ts fs behind) =
      ap (tables_of ts fs) whole ∙ tables-split ts fs before (g ∷ behind) in
      record {
        behind = behind;
        tables = tables_of ts fs before;
        more = tables_of ts fs behind;
        unit =
            unit-is text a
            ∙ ap (λ (l : List (List ℕ)). slices_of ts (check_of text).names (callee_in fs) fs l) tables
            ∙ ap (λ (l : List Function). slices_of ts (check_of text).names (callee_in fs) l
            (tables_of ts fs before ++ ((function_typed ts (globals_of fs) g untyped).table ∷ tables_of ts fs behind)))
            whole;
        even = tables-long ts fs before;
        few = subst FewFormals whole (accepted-few (tokens_in a.tokens) fs a.typed);
      }

  own_is : own_of (check_of text) (length before) ≡ own_written (tokens_cells a.tokens) g written
  own_is =
      own-cells stands
      ∙ ap (λ (l : List ℕ). own_written l g (written_in (tokens_of l) (check_of text).names a.functions n g))
      (tokens_are text a)
      ∙ ap (λ (l : List ℕ). own_written (tokens_cells a.tokens) g
      (written_in (tokens_in a.tokens) l a.functions n g)) (names_are text a)

  pub reads : (first : ℕ) → reading_from first text (check_of text) (length before)
      ≡ read (name_of text (names_cells a.names)) first (tokens_cells a.tokens) g written
  reads first =
      ap (λ (own : Own). seen_own (firsts_of (name_of text (check_of text).names) first own) own) own_is
      ∙ ap (λ (l : List ℕ). read (name_of text l) first (tokens_cells a.tokens) g written) (names_are text a)

  pub reads-moved : moved_reading text (check_of text) (length before)
      ≡ read (name_of text (names_cells a.names)) (own_line (tokens_cells a.tokens) g written)
      (tokens_cells a.tokens) g written
  unfolding moved_reading
  reads-moved =
      ap (λ (own : Own). reading_from (get_or own.row 5 0) text (check_of text) (length before)) own_is
      ∙ reads (own_line (tokens_cells a.tokens) g written)

  -- where it stands
  pub there : Placed (tokens_in a.tokens) (length a.tokens - 1) g
  there =
      function_placed (tokens_in a.tokens) (length a.tokens - 1) (last-kind (sound text a)) before g behind
      (a.typed ∙ ap checked whole)

-- What it is related to. --------------------------------------------------------------------------------------------

-- f and w are a function and its records in the tokens ts, whose names spell so; g stands in the accepted text
pub record Side (text : List ℕ) (a : Accepts text) (g : Function) (ts : List Token) (f : Function) (w : Written)
    (spells : ℕ → List ℕ) : Type 0 where
  pub move : Move
  pub size : ℕ
  pub tokens : Sim move size (tokens_in a.tokens) (tokens_in ts)
  pub function : SimFunction move size g f
  pub written_as : (n : Counts)
      → SimWritten move n (written_in (tokens_in a.tokens) (names_cells a.names) a.functions n g) w
  pub names : (x : ℕ) → x < move.names → name_of text (names_cells a.names) (move.name x) ≡ spells x

module _ {text : List ℕ} {a : Accepts text} {g : Function} {ts : List Token} {f : Function} {w : Written}
    {spells : ℕ → List ℕ} (s : Side text a g ts f w spells) (d : Laid f w) (before behind : List Function)
    (whole : a.functions ≡ before ++ (g ∷ behind)) where
  on : f.token < f.next
  on =
      let q = there text a before g behind whole in
      omega (arith, q.order, s.function.token, s.function.next)

  not_end : (token_at (tokens_in ts) (f.next - 1)).kind ≡ 38 → ⊥
  not_end e =
      let q = there text a before g behind whole in
      let i : s.move.by + (f.next - 1) ≡ q.brace = omega (arith, q.behind, s.function.next, on) in
      let same = ap (λ (t : TokenAt). t.kind)
      (s.tokens.same (f.next - 1) (omega (arith, s.function.within, on))) in
      let k : (token_at (tokens_in a.tokens) (s.move.by + (f.next - 1))).kind ≡ 28 =
      ap (λ (j : ℕ). (token_at (tokens_in a.tokens) j).kind) i ∙ q.closes in
      omega (arith, same, k, e)

  its_laid : Laid g (written text a before g behind whole)
  its_laid =
      laid (tokens_in a.tokens) (names_cells a.names) (callee_in a.functions)
      (function_typed (tokens_in a.tokens) (globals_of a.functions) g untyped).table (counts_from none before) g

  -- with lines as they are, where none is moved
  pub side_lines : s.move.down ≡ 0
      → reading_of text (check_of text) (length before) ≡ read spells 0 (tokens_cells ts) f w
  unfolding reading_of
  side_lines z =
      reads text a before g behind whole 0
      ∙ same_lines (s.written_as (counts_from none before)) its_laid d a.tokens ts s.tokens on
      s.function.within not_end (name_of text (names_cells a.names)) spells s.names z

  -- with lines counted from its own
  pub side_moved : moved_reading text (check_of text) (length before)
      ≡ read spells (own_line (tokens_cells ts) f w) (tokens_cells ts) f w
  side_moved =
      reads-moved text a before g behind whole
      ∙ same-moved (s.written_as (counts_from none before)) its_laid d a.tokens ts s.tokens on
      s.function.within not_end (name_of text (names_cells a.names)) spells s.names
