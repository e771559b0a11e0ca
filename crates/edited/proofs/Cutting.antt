-- The premises of demand 3, taken apart: the old text is what stands before the replaced function, that function and
-- what stands behind it, and the edited text has the new function between the same two; recheck's answer is by the
-- tokens of the new text alone.
use Prim.Native.Nat.{ℕ, ◌+◌, ◌-◌, ◌≤◌, ◌<◌}
use mathlib.Core.Path.{◌≡◌, refl, sym, ap, subst, fun_ext, ◌∙◌}
use mathlib.Core.Bool.{Bool}
use mathlib.Core.List.{List, ◌∷◌, ◌++◌}
use native.Mathlib.Omega.{arith}
use lib.ListN.{length, get_or, take, drop}
use Rattle.pieces.specs.Tokens.{kind_of}
use Rattle.pieces.specs.declared.Token.{Token}
use Rattle.lexer.specs.Numbered.{Outcome, names_cells}
use Rattle.lexer.specs.Read.{lexed_from, read_from}
use Rattle.lexer.specs.Decoded.{Tok, token_at}
use Rattle.lexer.specs.Sound.{no_token}
use Rattle.lexer.specs.declared.TokenAt.{TokenAt}
use Rattle.lexer.proofs.Accepted.{Done}
use Rattle.functions.specs.Functions.{Function}
use Rattle.functions.specs.Columns.{type_at}
use Rattle.sema.specs.Typing.{Global}
use Rattle.unit.specs.Outcome.{checked, unit_d}
use Rattle.checker.specs.Check.{check_of}
use Rattle.checker.specs.Numbers.{Accepts}
use Rattle.checker.proofs.Lexed.{is-done, lexed_itself}
use Rattle.recheck.specs.Recheck.{function_alone, verdict_as}
use Rattle.headers.specs.Spelled.{globals_spelled, callees_spelled}
use Rattle.joined.specs.Edits.{Replaced}
use Rattle.related.specs.Alone.{Keeps, global_spelt, alone_among}
use Rattle.related.specs.Reading.{callee_spelt}
use Rattle.edited.specs.Demand3.{table_of, begins_at, line_of, ends_at, edited_text, rechecked_as, Edits}
use Rattle.edited.specs.Spelled.{spelled_alike, tokens_in}
use Rattle.edited.specs.Rows.{Split}
use Rattle.edited.proofs.Placed.{Placed}
use Rattle.edited.proofs.Answers.{Alone, rechecked_as_lem}
use Rattle.edited.proofs.Replacing.{token_at_lem, parts, first-long, part, from-to, to_inside, replaces}
use Rattle.edited.proofs.Accepted.{accepted-text, sound, names_are}
use Rattle.edited.proofs.Rows.{globals_listed, callees_listed, kept-listed, is_table_lem}
use Rattle.edited.proofs.Located as located
use Rattle.edited.proofs.Decides.{spells_of}

pub record Cutting (old : List ℕ) (k : ℕ) (new : List ℕ) : Type 0 where
  -- the text in parts
  pub pre : List ℕ
  pub part : List ℕ
  pub post : List ℕ
  pub first : ℕ
  pub old_is : pre ++ (part ++ post) ≡ old
  pub edited_is : edited_text old k new ≡ pre ++ (new ++ post)
  pub begins : begins_at old k ≡ length pre
  pub lexing : Replaced pre part post new 1 first
  -- its functions
  pub before : List Function
  pub function : Function
  pub behind : List Function
  pub counted : length before ≡ k
  pub typed : unit_d (tokens_in lexing.old_tokens) ≡ checked (before ++ (function ∷ behind))
  pub stood : function.token ≡ lexing.opening
  pub closed : function.next ≡ lexing.closing + 1
  pub front : (i : ℕ) → i + 1 ≡ lexing.opening → kind_of (get_or lexing.old_tokens i no_token).value ≡ 28
  -- the header is kept, and recheck's answer
  pub keeps : Keeps (spells_of lexing) function (tokens_in lexing.tokens_new)
  pub answer : rechecked_as old k new
      ≡ verdict_as new (read_from first new) (tokens_in lexing.tokens_new)
      (λ x. callee_spelt (spells_of lexing x) (before ++ (function ∷ behind))) function.head.type
      (alone_among (tokens_in lexing.tokens_new) (spells_of lexing) (before ++ (function ∷ behind)))

module _ {old : List ℕ} {k : ℕ} {new : List ℕ} (h : Edits old k new) where
  a : Accepts old
  a = accepted-text old h.accepted

  abbrev toks : List Token
  toks = a.tokens

  abbrev ts : List Tok
  ts = tokens_in toks

  -- where function k stands
  abbrev s : Split a.functions k
  s = located.s old k a h.one

  abbrev typed : unit_d ts ≡ checked (s.before ++ (s.function ∷ s.behind))
  typed = located.typed old k a h.one

  abbrev stands : Placed ts (length toks - 1) s.function
  stands = located.stands old k a h.one

  abbrev line-is : line_of old k ≡ (token_at ts s.function.token).line.0
  line-is = located.line-is old k a h.one

  -- the new text lexes
  new-done : Done new (line_of old k) (read_from (line_of old k) new).answer.tokens
      (read_from (line_of old k) new).answer.names
  new-done = is-done (lexed_itself (line_of old k) new h.lexes)

  alone_as : Alone old (table_of old) k new new-done.ts new-done.ns
  alone_as =
      rechecked_as_lem old (table_of old) k new new-done.ts new-done.ns
      (is_table_lem old a 2881 (omega arith) k (located.there old k a h.one))
      new-done.lexed h.whole h.keeps

  lexed_there : lexed_from (token_at ts s.function.token).line.0 new ≡ Outcome.done new-done.ts new-done.ns
  lexed_there = ap (λ (l : ℕ). lexed_from l new) (sym line-is) ∙ new-done.lexed

  -- where the function begins and ends
  abbrev from : ℕ
  from = (token_at ts s.function.token).place

  abbrev to : ℕ
  to = (token_at ts stands.brace).place + 1

  order : from ≤ to
  order = from-to old toks a.names a.lexed s.function stands

  inside : to ≤ length old
  inside = to_inside old toks a.names a.lexed s.function stands

  abbrev lexing_of : Replaced (take from old) (part old from to order inside) (drop to old) new 1
      (token_at ts s.function.token).line.0
  lexing_of =
      replaces old toks a.names a.lexed s.function stands new new-done.ts new-done.ns lexed_there
      alone_as.whole

  -- .. so that names are spelled alike in the parts as in the whole
  whole_is : take from old ++ (part old from to order inside ++ drop to old) ≡ old
  whole_is = parts old from to order inside

  abbrev spells : ℕ → ℕ → Bool
  spells = spelled_alike old (check_of old).names new (names_cells new-done.ns)

  spells-is : spells ≡ spells_of lexing_of
  unfolding replaces
  spells-is =
      ap (λ (l : List ℕ). spelled_alike old l new (names_cells new-done.ns)) (names_are old a)
      ∙ ap (λ (l : List ℕ). spelled_alike l (names_cells a.names) new (names_cells new-done.ns)) (sym whole_is)

  keeps-header : Keeps (spells_of lexing_of) s.function (tokens_in new-done.ts)
  keeps-header =
      subst (λ (f : ℕ → ℕ → Bool). Keeps f s.function (tokens_in new-done.ts)) spells-is
      (kept-listed old a 2881 new (names_cells new-done.ns) s (tokens_in new-done.ts) alone_as.kept)

  abbrev all : List Function
  all = s.before ++ (s.function ∷ s.behind)

  globals_are : globals_spelled old (table_of old) new (names_cells new-done.ns)
      ≡ (λ x. global_spelt (spells_of lexing_of x) all)
  globals_are =
      fun_ext (λ x.
      globals_listed old a 2881 new (names_cells new-done.ns) x
      ∙ ap (λ (f : ℕ → ℕ → Bool). global_spelt (f x) a.functions) spells-is
      ∙ ap (λ (fs : List Function). global_spelt (spells_of lexing_of x) fs) s.all)

  callees_are : callees_spelled old (table_of old) new (names_cells new-done.ns)
      ≡ (λ x. callee_spelt (spells_of lexing_of x) all)
  callees_are =
      fun_ext (λ x.
      callees_listed old a 2881 new (names_cells new-done.ns) x
      ∙ ap (λ (f : ℕ → ℕ → Bool). callee_spelt (f x) a.functions) spells-is
      ∙ ap (λ (fs : List Function). callee_spelt (spells_of lexing_of x) fs) s.all)

  -- recheck's answer, by the text's functions
  answer-is : rechecked_as old k new
      ≡ verdict_as new (read_from (token_at ts s.function.token).line.0 new) (tokens_in new-done.ts)
      (λ x. callee_spelt (spells_of lexing_of x) all) s.function.head.type
      (alone_among (tokens_in new-done.ts) (spells_of lexing_of) all)
  answer-is =
      alone_as.answer
      ∙ ap (λ (l : ℕ). verdict_as new (read_from l new) (tokens_in new-done.ts)
      (callees_spelled old (table_of old) new (names_cells new-done.ns)) (get_or (table_of old) (type_at k) 0)
      (function_alone (tokens_in new-done.ts) (globals_spelled old (table_of old) new (names_cells new-done.ns))))
      line-is
      ∙ ap (λ (c : ℕ → ℕ). verdict_as new (read_from (token_at ts s.function.token).line.0 new)
      (tokens_in new-done.ts) c (get_or (table_of old) (type_at k) 0)
      (function_alone (tokens_in new-done.ts) (globals_spelled old (table_of old) new (names_cells new-done.ns))))
      callees_are
      ∙ ap (λ (n : ℕ). verdict_as new (read_from (token_at ts s.function.token).line.0 new) (tokens_in new-done.ts)
      (λ x. callee_spelt (spells_of lexing_of x) all) n
      (function_alone (tokens_in new-done.ts) (globals_spelled old (table_of old) new (names_cells new-done.ns))))
      (located.row old k a h.one).type
      ∙ ap (λ (g : ℕ → Global). verdict_as new (read_from (token_at ts s.function.token).line.0 new)
      (tokens_in new-done.ts) (λ x. callee_spelt (spells_of lexing_of x) all) s.function.head.type
      (function_alone (tokens_in new-done.ts) g))
      globals_are

  pub cutting : Cutting old k new
  unfolding replaces
  cutting =
      record {
        pre = take from old;
        part = part old from to order inside;
        post = drop to old;
        first = (token_at ts s.function.token).line.0;
        old_is = whole_is;
        edited_is =
            ap (λ (i : ℕ). take i old ++ (new ++ drop (ends_at old k) old)) (located.begins-is old k a h.one)
            ∙ ap (λ (i : ℕ). take from old ++ (new ++ drop i old)) (located.ends_is old k a h.one);
        begins = located.begins-is old k a h.one ∙ sym (first-long old from to order inside);
        lexing = lexing_of;
        before = s.before;
        function = s.function;
        behind = s.behind;
        counted = s.counted;
        typed = typed;
        stood = refl;
        closed = stands.behind;
        front = λ i e.
            let l : i < length toks = omega (arith, stands.order, stands.within, (sound old a).some) in
            sym (ap (λ (t : TokenAt). t.kind) (token_at_lem toks i l)) ∙ stands.front i e;
        keeps = keeps-header;
        answer = answer-is;
      }
