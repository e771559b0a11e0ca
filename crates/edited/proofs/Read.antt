-- On acceptance the new function reads as it does alone, and every other function as before: each is related, in the
-- edited text and in the other one, to the same tokens, function and records.
use Prim.Native.Nat.{ℕ, ◌+◌, ◌-◌, ◌≤◌, ◌<◌}
use mathlib.Core.Path.{◌≡◌, refl, sym, ap, ◌∙◌}
use mathlib.Core.Bool.{Bool, true, false}
use mathlib.Core.List.{List, [], ◌∷◌, ◌++◌}
use native.Mathlib.Omega.{arith}
use lib.Dec.{eqb}
use lib.ListN.{length, get_or, length-append}
use Rattle.utils.specs.Bytes.{pick}
use Rattle.pieces.specs.declared.Token.{Token}
use Rattle.lexer.specs.Numbered.{Outcome, tokens_cells, names_cells}
use Rattle.lexer.specs.Read.{reading_of as lexed_reading}
use Rattle.lexer.specs.Decoded.{Tok, tokens_of, token_at, name_of}
use Rattle.lexer.specs.declared.TokenAt.{TokenAt}
use Rattle.parser.specs.Step.{look, refusal}
use Rattle.parser.specs.Moved.{Each}
use Rattle.functions.specs.Functions.{Function, FunctionAt, function, no_function, then_function, function_d}
use Rattle.functions.specs.Answer.{counts_from}
use Rattle.functions.specs.declared.Counts.{Counts}
use Rattle.functions.proofs.Heads.{formals_few}
use Rattle.sema.specs.Program.{globals_of, function_typed}
use Rattle.elaborate.specs.Types.{callee_in}
use Rattle.unit.specs.Outcome.{none, untyped}
use Rattle.checker.specs.Check.{Checking, check_of}
use Rattle.checker.specs.Numbers.{Accepts}
use Rattle.recheck.specs.Recheck.{accepts, alone_d, retyped, verdict_as}
use Rattle.functions.specs.Moved.{SimFunction}
use Rattle.related.specs.Tables.{SameGlobals}
use Rattle.related.specs.Records.{SameCallees}
use Rattle.related.specs.Written.{Written, SimWritten, SameLengths, written_with}
use Rattle.related.specs.Alone.{AcceptedAs, global_spelt}
use Rattle.related.specs.Reading.{WrittenAs, callee_spelt, written_in, written_alone, written_own}
use Rattle.related.proofs.Entry.{function_up_to}
use Rattle.related.proofs.Edited.{untyped_s}
use Rattle.related.proofs.SimProgram.{each_map}
use Rattle.related.proofs.Parts.{accepted-alone}
use Rattle.related.proofs.Written.{written_s}
use Rattle.related.proofs.Reading as related
use Rattle.edited.specs.Reading.{Own, firsts_of, seen_own, reading_of, moved_reading}
use Rattle.edited.specs.Demand3.{begins_at, rechecked_as}
use Rattle.edited.specs.Rows.{Split}
use Rattle.edited.specs.Spelled.{tokens_in, word_cells, front_move, inside_move, old_back_move, new_back_move}
use Rattle.edited.specs.Standing.{own_written, Stands}
use Rattle.edited.proofs.Closing.{function_spans}
use Rattle.edited.proofs.Replacing.{token_at_lem}
use Rattle.edited.proofs.Accepted.{tokens_are}
use Rattle.edited.proofs.Rows.{its_row}
use Rattle.edited.proofs.Lexing.{edited, alone_in, lengths, front-name, inside-name, old_back_name, new_back_name}
use Rattle.edited.proofs.Lexing.{inside-tokens, front_fits}
use Rattle.edited.proofs.Decides.{spells_of}
use Rattle.edited.proofs.Cutting.{Cutting}
use Rattle.edited.proofs.Fresh.{Fresh, all, alone, verdict, accepted_as, alone-checked}
use Rattle.edited.proofs.Cells.{own-cells}
use Rattle.edited.proofs.Alike.{Laid, laid}
use Rattle.edited.proofs.Same.{read}
use Rattle.edited.proofs.Unmoved.{as_itself, itself}
use Rattle.edited.proofs.Sides.{Side, side_lines, side_moved}
use Rattle.edited.proofs.Others.{each_both, each-meet, each_long, others_at}

-- The new function alone. -------------------------------------------------------------------------------------------

-- what is alone was read
alone_read_lem : (ts : List Tok) (f : Function) → alone_d ts ≡ function f → function_d ts false [] 0 0 ≡ function f
unfolding alone_d look then_function pick
alone_read_lem ts f = by (function_d ts false [] 0 0)
  where
    by_kind : (g : Function) (b d : Bool)
        → pick b (function g)
        (pick d (no_function (refusal 40 g.next 0)) (no_function (refusal 7 g.next 0))) ≡ function f
        → function g ≡ function f
    by_kind g true d e = e
    by_kind g false true e = let z : ◌≡◌ {A = ℕ} 0 1 = cc in absurd (omega arith)
    by_kind g false false e = let z : ◌≡◌ {A = ℕ} 0 1 = cc in absurd (omega arith)

    by : (x : FunctionAt)
        → then_function no_function x (λ g.
        pick (eqb (token_at ts g.next).kind 38) (function g)
        (pick (eqb (token_at ts g.next).kind 2) (no_function (refusal 40 g.next 0))
        (no_function (refusal 7 g.next 0)))) ≡ function f
        → x ≡ function f
    by (function g) e =
        by_kind g (eqb (token_at ts g.next).kind 38) (eqb (token_at ts g.next).kind 2) e
    by (no_function r) e = let z : ◌≡◌ {A = ℕ} 0 1 = cc in absurd (omega arith)

alone-few : (ts : List Tok) (f : Function) → alone_d ts ≡ function f → length f.head.formals ≤ 16
alone-few ts f e =
    let u = function_up_to ts [] 0 0 f (alone_read_lem ts f e) in
    omega (arith, formals_few ts u.at1, ap length u.listed)

module _ {old : List ℕ} {k : ℕ} {new : List ℕ} (c : Cutting old k new) (z : Fresh c) (g : Function) (table : List ℕ)
    (e : verdict c z ≡ accepts g table) where
  abbrev pub new_names : List ℕ
  new_names = names_cells c.lexing.new_names

  abbrev pub type : ℕ
  type = c.function.head.type

  -- its records
  abbrev alone_written : Written
  alone_written = written_alone (alone c z) new_names (spells_of c.lexing) (all c z) (retyped type g)

  -- recheck's answer
  abbrev pub answer : Checking
  answer =
      verdict_as new (lexed_reading (Outcome.done c.lexing.tokens_new c.lexing.new_names)) (alone c z)
      (λ y. callee_spelt (spells_of c.lexing y) (all c z)) type (accepts g table)

  pub answer-is : rechecked_as old k new ≡ answer
  answer-is =
      alone-checked c z g table e
      ∙ ap (λ (o : Outcome). verdict_as new (lexed_reading o) (alone c z)
      (λ y. callee_spelt (spells_of c.lexing y) (all c z)) type (accepts g table)) c.lexing.new_lexes

  accepted_there : alone_d (alone c z) ≡ function g
  accepted_there = (accepted-alone (alone c z) (λ x. global_spelt (spells_of c.lexing x) (all c z)) g table e).read

  left : (function_typed (alone c z) (λ x. global_spelt (spells_of c.lexing x) (all c z)) g untyped).table ≡ table
  left = (accepted-alone (alone c z) (λ x. global_spelt (spells_of c.lexing x) (all c z)) g table e).left

  alone_stands : Stands answer (alone c z) (λ y. callee_spelt (spells_of c.lexing y) (all c z)) []
      (retyped type g) table
  alone_stands =
      record {
        behind = [];
        tables = [];
        more = [];
        unit = refl;
        even = refl;
        few = (alone-few (alone c z) g accepted_there, tt);
      }

  alone-reads : reading_of new answer 0
      ≡ read (name_of new new_names) 0 (tokens_cells c.lexing.tokens_new) (retyped type g) alone_written
  unfolding reading_of counts_from
  alone-reads =
      ap (λ (own : Own). seen_own (firsts_of (name_of new new_names) 0 own) own)
      (own-cells alone_stands
      ∙ ap (λ (t : List ℕ). own_written (tokens_cells c.lexing.tokens_new) (retyped type g)
      (written_with (alone c z) new_names (λ y. callee_spelt (spells_of c.lexing y) (all c z)) t none (retyped type g)))
      (sym left))

  -- The texts, as they were cut. --------------------------------------------------------------------------------------

  abbrev pub x : AcceptedAs (edited z.readings z.lexed c.lexing.new_opens_kind c.front)
      (alone_in z.readings z.lexed c.lexing.new_opens_kind c.front).inside
      (alone_in z.readings z.lexed c.lexing.new_opens_kind c.front).size (alone c z) c.before
      c.function c.behind (retyped type g)
  x = accepted_as c z g table e

  abbrev pub text : List ℕ
  text = c.pre ++ (new ++ c.post)

  abbrev pub accepted-new : Accepts text
  accepted-new =
      record {
        tokens = z.tokens;
        names = z.names;
        functions = x.before' ++ (x.f ∷ x.behind');
        lexed = z.lexed;
        typed = x.accepted_so;
      }

  abbrev pub old_text : List ℕ
  old_text = c.pre ++ (c.part ++ c.post)

  abbrev pub accepted_old : Accepts old_text
  accepted_old =
      record {
        tokens = c.lexing.old_tokens;
        names = c.lexing.old_names;
        functions = all c z;
        lexed = c.lexing.old_lexes;
        typed = c.typed;
      }

  -- what is written for each function
  writing : WrittenAs (alone_in z.readings z.lexed c.lexing.new_opens_kind c.front)
      (names_cells c.lexing.old_names) (names_cells z.names) (word_cells z.readings.rest-words) new_names x
  writing =
      related.written (alone_in z.readings z.lexed c.lexing.new_opens_kind c.front)
      (lengths z.readings z.lexed c.lexing.new_opens_kind c.front) x

  -- The new function. -------------------------------------------------------------------------------------------------

  new_side : Side text accepted-new x.f c.lexing.tokens_new (retyped type g) alone_written (name_of new new_names)
  unfolding edited alone_in
  new_side =
      record {
        move = inside_move z.readings;
        size = length c.lexing.tokens_new - 1;
        tokens = inside-tokens z.readings z.lexed;
        function = x.same;
        written_as = writing.new-function;
        names = inside-name z.readings z.lexed;
      }

  alone_laid : Laid (retyped type g) alone_written
  alone_laid =
      laid (alone c z) new_names (λ y. callee_spelt (spells_of c.lexing y) (all c z))
      (function_typed (alone c z) (λ y. global_spelt (spells_of c.lexing y) (all c z)) (retyped type g) untyped).table
      none (retyped type g)

  -- THE NEW FUNCTION READS AS ALONE
  pub new_reads : reading_of text (check_of text) (length x.before') ≡ reading_of new answer 0
  unfolding new_side
  new_reads = side_lines new_side alone_laid x.before' x.behind' refl refl ∙ sym alone-reads

  -- .. and stands where the replaced one stood
  pub new_begins : begins_at text (length x.before') ≡ length c.pre
  unfolding edited alone_in
  new_begins =
      let s : Split accepted-new.functions (length x.before') =
      record { before = x.before'; function = x.f; behind = x.behind'; all = refl; counted = refl } in
      let first : g.token ≡ 0 =
      (function_spans (alone c z) false [] 0 0 g (alone_read_lem (alone c z) g accepted_there)).token in
      let by : ℕ = (inside_move z.readings).by in
      let at : x.f.token ≡ by + 0 = x.same.token ∙ ap (λ (i : ℕ). by + i) first in
      let opens : (token_at (alone c z) 0).place ≡ 0 =
      ap (λ (t : TokenAt). t.place) (token_at_lem c.lexing.tokens_new 0 (omega (arith, c.lexing.new_inner)))
      ∙ c.lexing.new_opens_at in
      (its_row text accepted-new 2881 s).place
      ∙ ap (λ (l : List ℕ). (token_at (tokens_of l) x.f.token).place) (tokens_are text accepted-new)
      ∙ ap (λ (i : ℕ). (token_at (tokens_in z.tokens) i).place) at
      ∙ ap (λ (t : TokenAt). t.place)
      ((inside-tokens z.readings z.lexed).same 0 (omega (arith, c.lexing.new_inner)))
      ∙ omega (arith, opens)

  -- All others. -------------------------------------------------------------------------------------------------------

  -- a function of the edited text and one of the old text, related to the same
  record Through (g' o : Function) : Type 0 where
    tokens : List Token
    function : Function
    written : Written
    spells : ℕ → List ℕ
    its_laid : Laid function written
    new_one : Side text accepted-new g' tokens function written spells
    old_one : Side old_text accepted_old o tokens function written spells

  -- those before the replaced one are related to the old ones, counted from their own first
  abbrev front_written : Function → Written
  front_written o =
      written_in (tokens_in c.lexing.old_tokens) (names_cells c.lexing.old_names) (all c z) none o

  before_through : (g' o : Function)
      → SimFunction (front_move z.readings) c.lexing.opening g' o
      → ((n : Counts) → SimWritten (front_move z.readings) n
      (written_in (tokens_in z.tokens) (names_cells z.names) (x.before' ++ (x.f ∷ x.behind')) n g')
      (front_written o))
      → Through g' o
  unfolding edited
  before_through g' o q w =
      let e = edited z.readings z.lexed c.lexing.new_opens_kind c.front in
      let same_names : SameLengths (front_move z.readings) (names_cells c.lexing.old_names)
      (names_cells c.lexing.old_names) = record { same = λ y h. refl } in
      let same_globals : SameGlobals (front_move z.readings) (globals_of (all c z)) (globals_of (all c z)) =
      record { same = λ y h. refl } in
      let same-callees : SameCallees (front_move z.readings) (callee_in (all c z)) (callee_in (all c z)) =
      record { same = λ y h. refl } in
      record {
        tokens = c.lexing.old_tokens;
        function = o;
        written = front_written o;
        spells = name_of old_text (names_cells c.lexing.old_names);
        its_laid =
            laid (tokens_in c.lexing.old_tokens) (names_cells c.lexing.old_names) (callee_in (all c z))
            (function_typed (tokens_in c.lexing.old_tokens) (globals_of (all c z)) o untyped).table none o;
        new_one =
            record {
              move = front_move z.readings;
              size = c.lexing.opening;
              tokens = e.before;
              function = q;
              written_as = w;
              names = front-name z.readings z.lexed;
            };
        old_one =
            record {
              move = front_move z.readings;
              size = c.lexing.opening;
              tokens = itself e.before;
              function = as_itself q;
              written_as = λ n.
                  written_s (itself e.before) same_names n same_globals same-callees
                  (untyped_s (front_fits z.readings z.lexed)) (as_itself q);
              names = λ y h. refl;
            };
      }

  -- those behind it to the functions of the tokens that both texts have behind it
  abbrev rest_written : Function → Written
  rest_written o =
      written_own (tokens_in z.readings.rest) (word_cells z.readings.rest-words) (old_back_move z.readings)
      (all c z) o

  behind_through : (g' o r : Function)
      → SimFunction (new_back_move z.readings) (length z.readings.rest) g' r
      × ((n : Counts) → SimWritten (new_back_move z.readings) n
      (written_in (tokens_in z.tokens) (names_cells z.names) (x.before' ++ (x.f ∷ x.behind')) n g')
      (rest_written r))
      → SimFunction (old_back_move z.readings) (length z.readings.rest) o r
      × ((n : Counts) → SimWritten (old_back_move z.readings) n
      (written_in (tokens_in c.lexing.old_tokens) (names_cells c.lexing.old_names) (all c z) n o) (rest_written r))
      → Through g' o
  unfolding edited
  behind_through g' o r p q =
      let e = edited z.readings z.lexed c.lexing.new_opens_kind c.front in
      let m = old_back_move z.readings in
      record {
        tokens = z.readings.rest;
        function = r;
        written = rest_written r;
        spells = λ y. get_or z.readings.rest-words y [];
        its_laid =
            laid (tokens_in z.readings.rest) (word_cells z.readings.rest-words)
            (λ y. callee_in (all c z) (m.name y))
            (function_typed (tokens_in z.readings.rest) (λ y. globals_of (all c z) (m.name y)) r untyped).table
            none r;
        new_one =
            record {
              move = new_back_move z.readings;
              size = length z.readings.rest;
              tokens = e.behind_new;
              function = p.0;
              written_as = p.1;
              names = new_back_name z.readings z.lexed;
            };
        old_one =
            record {
              move = m;
              size = length z.readings.rest;
              tokens = e.behind_old;
              function = q.0;
              written_as = q.1;
              names = old_back_name z.readings z.lexed;
            };
      }

  before_others : Each Through x.before' c.before
  unfolding edited
  before_others =
      each_map (λ g' o q. before_through g' o q.0 q.1) (each_both x.read-before writing.before_it)

  behind_others : Each Through x.behind' c.behind
  unfolding edited
  behind_others =
      each-meet behind_through (each_both x.read-new writing.behind_new)
      (each_both x.read_old writing.behind_old)

  pub as_many : length (x.before' ++ (x.f ∷ x.behind')) ≡ length (all c z)
  as_many =
      length-append x.before' (x.f ∷ x.behind')
      ∙ omega (
        arith,
        each_long before_others,
        each_long behind_others,
        length-append c.before (c.function ∷ c.behind),
      )

  pub before-long : length x.before' ≡ length c.before
  before-long = each_long before_others

  -- EVERY OTHER FUNCTION READS AS BEFORE
  pub others_read : (j : ℕ) → j < length (all c z) → (j ≡ length c.before → ⊥)
      → moved_reading text (check_of text) j ≡ moved_reading old_text (check_of old_text) j
  others_read j h other =
      let a = others_at x.f c.function before_others behind_others j h other in
      let t = a.related in
      ap (λ (i : ℕ). moved_reading text (check_of text) i) (sym a.counted)
      ∙ side_moved t.new_one t.its_laid a.front a.back a.is
      ∙ sym (side_moved t.old_one t.its_laid a.front' a.back' a.is')
      ∙ ap (λ (i : ℕ). moved_reading old_text (check_of old_text) i) a.counted'
