-- Recheck (document 01): one new function against the headers of an accepted text. "Given: old text, its header table
-- as check wrote it, a function number, new text." The parts of an answer are those of check.
use Rattle.std.specs.Prelude.{ℕ, List, [], ◌∷◌, false, eqb, get_or, Err, Ok, Result}
use Rattle.utils.specs.Bytes.{pick, same_bytes}
use Rattle.utils.specs.Message.{reported}
use Rattle.lexer.specs.Read.{Reading, read_from}
use Rattle.lexer.specs.Decoded.{Tok, tokens_of, token_at}
use Rattle.pieces.specs.Kinds as T
use Rattle.parser.specs.Step.{refusal, look}
use Rattle.parser.specs.declared.Refusal.{Refusal}
use Rattle.functions.specs.Functions.{Function, FunctionAt, function, no_function, then_function, function_d}
use Rattle.functions.specs.Columns.{type_at, line_at}
use Rattle.functions.specs.Rows.{signed_at}
use Rattle.functions.specs.Answer.{Slices, slices, counts_from}
use Rattle.messages.specs.Messages.{fixed}
use Rattle.sema.specs.Symbols.{Typed}
use Rattle.sema.specs.Typing.{Global}
use Rattle.sema.specs.Program.{function_typed}
use Rattle.unit.specs.Outcome.{untyped, none, slices_of}
use Rattle.checker.specs.Check.{Checking, accepted, refusing, refused_at}
use Rattle.headers.specs.Table.{is_table}
use Rattle.headers.specs.Kept.{is_whole, keeps}
use Rattle.headers.specs.Spelled.{row_name, globals_spelled, callees_spelled}

-- a refusal at no token, with the text that its number has
abbrev pub refused_with : ℕ → ℕ → ℕ → Checking
refused_with number line place = refusing number line place (reported line [] (fixed number))

-- What the new text is, as tokens.
pub data Verdict : Type 0 where
  refuses : Refusal → Verdict
  -- the function, and the table of names that its typing left
  accepts : Function → List ℕ → Verdict

abbrev pub after_typing : Function → List ℕ → Result Unit Refusal → Verdict
after_typing f table (Ok tt) = accepts f table
after_typing f table (Err e) = refuses e

abbrev pub typed_as : Function → Typed → Verdict
typed_as f t = after_typing f t.table t.end

-- "then parsing ..; after the closing brace, once this function's blocks and labels are resolved (22, 14), another
-- global is 40, any other token but the end 7"
unfoldable pub alone_d : List Tok → FunctionAt
alone_d ts =
    then_function no_function (function_d ts false [] 0 0) (λ f.
    look (token_at ts f.next) (λ kind next.
    pick (eqb kind T.end_of_file) (function f)
    (pick (eqb kind T.global) (no_function (refusal 40 f.next 0)) (no_function (refusal 7 f.next 0)))))

-- "then typing against the old headers"
unfoldable pub function_alone : List Tok → (ℕ → Global) → Verdict
function_alone ts globals =
    then_function refuses (alone_d ts) (λ f. typed_as f (function_typed ts globals f untyped))

-- 41 and all that follows, of a new text that begins and ends as one function: `names` are its names, ts its tokens.
abbrev pub verdict_d : List ℕ → List ℕ → ℕ → List ℕ → List ℕ → List Tok → Verdict
verdict_d old rows number new names ts =
    pick (keeps (same_bytes (row_name old rows number)) (signed_at rows number) new names ts)
    (function_alone ts (globals_spelled old rows new names))
    (refuses (refusal 41 0 0))

-- its function type has the replaced function's number
abbrev pub retyped : ℕ → Function → Function
retyped type f =
    record {
      token = f.token;
      head = record { name = f.head.name; formals = f.head.formals; ret = f.head.ret; type = type };
      items = f.items;
      next = f.next;
    }

-- Accepted: all that check writes for a text with this one function. `callees` gives a callee's type.
abbrev pub verdict_slices : List Tok → List ℕ → (ℕ → ℕ) → ℕ → Verdict → Slices
verdict_slices ts names callees type (accepts f table) = slices_of ts names callees (retyped type f ∷ []) (table ∷ [])
verdict_slices ts names callees type (refuses e) = slices [] [] [] [] []

abbrev pub verdict_as : List ℕ → Reading → List Tok → (ℕ → ℕ) → ℕ → Verdict → Checking
verdict_as new r ts callees type (accepts f table) =
    record {
      answer = accepted r.answer.tokens r.answer.names (counts_from none (f ∷ []));
      message = [];
      tokens = r.tokens;
      names = r.names;
      unit = verdict_slices ts r.names callees type (accepts f table);
    }
verdict_as new r ts callees type (refuses e) = refused_at new r.names ts e

-- A new text that is lexed.
abbrev pub parsed_as : List ℕ → List ℕ → ℕ → List ℕ → Reading → List Tok → Checking
parsed_as old rows number new r ts =
    pick (is_whole new ts)
    (verdict_as new r ts (callees_spelled old rows new r.names) (get_or rows (type_at number) 0)
    (verdict_d old rows number new r.names ts))
    (refused_with 40 (get_or rows (line_at number) 0) 0)

-- "lexing of the new text alone, numbers 31, 1 to 4 and 32 to 34", and 43 (document 02, A2)
abbrev pub lexed_as : List ℕ → List ℕ → ℕ → List ℕ → Reading → Checking
lexed_as old rows number new r =
    pick (eqb r.answer.number 0) (parsed_as old rows number new r (tokens_of r.tokens))
    (refusing r.answer.number r.answer.line r.answer.place r.message)

-- THE DEFINITION. "Lines start at the replaced function's, also for 1; places count from the new text's first byte."
unfoldable pub recheck_of : List ℕ → List ℕ → ℕ → List ℕ → Checking
recheck_of old table number new =
    pick (is_table old table number)
    (lexed_as old table number new (read_from (get_or table (line_at number) 0) new))
    (refused_with 42 0 0)
