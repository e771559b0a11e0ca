-- What a text checks as: number, line, place, counts, message, and what every slice holds, unpadded, of the text alone.
-- "All lexing is before all parsing, all parsing (with labels and edges of each function) before all typing."
use Rattle.std.specs.Prelude.{ℕ, List, [], eqb}
use Rattle.utils.specs.Bytes.{pick}
use Rattle.lexer.specs.Read.{Reading, read_of}
use Rattle.lexer.specs.Decoded.{Tok, tokens_of, token_at}
use Rattle.parser.specs.declared.Refusal.{Refusal}
use Rattle.functions.specs.Answer.{Slices, slices, counts_from}
use Rattle.functions.specs.declared.Counts.{Counts}
use Rattle.messages.specs.Messages.{message_of}
use Rattle.unit.specs.Outcome.{UnitOutcome, checked, refused, unit_d, unit_slices, none}
use Rattle.checker.specs.declared.CheckAnswer.{CheckAnswer}

-- The answer and the contents of every slice.
pub record Checking : Type 0 where
  pub answer : CheckAnswer
  pub message : List ℕ
  pub tokens : List ℕ
  pub names : List ℕ
  pub unit : Slices

-- "After acceptance line, place, the whole message and all unused room are zero"
abbrev pub accepted : ℕ → ℕ → Counts → CheckAnswer
accepted tokens names n =
    record {
      number = 0;
      line = 0;
      place = 0;
      tokens = tokens;
      names = names;
      functions = n.functions;
      items = n.items;
      arguments = n.arguments;
      blocks = n.blocks;
      predecessors = n.predecessors;
    }

-- "after a refusal every count is zero"
abbrev pub check_refusal : ℕ → ℕ → ℕ → CheckAnswer
check_refusal number line place =
    record {
      number = number;
      line = line;
      place = place;
      tokens = 0;
      names = 0;
      functions = 0;
      items = 0;
      arguments = 0;
      blocks = 0;
      predecessors = 0;
    }

-- A refusal: its message, and nothing else.
abbrev pub refusing : ℕ → ℕ → ℕ → List ℕ → Checking
refusing number line place message =
    record {
      answer = check_refusal number line place;
      message = message;
      tokens = [];
      names = [];
      unit = slices [] [] [] [] [];
    }

-- "The line and place are those of the token the Rust reports with (for 13 to 16, the token whose line it passes)"
abbrev pub refused_at : List ℕ → List ℕ → List Tok → Refusal → Checking
refused_at text names ts e =
    let t = token_at ts e.token in
    refusing e.number t.line.0 t.place (message_of text ts names e)

-- a text that reads as r, with the tokens ts
abbrev pub checked_or : List ℕ → Reading → List Tok → UnitOutcome → Checking
checked_or text r ts (checked fs) =
    record {
      answer = accepted r.answer.tokens r.answer.names (counts_from none fs);
      message = [];
      tokens = r.tokens;
      names = r.names;
      unit = unit_slices ts r.names (checked fs);
    }
checked_or text r ts (refused e) = refused_at text r.names ts e

abbrev pub read_as : List ℕ → Reading → Checking
read_as text r =
    let ts = tokens_of r.tokens in
    pick (eqb r.answer.number 0) (checked_or text r ts (unit_d ts))
    (refusing r.answer.number r.answer.line r.answer.place r.message)

-- THE DEFINITION
unfoldable pub check_of : List ℕ → Checking
check_of text = read_as text (read_of text)
