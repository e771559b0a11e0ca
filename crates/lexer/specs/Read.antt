-- The whole answer of `read`: number, line, place, counts, and what every lent slice holds at exit.
use Rattle.std.specs.Prelude.{ℕ, ◌*◌, ◌≤◌, ◌≡◌, List, [], Bool, true, false, eqb, ltb, length, take, Result, Ok, Err}
use Rattle.utils.specs.Bytes.{pick, pad_to, over}
use Rattle.pieces.specs.Classes.{is_ascii}
use Rattle.pieces.specs.Refusals.{facts_of, message_of}
use Rattle.utils.specs.Limits.{most_bytes, message_size}
use Rattle.lexer.specs.Sizes.{tokens_size, names_size, token_width, name_width}
use Rattle.lexer.specs.Numbered.{Outcome, numbered, tokens_cells, names_cells}
use Rattle.pieces.specs.declared.Refusal.{Refusal}
use Rattle.pieces.specs.declared.Refusal.TheVariants as R
use Rattle.lexer.specs.declared.ReadAnswer.{ReadAnswer}
use Rattle.lexer.specs.declared.Counts.{Counts}

-- the answer, and the contents of every slice
pub record Reading : Type 0 where
  pub answer : ReadAnswer
  pub tokens : List ℕ
  pub names : List ℕ
  pub message : List ℕ

abbrev pub reading : ReadAnswer → List ℕ → List ℕ → List ℕ → Reading
reading r t n m = record { answer = r; tokens = t; names = n; message = m }

-- After acceptance line and place are zero.
abbrev pub accepted : ℕ → ℕ → ReadAnswer
accepted tokens names = record { number = 0; line = 0; place = 0; tokens = tokens; names = names }

-- After a refusal every count is zero.
abbrev pub read_refusal : ℕ → ℕ → ℕ → ReadAnswer
read_refusal number line place = record { number = number; line = line; place = place; tokens = 0; names = 0 }

abbrev pub answer_of : Refusal → ReadAnswer
answer_of r = read_refusal (facts_of r).number (facts_of r).line (facts_of r).place

-- a refusal: its message, and nothing else
abbrev pub refused : Refusal → Reading
refused r = reading (answer_of r) [] [] (message_of r)

-- Order: 31, 1, then from left to right. A text whose first line has this number.
unfoldable pub lexed_from : ℕ → List ℕ → Outcome
lexed_from line text =
    pick (ltb most_bytes (length text)) (Outcome.refused R.TooManyBytes)
    (pick (is_ascii text) (numbered text line) (Outcome.refused (R.NotAscii line)))

abbrev pub reading_of : Outcome → Reading
reading_of (Outcome.done ts ns) = reading (accepted (length ts) (length ns)) (tokens_cells ts) (names_cells ns) []
reading_of (Outcome.refused r) = refused r
-- no text gives this (`never_cut`)
reading_of Outcome.cut = reading (read_refusal 0 0 0) [] [] []

-- what a text reads as, if its first line has this number
abbrev pub read_from : ℕ → List ℕ → Reading
read_from line text = reading_of (lexed_from line text)

-- THE DEFINITION: what a text reads as; `read_def` adds the zeros that follow each slice's contents.
unfoldable pub read_of : List ℕ → Reading
read_of text = read_from 1 text

-- 4,096 token records of 4 cells, 1,024 name records of 2 cells, 512 message bytes
unfoldable pub sized : ℕ → ℕ → ℕ → Bool
sized t n m = pick (ltb t tokens_size) false (pick (ltb n names_size) false (pick (ltb m message_size) false true))

abbrev pub padded : List ℕ → List ℕ → List ℕ → Reading → Reading
padded t n m o =
    reading o.answer (pad_to (length t) o.tokens) (pad_to (length n) o.names) (pad_to (length m) o.message)

-- The answer and the slices at exit; t, n, m are the slices at entry. 30 is given exactly when a lent slice is shorter
-- than its size, and then nothing is written.
unfoldable pub read_def : List ℕ → List ℕ → List ℕ → List ℕ → Reading
read_def text t n m =
    pick (sized (length t) (length n) (length m)) (padded t n m (read_of text)) (reading (read_refusal 30 0 0) t n m)

abbrev pub counts : ℕ → ℕ → Counts
counts tokens names = record { tokens = tokens; names = names }

-- Where the answer is a Result: document 01's number, line, place and counts for each of its cases.
abbrev pub answered : Result Counts Refusal → ReadAnswer
answered (Ok c) = accepted c.tokens c.names
answered (Err r) = answer_of r

-- What the inner functions say: the counts; the slices where a text is accepted, over what they held before; the sizes
-- that the gate has seen.
abbrev pub result_of : Outcome → Result Counts Refusal
result_of (Outcome.done ts ns) = Ok (counts (length ts) (length ns))
result_of (Outcome.refused r) = Err r
result_of Outcome.cut = Ok (counts 0 0)

abbrev pub Held : Outcome → List ℕ → List ℕ → List ℕ → List ℕ → Type 0
Held (Outcome.done ts ns) t₀ n₀ t n = (t ≡ over t₀ (tokens_cells ts)) × (n ≡ over n₀ (names_cells ns))
Held (Outcome.refused r) t₀ n₀ t n = Unit
Held Outcome.cut t₀ n₀ t n = Unit

-- A reading before the rest of each slice is cleared: the cells that the answer counts stand in front. A refusal has
-- its message; an acceptance has none, and the message's slice is not yet cleared.
pub record ReadsInto (o : Reading) (m₀ : List ℕ) (r : ReadAnswer) (t n m : List ℕ) : Type 0 where
  pub answer : r ≡ o.answer
  pub tokens : take (r.tokens * token_width) t ≡ o.tokens
  pub names : take (r.names * name_width) n ≡ o.names
  pub message : (r.number ≡ 0 → ⊥) → m ≡ pad_to (length m₀) o.message

-- Then what stands behind is cleared, and after an acceptance the message.
pub record Finishes (r : ReadAnswer) (t₀ n₀ m₀ t n m : List ℕ) : Type 0 where
  pub tokens : t ≡ pad_to (length t₀) (take (r.tokens * token_width) t₀)
  pub names : n ≡ pad_to (length n₀) (take (r.names * name_width) n₀)
  pub message : m ≡ pick (eqb r.number 0) (pad_to (length m₀) []) m₀

abbrev pub IfSized : Bool → ℕ → ℕ → ℕ → Type 0
IfSized true t n m = (tokens_size ≤ t) × (names_size ≤ n) × (message_size ≤ m)
IfSized false t n m = Unit

-- THE PROMISE of `read`, by parts with names.
pub record Reads (text t₀ n₀ m₀ : List ℕ) (r : ReadAnswer) (t n m : List ℕ) : Type 0 where
  pub answer : r ≡ (read_def text t₀ n₀ m₀).answer
  pub tokens : t ≡ (read_def text t₀ n₀ m₀).tokens
  pub names : n ≡ (read_def text t₀ n₀ m₀).names
  pub message : m ≡ (read_def text t₀ n₀ m₀).message
