-- The whole answer of `check`: `check_of`, the gate, and the zeros that follow each slice's contents.
use Rattle.std.specs.Prelude.{ℕ, ◌*◌, ◌≤◌, ◌≡◌, List, [], Bool, true, false, eqb, ltb, length, take}
use Rattle.utils.specs.Bytes.{pick, pad_to}
use Rattle.lexer.specs.Read.{read_from}
use Rattle.functions.specs.Columns.{table_size, row_at}
use Rattle.body.specs.Room.{item_width, items_size, arguments_size}
use Rattle.link.specs.Steps.{block_width, blocks_size, predecessors_size}
use Rattle.lexer.specs.Sizes.{token_width, name_width, tokens_size, names_size}
use Rattle.utils.specs.Limits.{message_size}
use Rattle.lexer.specs.declared.ReadAnswer.{ReadAnswer}
use Rattle.functions.specs.Answer.{Long, Slices, slices}
use Rattle.unit.specs.Outcome.{as_long}
use Rattle.checker.specs.Check.{Checking, check_refusal, check_of}
use Rattle.checker.specs.declared.CheckAnswer.{CheckAnswer}

abbrev pub checking : CheckAnswer → List ℕ → List ℕ → List ℕ → Slices → Checking
checking r m t n u = record { answer = r; message = m; tokens = t; names = n; unit = u }

-- slices as long as those at entry, m, t, n and u: zeros follow
abbrev pub padded : List ℕ → List ℕ → List ℕ → Slices → Checking → Checking
padded m t n u o =
    checking o.answer (pad_to (length m) o.message) (pad_to (length t) o.tokens) (pad_to (length n) o.names)
    (as_long u o.unit)

-- the cells of each slice (docs/INTERFACE.md), and 512 message bytes
unfoldable pub sized_unit : ℕ → ℕ → ℕ → ℕ → ℕ → Bool
sized_unit f i a b p =
    pick (ltb f table_size) false
    (pick (ltb i items_size) false (pick (ltb a arguments_size) false (pick (ltb b blocks_size) false
    (pick (ltb p predecessors_size) false true))))

unfoldable pub sized : ℕ → ℕ → ℕ → Bool → Bool
sized m t n unit = pick (ltb t tokens_size) false (pick (ltb n names_size) false (pick (ltb m message_size) false unit))

abbrev pub all_sized : List ℕ → List ℕ → List ℕ → Slices → Bool
all_sized m t n u =
    sized (length m) (length t) (length n)
    (sized_unit (length u.functions) (length u.items) (length u.arguments) (length u.blocks)
    (length u.predecessors))

-- The answer and the slices at exit, for the answer o of any text; m, t, n and u are the slices at entry. 30 is given
-- exactly when a lent slice is shorter than its size, and then nothing is written.
abbrev pub gated : List ℕ → List ℕ → List ℕ → Slices → Checking → Checking
gated m t n u o = pick (all_sized m t n u) (padded m t n u o) (checking (check_refusal 30 0 0) m t n u)

unfoldable pub check_def : List ℕ → List ℕ → List ℕ → List ℕ → Slices → Checking
check_def text m t n u = gated m t n u (check_of text)

-- What the inner functions say: the sizes that the gate has seen; the slices before and after they are cleared.
abbrev pub IfSizedUnit : Bool → ℕ → ℕ → ℕ → ℕ → ℕ → Type 0
IfSizedUnit true f i a b p =
    (table_size ≤ f) × (items_size ≤ i) × (arguments_size ≤ a) × (blocks_size ≤ b) × (predecessors_size ≤ p)
IfSizedUnit false f i a b p = Unit

abbrev pub IfSized : Bool → Bool → ℕ → ℕ → ℕ → Type 0
IfSized true unit m t n = (message_size ≤ m) × (tokens_size ≤ t) × (names_size ≤ n) × (unit ≡ true)
IfSized false unit m t n = Unit

-- a text whose first line has this number, once it is read and accepted: its tokens and names stand in front
pub record Lexed (line : ℕ) (text : List ℕ) (r : ReadAnswer) (t n : List ℕ) : Type 0 where
  pub answer : r ≡ (read_from line text).answer
  pub fine : r.number ≡ 0
  pub tokens : take (r.tokens * token_width) t ≡ (read_from line text).tokens
  pub names : take (r.names * name_width) n ≡ (read_from line text).names

-- the cells of the header table that an answer counts: the count and the rows, and none after a refusal
abbrev pub rows_used : CheckAnswer → ℕ
rows_used r = pick (eqb r.number 0) (row_at r.functions) 0

-- the first cells of each slice, those that an answer counts
abbrev pub fronts_of : CheckAnswer → Slices → Slices
fronts_of r u =
    slices
    (take (rows_used r) u.functions)
    (take (r.items * item_width) u.items)
    (take (r.arguments * 2) u.arguments)
    (take (r.blocks * block_width) u.blocks)
    (take r.predecessors u.predecessors)

-- The answer o before the rest of each slice is cleared: the cells that it counts stand in front. A refusal has its
-- message; an acceptance has none, and the message's slice is not yet cleared.
pub record ChecksInto (o : Checking) (m₀ : List ℕ) (r : CheckAnswer) (m t n : List ℕ) (u : Slices) : Type 0 where
  pub answer : r ≡ o.answer
  pub message : (r.number ≡ 0 → ⊥) → m ≡ pad_to (length m₀) o.message
  pub tokens : take (r.tokens * token_width) t ≡ o.tokens
  pub names : take (r.names * name_width) n ≡ o.names
  pub unit : fronts_of r u ≡ o.unit

-- Then what stands behind is cleared, and after an acceptance the message.
pub record Finishes (r : CheckAnswer) (m₀ t₀ n₀ : List ℕ) (u₀ : Slices) (m t n : List ℕ) (u : Slices) : Type 0 where
  pub message : m ≡ pick (eqb r.number 0) (pad_to (length m₀) []) m₀
  pub tokens : t ≡ pad_to (length t₀) (take (r.tokens * token_width) t₀)
  pub names : n ≡ pad_to (length n₀) (take (r.names * name_width) n₀)
  pub unit : u ≡ as_long u₀ (fronts_of r u₀)

pub record Sizes (m t n : List ℕ) (u : Slices) : Type 0 where
  pub message_long : message_size ≤ length m
  pub tokens_long : tokens_size ≤ length t
  pub names_long : names_size ≤ length n
  pub functions_long : table_size ≤ length u.functions
  pub long : Long u.items u.arguments u.blocks u.predecessors

-- what a definition's answer d permits, by parts with names
pub record Gives (d : Checking) (r : CheckAnswer) (m t n : List ℕ) (u : Slices) : Type 0 where
  pub answer : r ≡ d.answer
  pub message : m ≡ d.message
  pub tokens : t ≡ d.tokens
  pub names : n ≡ d.names
  pub unit : u ≡ d.unit

-- THE PROMISE of `check`: the answer and all slices at exit, of the text and the slices at entry.
abbrev pub Checks : List ℕ → List ℕ → List ℕ → List ℕ → Slices → CheckAnswer → List ℕ → List ℕ → List ℕ → Slices
    → Type 0
Checks text m₀ t₀ n₀ u₀ r m t n u = Gives (check_def text m₀ t₀ n₀ u₀) r m t n u
