-- The promise of `pitchsleet_read`: the reading of `Rattle.lexer.specs.Read`, its cells as bytes in one slice.
use Rattle.std.specs.Prelude.{ℕ, ◌/◌, ◌%◌, ◌≡◌, List, [], ◌∷◌, ◌++◌, ltb, length}
use Rattle.utils.specs.Bytes.{pick, pad_to}
use Rattle.lexer.specs.Read.{Reading, read_refusal, read_of}
use Rattle.lexer.specs.Sizes.{tokens_size, names_size}
use Rattle.utils.specs.Limits.{message_size}
use Rattle.lexer.specs.declared.ReadAnswer.{ReadAnswer}

-- a cell as four bytes, the lowest first
abbrev pub le32 : ℕ → List ℕ
le32 x = x % 256 ∷ x / 256 % 256 ∷ x / 65536 % 256 ∷ x / 16777216 % 256 ∷ []

unfoldable pub le32s : List ℕ → List ℕ
le32s [] = []
le32s (x ∷ s) = le32 x ++ le32s s

-- the bytes that read fills
abbrev pub read_size : ℕ
read_size = 73728

-- 4,096 token records of 16 bytes from 0, then 1,024 name records of 8 bytes from 65,536: 73,728 bytes
unfoldable pub bytes_of : Reading → List ℕ
bytes_of o = le32s (pad_to tokens_size o.tokens) ++ le32s (pad_to names_size o.names)

-- the answer, and the slices
pub record Export : Type 0 where
  pub answer : ReadAnswer
  pub out : List ℕ
  pub message : List ℕ

abbrev pub export : ReadAnswer → List ℕ → List ℕ → Export
export r o m = record { answer = r; out = o; message = m }

-- a reading in slices as long as o and m; zeros follow
abbrev pub exported : List ℕ → List ℕ → Reading → Export
exported o m x = export x.answer (pad_to (length o) (bytes_of x)) (pad_to (length m) x.message)

-- The answer and the slices at exit; o and m are the slices at entry. 30 is given exactly when one of them is shorter
-- than its size, and then nothing is written.
unfoldable pub export_def : List ℕ → List ℕ → List ℕ → Export
export_def text o m =
    let short = export (read_refusal 30 0 0) o m in
    pick (ltb (length o) read_size) short (pick (ltb (length m) message_size) short (exported o m (read_of text)))

-- THE PROMISE, by parts with names.
pub record Exports (text o₀ m₀ : List ℕ) (r : ReadAnswer) (o m : List ℕ) : Type 0 where
  pub answer : r ≡ (export_def text o₀ m₀).answer
  pub out : o ≡ (export_def text o₀ m₀).out
  pub message : m ≡ (export_def text o₀ m₀).message
