-- The promise of `read` as one equation and by parts, and what it shuts out: two answers that it permits are equal,
-- and where the slices have their sizes nothing that they held before has a part in the answer.
use Prim.Native.Nat.{ℕ}
use mathlib.Core.Path.{◌≡◌, refl, sym, ap, ◌∙◌}
use mathlib.Core.List.{List, []}
use mathlib.Core.Bool.{Bool, true, false}
use lib.Dec.{eqb}
use lib.ListN.{length}
use lib.Seq.{take_at}
use borrow.Author.Tests.{eqb-true, eqb-false}
use Rattle.utils.specs.Bytes.{pick, pad_to}
use Rattle.lexer.specs.Numbered.{Outcome, tokens_cells, names_cells}
use Rattle.lexer.specs.Read.{Reading, reading, accepted, answer_of, answered, result_of, reading_of, lexed_from}
use Rattle.lexer.specs.Read.{read_from, padded, Held, ReadsInto, Finishes, sized, read_def, Reads}
use Rattle.lexer.specs.declared.ReadAnswer.{ReadAnswer}
use Rattle.pieces.specs.Refusals.{message_of}
use Rattle.pieces.specs.declared.Refusal.{Refusal}
use Rattle.lexer.proofs.Cells.{length-tokens_cells, length-names_cells}
use Rattle.lexer.proofs.Numbers.{refusal-number}
use Rattle.lexer.proofs.Accepted.{Done}

-- the parts from the whole
pub by_parts : {text t₀ n₀ m₀ : List ℕ} {r : ReadAnswer} {t n m : List ℕ}
    → reading r t n m ≡ read_def text t₀ n₀ m₀ → Reads text t₀ n₀ m₀ r t n m
by_parts e =
    record {
      answer = ap (λ (x : Reading). x.answer) e;
      tokens = ap (λ (x : Reading). x.tokens) e;
      names = ap (λ (x : Reading). x.names) e;
      message = ap (λ (x : Reading). x.message) e;
    }

-- the whole from the parts
pub as_whole : {text t₀ n₀ m₀ : List ℕ} {r : ReadAnswer} {t n m : List ℕ}
    → Reads text t₀ n₀ m₀ r t n m → reading r t n m ≡ read_def text t₀ n₀ m₀
as_whole e = rw (e.answer, e.tokens, e.names, e.message)

-- TWO PERMITTED ANSWERS ARE EQUAL
pub permitted_equal : {text t₀ n₀ m₀ : List ℕ} {r r' : ReadAnswer} {t n m t' n' m' : List ℕ}
    → Reads text t₀ n₀ m₀ r t n m → Reads text t₀ n₀ m₀ r' t' n' m' → reading r t n m ≡ reading r' t' n' m'
permitted_equal a b = as_whole a ∙ sym (as_whole b)

-- EQUAL TEXTS AND LENGTHS GIVE EQUAL ANSWERS, whatever the slices held before
pub same_text : {text t₀ n₀ m₀ t₁ n₁ m₁ : List ℕ} {r r' : ReadAnswer} {t n m t' n' m' : List ℕ}
    → sized (length t₀) (length n₀) (length m₀) ≡ true
    → length t₀ ≡ length t₁ → length n₀ ≡ length n₁ → length m₀ ≡ length m₁
    → Reads text t₀ n₀ m₀ r t n m → Reads text t₁ n₁ m₁ r' t' n' m' → reading r t n m ≡ reading r' t' n' m'
unfolding read_def pick
same_text s p q u a b =
    rw (as_whole a, as_whole b, ← p, ← q, ← u, s)

-- the answer of `read` is that of the enum between, case by case
pub answered-result : (o : Outcome) → (reading_of o).answer ≡ answered (result_of o)
answered-result (Outcome.done ts ns) = refl
answered-result (Outcome.refused r) = refl
answered-result Outcome.cut = refl

-- what an accepted text reads as, by the counts that were answered
pub done-reading : {s : List ℕ} {line count known : ℕ} (d : Done s line count known)
    → read_from line s ≡ reading (accepted count known) (tokens_cells d.ts) (names_cells d.ns) []
done-reading d = rw (d.lexed, d.counted, d.counted_names)

-- Before the rest is cleared. ---------------------------------------------------------------------------------------

pub into-done : {s : List ℕ} {line count known : ℕ} (d : Done s line count known) (t₀ n₀ t n m₀ m : List ℕ)
    → Held (lexed_from line s) t₀ n₀ t n
    → ReadsInto (read_from line s) m₀ (accepted count known) t n m
into-done d t₀ n₀ t n m₀ m h =
    let held = rw d.lexed at h in
    rw (done-reading d) (record {
      answer = refl;
      tokens = rw (held.0, d.counted) (take_at (tokens_cells d.ts) _ _ (length-tokens_cells d.ts));
      names = rw (held.1, d.counted_names) (take_at (names_cells d.ns) _ _ (length-names_cells d.ns));
      message = λ f. absurd (f refl);
    })

pub into-refused : (line : ℕ) (s : List ℕ) (q : Refusal) → lexed_from line s ≡ Outcome.refused q
    → (t n m₀ m : List ℕ) → m ≡ pad_to (length m₀) (message_of q) → ReadsInto (read_from line s) m₀ (answer_of q) t n m
into-refused line s q e t n m₀ m h = rw e (record { answer = refl; tokens = refl; names = refl; message = λ _. h })

-- an accepted text has no message
pub no_message : (line : ℕ) (s : List ℕ) → (read_from line s).answer.number ≡ 0 → (read_from line s).message ≡ []
no_message line s z = from (lexed_from line s) z
  where
    from : (o : Outcome) → (reading_of o).answer.number ≡ 0 → (reading_of o).message ≡ []
    from (Outcome.done ts ns) h = refl
    from (Outcome.refused q) h = absurd (refusal-number q h)
    from Outcome.cut h = refl

-- the message's slice, once it is cleared where there is no message
pub message_finished : (k : ℕ) (o m₀ m m' : List ℕ) → (k ≡ 0 → o ≡ []) → ((k ≡ 0 → ⊥) → m ≡ pad_to (length m₀) o)
    → length m ≡ length m₀ → m' ≡ pick (eqb k 0) (pad_to (length m) []) m → m' ≡ pad_to (length m₀) o
unfolding pick
message_finished k o m₀ m m' none some l e = from (eqb k 0) refl
  where
    from : (b : Bool) → eqb k 0 ≡ b → m' ≡ pad_to (length m₀) o
    from true q = e ∙ rw (q, l, none (eqb-true k 0 q))
    from false q = e ∙ rw q (some (eqb-false k 0 q))

-- then it is the whole reading
pub finished : (line : ℕ) (s t₀ n₀ m₀ t n m : List ℕ) (r : ReadAnswer) (t' n' m' : List ℕ)
    → ReadsInto (read_from line s) m₀ r t n m
    → length t ≡ length t₀ → length n ≡ length n₀ → length m ≡ length m₀ → Finishes r t n m t' n' m'
    → reading r t' n' m' ≡ padded t₀ n₀ m₀ (read_from line s)
finished line s t₀ n₀ m₀ t n m r t' n' m' h lt ln lm f =
    let number = ap (λ (a : ReadAnswer). a.number) h.answer in
    let message =
    message_finished r.number (read_from line s).message m₀ m m' (λ z. no_message line s (sym number ∙ z))
    h.message lm f.message in
    rw (f.tokens, f.names, h.tokens, h.names, lt, ln, message, h.answer)
