-- From an answer to the reading behind it: behind a result that says done, or an answer with number 0, stand tokens and
-- names, which are sound and lie in the cells. By cases over the outcome, which is never cut (`never_cut`).
use Rattle.std.specs.Prelude.{Ok, Err}
use Prim.Native.Nat.{ℕ}
use mathlib.Core.Path.{◌≡◌, refl, sym, ap, ◌∙◌}
use mathlib.Core.Bool.{Bool, true, false}
use mathlib.Core.List.{List}
use native.Mathlib.Omega.{arith}
use lib.ListN.{length}
use Rattle.utils.specs.Bytes.{pick, pad_to}
use Rattle.lexer.specs.Numbered.{Part, Outcome, tokens_cells, names_cells}
use Rattle.lexer.specs.Read.{reading, read_refusal, lexed_from, reading_of, read_of, sized, padded, read_def, result_of}
use Rattle.lexer.specs.Read.{Reads, counts}
use Rattle.lexer.specs.Sound.{Sound}
use Rattle.pieces.specs.declared.Token.{Token}
use Rattle.pieces.specs.declared.Refusal.{Refusal}
use Rattle.lexer.specs.declared.Counts.{Counts}
use Rattle.lexer.specs.declared.ReadAnswer.{ReadAnswer}
use Rattle.lexer.proofs.Sound.{read_sound, never_cut}
use Rattle.lexer.proofs.Numbers.{refusal-number}

-- the tokens and the names of a text, how many there are, and that they are its reading
pub record Done (s : List ℕ) (line count known : ℕ) : Type 0 where
  pub ts : List Token
  pub ns : List Part
  pub lexed : lexed_from line s ≡ Outcome.done ts ns
  pub counted : count ≡ length ts
  pub counted_names : known ≡ length ns
  pub sound : Sound s line ts ns

pub result-done : (line : ℕ) (s : List ℕ) (count known : ℕ)
    → Ok (counts count known) ≡ result_of (lexed_from line s) → Done s line count known
result-done line s count known e = from (lexed_from line s) refl e
  where
    from : (o : Outcome) → lexed_from line s ≡ o → Ok (counts count known) ≡ result_of o → Done s line count known
    from (Outcome.done ts ns) p q =
        let same : counts count known ≡ counts (length ts) (length ns) = cc in
        record {
          ts = ts;
          ns = ns;
          lexed = p;
          counted = ap (λ (c : Counts). c.tokens) same;
          counted_names = ap (λ (c : Counts). c.names) same;
          sound = read_sound line s ts ns p;
        }
    from (Outcome.refused r) p q = absurd (let z : ◌≡◌ {A = ℕ} 0 1 = cc in omega arith)
    from Outcome.cut p q = absurd (never_cut line s p)

pub result-refused : (line : ℕ) (s : List ℕ) (r : Refusal)
    → Err r ≡ result_of (lexed_from line s) → lexed_from line s ≡ Outcome.refused r
result-refused line s r e = from (lexed_from line s) refl e
  where
    from : (o : Outcome) → lexed_from line s ≡ o → Err r ≡ result_of o → lexed_from line s ≡ Outcome.refused r
    from (Outcome.done ts ns) p q = absurd (let z : ◌≡◌ {A = ℕ} 0 1 = cc in omega arith)
    from (Outcome.refused r') p q = cc
    from Outcome.cut p q = absurd (never_cut line s p)

-- what `read` leaves of a text that it accepts
pub record Accepted (s t₀ n₀ : List ℕ) (r : ReadAnswer) (t n : List ℕ) : Type 0 where
  pub done : Done s 1 r.tokens r.names
  pub tokens : t ≡ pad_to (length t₀) (tokens_cells done.ts)
  pub names : n ≡ pad_to (length n₀) (names_cells done.ns)

pub read-accepted : (s t₀ n₀ m₀ : List ℕ) (r : ReadAnswer) (t n m : List ℕ) → Reads s t₀ n₀ m₀ r t n m → r.number ≡ 0
    → Accepted s t₀ n₀ r t n
unfolding read_def read_of pick
read-accepted s t₀ n₀ m₀ r t n m v z = gate (sized (length t₀) (length n₀) (length m₀)) refl
  where
    from : (o : Outcome) → lexed_from 1 s ≡ o → read_def s t₀ n₀ m₀ ≡ padded t₀ n₀ m₀ (reading_of o)
        → Accepted s t₀ n₀ r t n
    from (Outcome.done ts ns) p q =
        record {
          done = record {
            ts = ts;
            ns = ns;
            lexed = p;
            counted = rw (v.answer, q);
            counted_names = rw (v.answer, q);
            sound = read_sound 1 s ts ns p;
          };
          tokens = rw (v.tokens, q);
          names = rw (v.names, q);
        }
    from (Outcome.refused r') p q =
        absurd (refusal-number r' (sym (ap (λ (a : ReadAnswer). a.number) (rw q at v.answer)) ∙ z))
    from Outcome.cut p q = absurd (never_cut 1 s p)

    gate : (b : Bool) → sized (length t₀) (length n₀) (length m₀) ≡ b → Accepted s t₀ n₀ r t n
    gate true e = from (lexed_from 1 s) refl (rw e)
    gate false e =
        let q : read_def s t₀ n₀ m₀ ≡ reading (read_refusal 30 0 0) t₀ n₀ m₀ = rw e in
        let k : r.number ≡ 30 = ap (λ (a : ReadAnswer). a.number) (rw q at v.answer) in
        absurd (omega arith)
