-- What is left of a text that is read and accepted, as the functions of the checker take it. Its first line has any
-- number.
use Prim.Native.Nat.{ℕ, ◌*◌, ◌-◌, ◌≤◌}
use mathlib.Core.Path.{◌≡◌, refl, sym, ap, ◌∙◌}
use mathlib.Core.List.{List, [], ◌++◌, append-nil}
use native.Mathlib.Nat.{sub-zero}
use native.Mathlib.Omega.{arith}
use lib.ListN.{length, take, drop, replicate}
use lib.Seq.{take_all}
use Rattle.utils.specs.Bytes.{pad_to}
use Rattle.lexer.specs.Numbered.{Outcome, tokens_cells, names_cells}
use Rattle.lexer.specs.Read.{Reading, reading, accepted, lexed_from, reading_of, read_from}
use Rattle.lexer.specs.Decoded.{tokens_of}
use Rattle.lexer.specs.declared.ReadAnswer.{ReadAnswer}
use Rattle.lexer.specs.declared.TokenAt.{TokenAt}
use Rattle.lexer.proofs.Sound.{read_sound, never_cut}
use Rattle.lexer.proofs.Numbers.{refusal-number}
use Rattle.lexer.proofs.Accepted.{Done}
use Rattle.lexer.proofs.Promise.{done-reading}
use Rattle.lexer.proofs.Cells.{length-tokens_cells, length-names_cells, cells-token-last}
use Rattle.body.specs.Room.{Within}
use Rattle.messages.specs.Messages.{ShortNames}
use Rattle.messages.proofs.Short.{short-names}
use Rattle.checker.specs.Promise.{Lexed}

pub unpadded : (l : List ℕ) → pad_to 0 l ≡ l
unpadded l =
    let m : 0 - length l ≡ 0 = omega arith in
    ap (λ (k : ℕ). l ++ replicate k 0) m ∙ append-nil l

-- the part that the code lends
pub from_start : (k : ℕ) (s : List ℕ) → take (k - 0) (drop 0 s) ≡ take k s
from_start k s = rw sub-zero

module _ {line : ℕ} {text t n : List ℕ} {r : ReadAnswer} (v : Lexed line text r t n) where
  pub is-done : Done text line r.tokens r.names
  is-done = from (lexed_from line text) refl
    where
      from : (o : Outcome) → lexed_from line text ≡ o → Done text line r.tokens r.names
      from (Outcome.done ts ns) p =
          let q = rw p at v.answer in
          record {
            ts = ts;
            ns = ns;
            lexed = p;
            counted = ap (λ (a : ReadAnswer). a.tokens) q;
            counted_names = ap (λ (a : ReadAnswer). a.names) q;
            sound = read_sound line text ts ns p;
          }
      from (Outcome.refused e) p =
          absurd (refusal-number e (sym (ap (λ (a : ReadAnswer). a.number) (rw p at v.answer)) ∙ v.fine))
      from Outcome.cut p = absurd (never_cut line text p)

  pub read_as_lem : read_from line text
      ≡ reading (accepted r.tokens r.names) (tokens_cells is-done.ts) (names_cells is-done.ns) []
  read_as_lem = done-reading is-done

  pub read-tokens : (read_from line text).tokens ≡ tokens_cells is-done.ts
  read-tokens = ap (λ (x : Reading). x.tokens) read_as_lem

  pub read_names : (read_from line text).names ≡ names_cells is-done.ns
  read_names = ap (λ (x : Reading). x.names) read_as_lem

  pub tokens_few : r.tokens ≤ 4096
  tokens_few = omega (arith, is-done.counted, is-done.sound.few)

  pub names_few : r.names ≤ 1024
  names_few = omega (arith, is-done.counted_names, is-done.sound.few_names)

  -- the cells in use, as the code lends them
  pub used_tokens : take (r.tokens * 4 - 0) (drop 0 t) ≡ (read_from line text).tokens
  used_tokens = from_start (r.tokens * 4) t ∙ v.tokens

  pub used_names : take (r.names * 2 - 0) (drop 0 n) ≡ (read_from line text).names
  used_names = from_start (r.names * 2) n ∙ v.names

  pub tokens_unpadded : (read_from line text).tokens ≡ pad_to 0 (tokens_cells is-done.ts)
  tokens_unpadded = read-tokens ∙ sym (unpadded (tokens_cells is-done.ts))

  pub within : Within (tokens_of (read_from line text).tokens) 0
  within =
      rw tokens_unpadded
      (record {
        last = length is-done.ts - 1;
        ends = ap (λ (x : TokenAt). x.kind) (cells-token-last 0 is-done.sound);
        reached = omega arith;
        few = omega (arith, is-done.sound.few);
      })

  pub short : ShortNames text (read_from line text).names
  short =
      rw (read_names ∙ sym (unpadded (names_cells is-done.ns)))
      (short-names text line 0 is-done.ts is-done.ns is-done.sound)

-- a reading as it is
pub lexed_itself : (line : ℕ) (text : List ℕ) → (read_from line text).answer.number ≡ 0
    → Lexed line text (read_from line text).answer (read_from line text).tokens (read_from line text).names
lexed_itself line text z = from (lexed_from line text) refl z
  where
    from : (o : Outcome) → lexed_from line text ≡ o → (reading_of o).answer.number ≡ 0
        → Lexed line text (read_from line text).answer (read_from line text).tokens (read_from line text).names
    from (Outcome.done ts ns) p h =
        rw p (record {
          answer = rw p;
          fine = refl;
          tokens = rw p (take_all (length ts * 4) (tokens_cells ts) (omega (arith, length-tokens_cells ts)));
          names = rw p (take_all (length ns * 2) (names_cells ns) (omega (arith, length-names_cells ns)));
        })
    from (Outcome.refused e) p h = absurd (refusal-number e h)
    from Outcome.cut p h = absurd (never_cut line text p)
