-- Cells as bytes, one after the other.
use Prim.Native.Nat.{ℕ, zero, suc, ◌+◌, ◌-◌, ◌*◌, ◌≤◌, ◌<◌}
use borrow.Author.Tests.{le-ltb}
use Rattle.lexer.specs.Read.{read_of, ReadsInto}
use Rattle.lexer.proofs.Promise.{no_message, message_finished}
use Rattle.lexer.specs.declared.ReadAnswer.{ReadAnswer}
use Rattle.exports.specs.Bytes.{Export, export, exported, bytes_of, export_def, Exports, le32, le32s}
use mathlib.Core.Path.{◌≡◌, refl, ap, ◌∙◌, sym}
use mathlib.Core.List.{List, [], ◌∷◌, ◌++◌, append-nil}
use native.Mathlib.Omega.{arith}
use native.Mathlib.Numerals.{add-one}
use lib.Dec.{eqb}
use lib.ListN.{length, get_or, take, drop, replicate, length-append, length-take, length-replicate, drop_of_length-le}
use lib.Seq.{sets, drop-cons, sets-eq, length-take-le}
use native.Mathlib.Nat.{zero-add}
use Rattle.utils.specs.Bytes.{pick, pad_to}
use borrow.Rule.Slice.PartMut.{put_mid}
use Rattle.utils.proofs.Runs as Runs
use Rattle.utils.proofs.Runs.{sets_append}

-- one more cell
pub stored : (cells out : List ℕ) (at i : ℕ) → i < length cells
    → sets (sets out (at + i * 4) (le32 (get_or cells i 0))) (at + (i + 1) * 4) (le32s (drop (i + 1) cells)) ≡ sets out
    (at + i * 4) (le32s (drop i cells))
unfolding le32s
stored cells out at i h =
    let e : at + (i + 1) * 4 ≡ at + i * 4 + 4 = omega arith in
    let d = drop-cons cells i 0 h in
    rw (e, add-one, d) (sym (sets_append (le32 (get_or cells i 0)) (le32s (drop (suc i) cells)) out (at + i * 4)))

pub length-le32s : (s : List ℕ) → length (le32s s) ≡ length s * 4
unfolding le32s
length-le32s [] = refl
length-le32s (x ∷ s) = omega (arith, length-le32s s)

le32s_append : (xs ys : List ℕ) → le32s (xs ++ ys) ≡ le32s xs ++ le32s ys
unfolding le32s
le32s_append [] ys = refl
le32s_append (x ∷ xs) ys = ap (λ (l : List ℕ). le32 x ++ l) (le32s_append xs ys)

le32s_zeros : (n : ℕ) → le32s (replicate n 0) ≡ replicate (n * 4) 0
unfolding le32s
le32s_zeros zero = refl
le32s_zeros (suc n) =
    let e : suc n * 4 ≡ suc (suc (suc (suc (n * 4)))) = omega arith in
    rw (e, le32s_zeros n)

-- a part of a slice is cleared
pub cleared : (at k : ℕ) (xs ys : List ℕ) → ys ≡ replicate k 0 → at + k ≤ length xs
    → put_mid at k xs ys ≡ sets xs at (replicate k 0)
cleared at k xs ys e h = Runs.stored at k xs ys (replicate k 0) e (sym (length-replicate {A = ℕ} k 0)) h

-- the first cells of a slice, and zeros behind them
pub front-stored : (out b o cells : List ℕ) (at n : ℕ) → n ≤ length cells → b ≡ sets out at (le32s (take n cells))
    → o ≡ sets b (at + n * 4) (replicate (at + length cells * 4 - (at + n * 4)) 0)
    → o ≡ sets out at (le32s (pad_to (length cells) (take n cells)))
front-stored out b o cells at n h d e =
    let l : length (take n cells) ≡ n = length-take-le n cells h in
    let k : at + length cells * 4 - (at + n * 4) ≡ (length cells - length (take n cells)) * 4 = omega (arith, l) in
    let z : at + n * 4 ≡ at + length (le32s (take n cells)) = omega (arith, length-le32s (take n cells), l) in
    e ∙ rw (d, k, z, le32s_append, le32s_zeros)
    (sym (sets_append (le32s (take n cells)) (replicate ((length cells - length (take n cells)) * 4) 0) out at))

-- a slice's length with zeros behind its first cells
pub length_front : (cells : List ℕ) (n : ℕ) → length (pad_to (length cells) (take n cells)) ≡ length cells
length_front cells n =
    omega (
      arith,
      length-append (take n cells) (replicate (length cells - length (take n cells)) 0),
      length-replicate {A = ℕ} (length cells - length (take n cells)) 0,
      length-take n cells,
    )

-- a run over the whole list
sets-all : (l vs : List ℕ) → length vs ≡ length l → sets l 0 vs ≡ vs
sets-all l vs e = sets-eq vs l 0 (omega arith) ∙ rw (
  zero-add,
  drop_of_length-le l {i = length vs} (omega arith),
) (append-nil vs)

-- two runs of cells, and zeros after them
pub two_runs : (l b b' o : List ℕ) (xs ys : List ℕ) → length xs ≡ 16384 → length ys ≡ 2048 → 73728 ≤ length l
    → b ≡ sets l 0 (le32s xs) → b' ≡ sets b 65536 (le32s ys)
    → o ≡ sets b' 73728 (replicate (length l - 73728) 0) → o ≡ pad_to (length l) (le32s xs ++ le32s ys)
two_runs l b b' o xs ys p q h d e z =
    let lx : length (le32s xs) ≡ 65536 = omega (arith, length-le32s xs) in
    let ly : length (le32s ys) ≡ 8192 = omega (arith, length-le32s ys) in
    let xy = le32s xs ++ le32s ys in
    let lxy : length xy ≡ 73728 = length-append (le32s xs) (le32s ys) ∙ omega arith in
    let w : b' ≡ sets l 0 xy =
    e ∙ rw d (ap (λ (k : ℕ). sets (sets l 0 (le32s xs)) k (le32s ys)) (sym lx ∙ sym (zero-add _))
    ∙ sym (sets_append (le32s xs) (le32s ys) l 0)) in
    let r : List ℕ = replicate (length l - 73728) 0 in
    let v : o ≡ sets l 0 (xy ++ r) =
    z ∙ rw w (ap (λ (k : ℕ). sets (sets l 0 xy) k r) (sym lxy ∙ sym (zero-add _)) ∙ sym (sets_append xy r l 0)) in
    let f : length (xy ++ r) ≡ length l = length-append xy r ∙ rw (lxy, length-replicate) (omega arith) in
    v ∙ sets-all l (xy ++ r) f ∙ rw lxy

-- a reading, and its cells stored
pub whole : (text t n o₀ b b' o m₀ m m' : List ℕ) (r : ReadAnswer) → ReadsInto (read_of text) m₀ r t n m
    → length t ≡ 16384 → length n ≡ 2048 → 73728 ≤ length o₀ → length m ≡ length m₀
    → b ≡ sets o₀ 0 (le32s (pad_to (length t) (take (r.tokens * 4) t)))
    → b' ≡ sets b 65536 (le32s (pad_to (length n) (take (r.names * 2) n)))
    → o ≡ sets b' 73728 (replicate (length o₀ - 73728) 0) → m' ≡ pick (eqb r.number 0) (pad_to (length m) []) m
    → export r o m' ≡ exported o₀ m₀ (read_of text)
unfolding bytes_of read_of
whole text t n o₀ b b' o m₀ m m' r h lt ln v lm d e f g =
    let w = two_runs o₀ b b' o _ _ (length_front t (r.tokens * 4) ∙ lt) (length_front n (r.names * 2) ∙ ln) v d e f in
    let number = ap (λ (a : ReadAnswer). a.number) h.answer in
    let message =
    message_finished r.number (read_of text).message m₀ m m' (λ z. no_message 1 text (sym number ∙ z)) h.message
    lm g in
    same-export h.answer (w ∙ rw (h.tokens, h.names, lt, ln)) message
  where
    same-export : {r r' : ReadAnswer} {o o' m m' : List ℕ} → r ≡ r' → o ≡ o' → m ≡ m' → export r o m ≡ export r' o' m'
    same-export p q s = rw (p, q, s)

-- The promise of `pitchsleet_read` as one equation and by parts. Two answers that it permits are equal.
pub by_parts : {text o₀ m₀ : List ℕ} {r : ReadAnswer} {o m : List ℕ}
    → export r o m ≡ export_def text o₀ m₀ → Exports text o₀ m₀ r o m
by_parts e =
    record {
      answer = ap (λ (x : Export). x.answer) e;
      out = ap (λ (x : Export). x.out) e;
      message = ap (λ (x : Export). x.message) e;
    }

pub as_whole : {text o₀ m₀ : List ℕ} {r : ReadAnswer} {o m : List ℕ}
    → Exports text o₀ m₀ r o m → export r o m ≡ export_def text o₀ m₀
as_whole e = rw (e.answer, e.out, e.message)

-- TWO PERMITTED ANSWERS ARE EQUAL
pub permitted_equal : {text o₀ m₀ : List ℕ} {r r' : ReadAnswer} {o m o' m' : List ℕ}
    → Exports text o₀ m₀ r o m → Exports text o₀ m₀ r' o' m' → export r o m ≡ export r' o' m'
permitted_equal a b = as_whole a ∙ sym (as_whole b)

-- EQUAL TEXTS AND LENGTHS GIVE EQUAL ANSWERS, whatever the slices held before
pub same_text : {text o₀ m₀ o₁ m₁ : List ℕ} {r r' : ReadAnswer} {o m o' m' : List ℕ}
    → 73728 ≤ length o₀ → 512 ≤ length m₀ → length o₀ ≡ length o₁ → length m₀ ≡ length m₁
    → Exports text o₀ m₀ r o m → Exports text o₁ m₁ r' o' m' → export r o m ≡ export r' o' m'
unfolding export_def pick
same_text {o₀ = o₀} {m₀ = m₀} h k p q a b =
    rw (as_whole a, as_whole b, ← p, ← q, le-ltb (length o₀) 73728 h, le-ltb (length m₀) 512 k)
