-- The cells of a check as bytes, one slice after the other.
use Prim.Native.Nat.{ℕ, ◌+◌, ◌*◌, ◌-◌, ◌≤◌}
use mathlib.Core.Path.{◌≡◌, refl, sym, ap, ◌∙◌}
use mathlib.Core.List.{List, [], ◌++◌, append-nil}
use borrow.Author.Tests.{le-ltb}
use native.Mathlib.Omega.{arith}
use native.Mathlib.Nat.{zero-add}
use lib.Dec.{eqb}
use lib.ListN.{length, take, replicate, drop_of_length-le, length-append, length-replicate}
use lib.Seq.{sets, sets-eq}
use Rattle.utils.specs.Bytes.{pick, pad_to}
use Rattle.utils.proofs.Runs.{sets_append}
use Rattle.functions.specs.Answer.{Slices, slices}
use Rattle.unit.specs.Outcome.{as_long}
use Rattle.checker.specs.Check.{Checking, check_of}
use Rattle.checker.specs.Promise.{rows_used, fronts_of, ChecksInto}
use Rattle.checker.specs.Promise as cells
use Rattle.checker.specs.declared.CheckAnswer.{CheckAnswer}
use Rattle.exports.specs.Bytes.{le32s}
use Rattle.exports.specs.CheckBytes.{cell_bytes, front_bytes, Export, export, exported, gated, export_def, Sizes}
use Rattle.exports.specs.CheckBytes.{Gives, Exports}
use Rattle.exports.proofs.Cells.{length-le32s, length_front}
use Rattle.lexer.proofs.Promise.{message_finished}

-- two adjacent runs are one
join : (b₀ b₁ b₂ : List ℕ) (at k : ℕ) (xs ys : List ℕ) → k ≡ at + length xs → b₁ ≡ sets b₀ at xs → b₂ ≡ sets b₁ k ys
    → b₂ ≡ sets b₀ at (xs ++ ys)
join b₀ b₁ b₂ at k xs ys p d e = e ∙ rw (p, d) (sym (sets_append xs ys b₀ at))

sets-all : (l vs : List ℕ) → length vs ≡ length l → sets l 0 vs ≡ vs
sets-all l vs e =
    sets-eq vs l 0 (omega arith) ∙ rw (zero-add, drop_of_length-le l {i = length vs} (omega arith)) (append-nil vs)

-- a run from 0, and zeros after it
final : (l b o xs : List ℕ) (k : ℕ) → length xs ≡ k → k ≤ length l → b ≡ sets l 0 xs
    → o ≡ sets b k (replicate (length l - k) 0) → o ≡ pad_to (length l) xs
final l b o xs k q h d e =
    let r : List ℕ = replicate (length l - k) 0 in
    let f : length (xs ++ r) ≡ length l = length-append xs r ∙ rw (q, length-replicate) (omega arith) in
    join l b o 0 k xs r (omega arith) d e ∙ sets-all l (xs ++ r) f ∙ rw q

module _ (t n f i a b p : List ℕ) (z : Sizes t n (slices f i a b p)) where
  whole_long : length (cell_bytes t n (slices f i a b p)) ≡ 252228
  unfolding cell_bytes
  whole_long =
      simp (
        length-append,
        length-le32s,
        z.tokens,
        z.names,
        z.functions,
        z.items,
        z.arguments,
        z.blocks,
        z.predecessors,
      ) refl

  pub all-stored : (l b₁ b₂ b₃ b₄ b₅ b₆ b₇ o : List ℕ) → 252228 ≤ length l
      → b₁ ≡ sets l 0 (le32s t) → b₂ ≡ sets b₁ 65536 (le32s n) → b₃ ≡ sets b₂ 73728 (le32s f) → b₄ ≡ sets b₃ 85252
      (le32s i)
      → b₅ ≡ sets b₄ 183556 (le32s a) → b₆ ≡ sets b₅ 211268 (le32s b) → b₇ ≡ sets b₆ 244036 (le32s p)
      → o ≡ sets b₇ 252228 (replicate (length l - 252228) 0) → o ≡ pad_to (length l) (cell_bytes t n (slices f i a b p))
  unfolding cell_bytes
  all-stored l b₁ b₂ b₃ b₄ b₅ b₆ b₇ o h e₁ e₂ e₃ e₄ e₅ e₆ e₇ e₈ =
      let w₆ = join b₅ b₆ b₇ 211268 244036 (le32s b) (le32s p) (omega (arith, length-le32s b, z.blocks)) e₆ e₇ in
      let w₅ = join b₄ b₅ b₇ 183556 211268 (le32s a) (le32s b ++ le32s p)
      (omega (arith, length-le32s a, z.arguments)) e₅ w₆ in
      let w₄ = join b₃ b₄ b₇ 85252 183556 (le32s i) (le32s a ++ (le32s b ++ le32s p))
      (omega (arith, length-le32s i, z.items)) e₄ w₅ in
      let w₃ = join b₂ b₃ b₇ 73728 85252 (le32s f) (le32s i ++ (le32s a ++ (le32s b ++ le32s p)))
      (omega (arith, length-le32s f, z.functions)) e₃ w₄ in
      let w₂ = join b₁ b₂ b₇ 65536 73728 (le32s n) (le32s f ++ (le32s i ++ (le32s a ++ (le32s b ++ le32s p))))
      (omega (arith, length-le32s n, z.names)) e₂ w₃ in
      let w₁ = join l b₁ b₇ 0 65536 (le32s t) (le32s n ++ (le32s f ++ (le32s i ++ (le32s a ++ (le32s b ++ le32s p)))))
      (omega (arith, length-le32s t, z.tokens)) e₁ w₂ in
      final l b₇ o (cell_bytes t n (slices f i a b p)) 252228 whole_long h w₁ e₈

-- the bytes of the fronts of slices that have their sizes
fronts-sized : (r : CheckAnswer) (t n f i a b p : List ℕ) → Sizes t n (slices f i a b p)
    → Sizes (pad_to (length t) (take (r.tokens * 4) t)) (pad_to (length n) (take (r.names * 2) n))
    (as_long (slices f i a b p) (fronts_of r (slices f i a b p)))
fronts-sized r t n f i a b p z =
    record {
      tokens = length_front t (r.tokens * 4) ∙ z.tokens;
      names = length_front n (r.names * 2) ∙ z.names;
      functions = length_front f (rows_used r) ∙ z.functions;
      items = length_front i (r.items * 8) ∙ z.items;
      arguments = length_front a (r.arguments * 2) ∙ z.arguments;
      blocks = length_front b (r.blocks * 8) ∙ z.blocks;
      predecessors = length_front p r.predecessors ∙ z.predecessors;
    }

pub fronts-stored : (r : CheckAnswer) (t n f i a b p : List ℕ) → Sizes t n (slices f i a b p)
    → (l b₁ b₂ b₃ b₄ b₅ b₆ b₇ o : List ℕ) → 252228 ≤ length l
    → b₁ ≡ sets l 0 (le32s (pad_to (length t) (take (r.tokens * 4) t)))
    → b₂ ≡ sets b₁ 65536 (le32s (pad_to (length n) (take (r.names * 2) n)))
    → b₃ ≡ sets b₂ 73728 (le32s (pad_to (length f) (take (rows_used r) f)))
    → b₄ ≡ sets b₃ 85252 (le32s (pad_to (length i) (take (r.items * 8) i)))
    → b₅ ≡ sets b₄ 183556 (le32s (pad_to (length a) (take (r.arguments * 2) a)))
    → b₆ ≡ sets b₅ 211268 (le32s (pad_to (length b) (take (r.blocks * 8) b)))
    → b₇ ≡ sets b₆ 244036 (le32s (pad_to (length p) (take r.predecessors p)))
    → o ≡ sets b₇ 252228 (replicate (length l - 252228) 0)
    → o ≡ pad_to (length l) (front_bytes r t n (slices f i a b p))
fronts-stored r t n f i a b p z l b₁ b₂ b₃ b₄ b₅ b₆ b₇ o h e₁ e₂ e₃ e₄ e₅ e₆ e₇ e₈ =
    all-stored _ _ _ _ _ _ _ (fronts-sized r t n f i a b p z) l b₁ b₂ b₃ b₄ b₅ b₆ b₇ o h e₁ e₂ e₃ e₄ e₅ e₆ e₇ e₈

-- slices of exactly their sizes have them
pub sizes_reached : (m t n f i a b p : List ℕ) → Sizes t n (slices f i a b p) → 512 ≤ length m
    → cells.Sizes m t n (slices f i a b p)
sizes_reached m t n f i a b p z h =
    record {
      message_long = h;
      tokens_long = omega (arith, z.tokens);
      names_long = omega (arith, z.names);
      functions_long = omega (arith, z.functions);
      long = record {
        items_long = omega (arith, z.items);
        arguments_long = omega (arith, z.arguments);
        blocks_long = omega (arith, z.blocks);
        predecessors_long = omega (arith, z.predecessors);
      };
    }

-- an answer x, and its cells stored
pub out_of : (x : Checking) → (x.answer.number ≡ 0 → x.message ≡ []) → (t n f i a b p : List ℕ)
    → Sizes t n (slices f i a b p) → (r : CheckAnswer) (m₀ m m' o₀ o : List ℕ)
    → ChecksInto x m₀ r m t n (slices f i a b p) → length m ≡ length m₀
    → o ≡ pad_to (length o₀) (front_bytes r t n (slices f i a b p))
    → m' ≡ pick (eqb r.number 0) (pad_to (length m) []) m → export r o m' ≡ exported o₀ m₀ x
out_of x silent t n f i a b p z r m₀ m m' o₀ o h lm d g =
    let number = ap (λ (y : CheckAnswer). y.number) h.answer in
    let message =
    message_finished r.number x.message m₀ m m' (λ q. silent (sym number ∙ q)) h.message lm g in
    let u = slices f i a b p in
    same-export h.answer
    (d
    ∙ ap (λ (s : Slices). pad_to (length o₀) (cell_bytes (pad_to (length t) (take (r.tokens * 4) t))
    (pad_to (length n) (take (r.names * 2) n)) (as_long u s))) h.unit
    ∙ rw (h.tokens, h.names, z.tokens, z.names, z.functions, z.items, z.arguments, z.blocks, z.predecessors))
    message
  where
    same-export : {r r' : CheckAnswer} {o o' m m' : List ℕ} → r ≡ r' → o ≡ o' → m ≡ m' → export r o m ≡ export r' o' m'
    same-export p q s = rw (p, q, s)

-- A promise of the C functions as one equation and by parts. Two answers that it permits are equal.
pub by_parts : {d : Export} {r : CheckAnswer} {o m : List ℕ} → export r o m ≡ d → Gives d r o m
by_parts e =
    record {
      answer = ap (λ (x : Export). x.answer) e;
      out = ap (λ (x : Export). x.out) e;
      message = ap (λ (x : Export). x.message) e;
    }

as_whole : {d : Export} {r : CheckAnswer} {o m : List ℕ} → Gives d r o m → export r o m ≡ d
as_whole e = rw (e.answer, e.out, e.message)

-- what one definition permits is equal
pub gives_equal : {d : Export} {r r' : CheckAnswer} {o m o' m' : List ℕ}
    → Gives d r o m → Gives d r' o' m' → export r o m ≡ export r' o' m'
gives_equal a b = as_whole a ∙ sym (as_whole b)

-- TWO PERMITTED ANSWERS ARE EQUAL
pub permitted_equal : (text o₀ m₀ : List ℕ) {r r' : CheckAnswer} {o m o' m' : List ℕ}
    → Exports text o₀ m₀ r o m → Exports text o₀ m₀ r' o' m' → export r o m ≡ export r' o' m'
permitted_equal text o₀ m₀ a b = gives_equal a b

-- slices of equal lengths that have their sizes, whatever they held before
pub same-gated : (x : Checking) (o₀ m₀ o₁ m₁ : List ℕ) {r r' : CheckAnswer} {o m o' m' : List ℕ}
    → 252228 ≤ length o₀ → 512 ≤ length m₀ → length o₀ ≡ length o₁ → length m₀ ≡ length m₁
    → Gives (gated o₀ m₀ x) r o m → Gives (gated o₁ m₁ x) r' o' m' → export r o m ≡ export r' o' m'
unfolding pick
same-gated x o₀ m₀ o₁ m₁ h k p q a b =
    rw (as_whole a, as_whole b, ← p, ← q, le-ltb (length o₀) 252228 h, le-ltb (length m₀) 512 k)

-- EQUAL TEXTS AND LENGTHS GIVE EQUAL ANSWERS, whatever the slices held before
pub same_text : (text : List ℕ) (o₀ m₀ o₁ m₁ : List ℕ) {r r' : CheckAnswer} {o m o' m' : List ℕ}
    → 252228 ≤ length o₀ → 512 ≤ length m₀ → length o₀ ≡ length o₁ → length m₀ ≡ length m₁
    → Exports text o₀ m₀ r o m → Exports text o₁ m₁ r' o' m' → export r o m ≡ export r' o' m'
unfolding export_def
same_text text o₀ m₀ o₁ m₁ h k p q a b = same-gated (check_of text) o₀ m₀ o₁ m₁ h k p q a b
