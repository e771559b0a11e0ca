-- The header table that `pitchsleet_check` wrote for an accepted text is never refused with 42 by `pitchsleet_recheck`.
-- Its bytes are cut out of the output; read as cells again they give every small cell; and the cells that recheck looks
-- at are all small, since check's own table is in range (`header_in_range`).
use Prim.Native.Nat.{ℕ, zero, suc, ◌+◌, ◌-◌, ◌*◌, ◌/◌, ◌%◌, ◌≤◌, ◌<◌}
use mathlib.Core.Path.{◌≡◌, refl, sym, ap, ◌∙◌}
use mathlib.Core.List.{List, [], ◌∷◌, ◌++◌, append_assoc}
use mathlib.Core.Bool.{Bool, true, false}
use native.Mathlib.Omega.{arith}
use native.Mathlib.Nat.{zero-add}
use lib.Dec.{ltb}
use lib.ListN.{length, get_or, take, replicate, length-append, length-replicate}
use lib.Seq.{slice, get_or-take, take-append-le, take-append-add, drop_at, length-take-le}
use Rattle.utils.specs.Bytes.{pick, pad_to}
use Rattle.lexer.specs.Numbered.{tokens_cells, names_cells}
use Rattle.lexer.specs.Read.{read_of}
use Rattle.lexer.specs.Sound.{Sound}
use Rattle.lexer.proofs.Sound.{read_sound}
use Rattle.lexer.proofs.Cells.{length-tokens_cells, length-names_cells}
use Rattle.functions.specs.Columns.{ret_at, type_at, count_at, block_count_at, place_at, length_at, line_at, formal_type_at}
use Rattle.checker.specs.Check.{Checking, check_refusal, check_of}
use Rattle.headers.specs.Ranges.{RowInRange, TableInRange}
use Rattle.checker.specs.Numbers.{Accepts}
use Rattle.checker.specs.declared.CheckAnswer.{CheckAnswer}
use Rattle.checker.proofs.Numbers.{every_number}
use Rattle.checker.proofs.Header.{header_in_range}
use Rattle.recheck.specs.Recheck.{recheck_of}
use Rattle.headers.proofs.Ranges.{Tabled}
use Rattle.recheck.proofs.Laws.{padded-long, first_cell_lem, zero-accepts, table-not_42}
use Rattle.exports.specs.Bytes.{le32s}
use Rattle.exports.specs.CheckBytes.{cell_bytes, bytes_of, export, exported, gated, export_def, Gives, Exports}
use Rattle.pitchsleet.specs.RecheckBytes.{cell_at, cells_at, cell_count, table_of, recheck_def, Rechecks}
use Rattle.exports.proofs.Cells.{length-le32s}
use Rattle.pitchsleet.proofs.Tables.{length-cells}

-- Cells as bytes and back. -------------------------------------------------------------------------------------------

-- four bytes of a small cell give the cell
small_again : (x : ℕ) → x ≤ 16385
    → x % 256 + x / 256 % 256 * 256 + x / 65536 % 256 * 65536 + x / 16777216 % 256 * 16777216 ≡ x
small_again x h = omega arith

-- so a small cell can be read from the bytes of all cells
cell_there : (cells : List ℕ) (i : ℕ) → i < length cells → get_or cells i 0 ≤ 16385
    → cell_at (le32s cells) (i * 4) ≡ get_or cells i 0
unfolding le32s
cell_there [] i h s = absurd (omega arith)
cell_there (x ∷ cells) zero h s = small_again x s
cell_there (x ∷ cells) (suc i) h s =
    let k : suc i * 4 ≡ suc (suc (suc (suc (i * 4)))) = omega arith in
    let k₁ : suc i * 4 + 1 ≡ suc (suc (suc (suc (i * 4 + 1)))) = omega arith in
    let k₂ : suc i * 4 + 2 ≡ suc (suc (suc (suc (i * 4 + 2)))) = omega arith in
    let k₃ : suc i * 4 + 3 ≡ suc (suc (suc (suc (i * 4 + 3)))) = omega arith in
    rw (k₁, k₂, k₃, k) (cell_there cells i (omega arith) s)

-- the bytes of a cell that are all in a part are those of the whole
cell_in_part : (n : ℕ) (bytes : List ℕ) (at : ℕ) → at + 4 ≤ n → cell_at (take n bytes) at ≡ cell_at bytes at
cell_in_part n bytes at h =
    rw (
      get_or-take n bytes at 0 (omega arith),
      get_or-take n bytes (at + 1) 0 (omega arith),
      get_or-take n bytes (at + 2) 0 (omega arith),
      get_or-take n bytes (at + 3) 0 (omega arith),
    )

-- the cell that a table reads from its bytes
cell_of : (n : ℕ) (bytes : List ℕ) (at i : ℕ) → i < n → get_or (cells_at bytes at n) i 0 ≡ cell_at bytes (at + i * 4)
unfolding cells_at
cell_of zero bytes at i h = absurd (omega arith)
cell_of (suc n) bytes at zero h =
    let k : at + 0 * 4 ≡ at = omega arith in
    rw k
cell_of (suc n) bytes at (suc i) h =
    let k : at + suc i * 4 ≡ at + 4 + i * 4 = omega arith in
    rw k (cell_of n bytes (at + 4) i (omega arith))

-- The bytes of a table, and cells that are a table of its size at least.
module _ (bytes cells : List ℕ) (e : bytes ≡ take 11524 (le32s cells)) (long : 2881 ≤ length cells) where
  bytes-long : length bytes ≡ 11524
  bytes-long = ap length e ∙ length-take-le 11524 (le32s cells) (omega (arith, length-le32s cells))

  table_is : table_of bytes ≡ cells_at bytes 0 2881
  unfolding cell_count pick
  table_is = ap (λ (n : ℕ). cells_at bytes 0 (cell_count n)) bytes-long

  table-long : length (table_of bytes) ≡ 2881
  table-long = ap length table_is ∙ length-cells 2881 bytes 0

  -- every small cell is there again
  same_cell : (i : ℕ) → i < 2881 → get_or cells i 0 ≤ 16385 → get_or (table_of bytes) i 0 ≡ get_or cells i 0
  same_cell i l s =
      ap (λ (t : List ℕ). get_or t i 0) table_is
      ∙ cell_of 2881 bytes 0 i l
      ∙ ap (cell_at bytes) (zero-add (i * 4))
      ∙ ap (λ (b : List ℕ). cell_at b (i * 4)) e
      ∙ cell_in_part 11524 (le32s cells) (i * 4) (omega arith)
      ∙ cell_there cells i (omega arith) s

-- Ranges. ------------------------------------------------------------------------------------------------------------

-- A table that has every small cell of one in range is in range: the cells that are looked at are small.
module _ (text cells table : List ℕ)
    (same : (i : ℕ) → i < 2881 → get_or cells i 0 ≤ 16385 → get_or table i 0 ≡ get_or cells i 0) where
  row_again : (i : ℕ) → i < 64 → RowInRange text cells i → RowInRange text table i
  row_again i l r =
      let place = same (place_at i) (omega arith) (omega (arith, r.place)) in
      let len = same (length_at i) (omega arith) (omega (arith, r.name_length.1)) in
      let line = same (line_at i) (omega arith) r.line.1 in
      let ret = same (ret_at i) (omega arith) (omega (arith, r.ret.1)) in
      let type = same (type_at i) (omega arith) (omega (arith, r.type)) in
      let blocks = same (block_count_at i) (omega arith) (omega (arith, r.blocks.1)) in
      let formals = same (count_at i) (omega arith) (omega (arith, r.formals)) in
      record {
        name = rw (place, len) r.name;
        place = rw place r.place;
        name_length = rw len r.name_length;
        line = rw line r.line;
        ret = rw ret r.ret;
        type = rw type r.type;
        blocks = rw blocks r.blocks;
        formals = rw formals r.formals;
        types_are = λ k h.
            let k-few : k < get_or cells (count_at i) 0 = rw formals at h in
            let t = r.types_are k k-few in
            rw (same (formal_type_at i k) (omega (arith, k-few, r.formals)) (omega (arith, t.1))) t;
      }

  in_range_again : TableInRange text cells → TableInRange text table
  in_range_again r =
      let count = same 0 (omega arith) (omega (arith, r.count)) in
      record {
        count = rw count r.count;
        each = λ i h.
            let few : i < get_or cells 0 0 = rw count at h in
            row_again i (omega (arith, few, r.count)) (r.each i few);
      }

-- The table in the output. -------------------------------------------------------------------------------------------

-- what stands behind a list, up to a length
part-behind : (f n : ℕ) (a r : List ℕ) → length a ≡ f → slice f (f + n) (a ++ r) ≡ take n r
part-behind f n a r h = rw (← h, take-append-add a r n) (drop_at a (take n r) (length a) refl)

regroup : (a b c d z : List ℕ) → (a ++ (b ++ (c ++ d))) ++ z ≡ (a ++ b) ++ (c ++ (d ++ z))
regroup a b c d z =
    append_assoc a (b ++ (c ++ d)) z
    ∙ ap (λ (l : List ℕ). a ++ l) (append_assoc b (c ++ d) z ∙ ap (λ (l : List ℕ). b ++ l) (append_assoc c d z))
    ∙ sym (append_assoc a b (c ++ (d ++ z)))

-- the third of the lists, from where the first two end
third : (f n : ℕ) (a b c d z : List ℕ) → length a + length b ≡ f → n ≤ length c
    → slice f (f + n) ((a ++ (b ++ (c ++ d))) ++ z) ≡ take n c
third f n a b c d z h k =
    ap (slice f (f + n)) (regroup a b c d z)
    ∙ part-behind f n (a ++ b) (c ++ (d ++ z)) (length-append a b ∙ h)
    ∙ take-append-le n c (d ++ z) k

-- padding gives a list its length if it wasn't longer
padded_exact : (k : ℕ) (l : List ℕ) → length l ≤ k → length (pad_to k l) ≡ k
padded_exact k l h =
    omega (arith, length-append l (replicate (k - length l) 0), length-replicate {A = ℕ} (k - length l) 0)

-- tokens and names fill their room, so the table stands at its place
table-cut : (k : ℕ) (x : Checking) → length x.tokens ≤ 16384 → length x.names ≤ 2048
    → slice 73728 85252 (pad_to k (bytes_of x)) ≡ take 11524 (le32s (pad_to 2881 x.unit.functions))
unfolding cell_bytes
table-cut k x t n =
    let ts = pad_to 16384 x.tokens in
    let ns = pad_to 2048 x.names in
    let fs = pad_to 2881 x.unit.functions in
    third 73728 11524 (le32s ts) (le32s ns) (le32s fs) _ _
    (omega (
      arith,
      length-le32s ts,
      length-le32s ns,
      padded_exact 16384 x.tokens t,
      padded_exact 2048 x.names n,
    ))
    (omega (arith, length-le32s fs, padded-long 2881 x.unit.functions))

-- The gate. ----------------------------------------------------------------------------------------------------------

-- an answer that isn't 30 has passed the gate
module _ (o₀ m₀ : List ℕ) (x : Checking) (r : CheckAnswer) (o m : List ℕ) where
  passed-by : (a b : Bool)
      → Gives (pick a (export (check_refusal 30 0 0) o₀ m₀) (pick b (export (check_refusal 30 0 0) o₀ m₀)
      (exported o₀ m₀ x))) r o m
      → (r.number ≡ 30 → ⊥) → (r ≡ x.answer) × (o ≡ pad_to (length o₀) (bytes_of x))
  unfolding pick
  passed-by true b g k = absurd (k (ap (λ (a : CheckAnswer). a.number) g.answer))
  passed-by false true g k = absurd (k (ap (λ (a : CheckAnswer). a.number) g.answer))
  passed-by false false g k = (g.answer, g.out)

  passed : Gives (gated o₀ m₀ x) r o m → (r.number ≡ 30 → ⊥)
      → (r ≡ x.answer) × (o ≡ pad_to (length o₀) (bytes_of x))
  passed = passed-by (ltb (length o₀) 252228) (ltb (length m₀) 512)

-- A text that is accepted. -------------------------------------------------------------------------------------------

module _ (text : List ℕ) (a : Accepts text) where
  lexed_sound : Sound text 1 a.tokens a.names
  lexed_sound = read_sound 1 text a.tokens a.names a.lexed

  tokens_are : (check_of text).tokens ≡ tokens_cells a.tokens
  unfolding check_of read_of pick
  tokens_are = rw (a.lexed, a.typed)

  names_are : (check_of text).names ≡ names_cells a.names
  unfolding check_of read_of pick
  names_are = rw (a.lexed, a.typed)

  tokens_few : length (check_of text).tokens ≤ 16384
  tokens_few = omega (arith, ap length tokens_are, length-tokens_cells a.tokens, lexed_sound.few)

  names_few : length (check_of text).names ≤ 2048
  names_few = omega (arith, ap length names_are, length-names_cells a.names, lexed_sound.few_names)

  -- the table's cells, of which the first is how many functions there are
  abbrev cells : List ℕ
  cells = pad_to 2881 (check_of text).unit.functions

  -- its bytes are a table for each function
  module _ (bytes : List ℕ) (e : bytes ≡ take 11524 (le32s cells)) where
    long : 2881 ≤ length cells
    long = padded-long 2881 (check_of text).unit.functions

    tabled_again : (number : ℕ) → number < (check_of text).answer.functions → Tabled text (table_of bytes) number
    tabled_again number l =
        let range = header_in_range text 2881 in
        let same = same_cell bytes cells e long in
        record {
          short = lexed_sound.short;
          sized = omega (arith, table-long bytes cells e long);
          there = omega (arith, l, first_cell_lem text 2881 a, same 0 (omega arith) (omega (arith, range.count)));
          in_range = in_range_again text cells (table_of bytes) same range;
        }

-- THE TABLE THAT check WROTE IS NEVER REFUSED WITH 42: the bytes from 73,728 up to 85,252 of the output for an accepted
-- text, taken with that text, for any of its functions and any new text.
pub never_42 : (text o₀ m₀ : List ℕ) {r : CheckAnswer} {o m : List ℕ} → Exports text o₀ m₀ r o m → r.number ≡ 0
    → (number : ℕ) → number < r.functions → (new o₁ m₁ : List ℕ) {r' : CheckAnswer} {o' m' : List ℕ}
    → Rechecks text (slice 73728 85252 o) number new o₁ m₁ r' o' m' → r'.number ≡ 42 → ⊥
unfolding export_def recheck_def
never_42 text o₀ m₀ {r} {o} {m} p z number l new o₁ m₁ {r'} {o'} {m'} q e =
    let bytes = slice 73728 85252 o in
    let written = passed o₀ m₀ (check_of text) r o m p (λ h. omega (arith, z, h)) in
    let again = passed o₁ m₁ (recheck_of text (table_of bytes) number new) r' o' m' q (λ h. omega (arith, e, h)) in
    let a = zero-accepts text _ (every_number text) (sym (ap (λ (y : CheckAnswer). y.number) written.0) ∙ z) in
    let cut = ap (slice 73728 85252) written.1
    ∙ table-cut (length o₀) (check_of text) (tokens_few text a) (names_few text a) in
    let few : number < (check_of text).answer.functions =
    omega (arith, l, ap (λ (y : CheckAnswer). y.functions) written.0) in
    table-not_42 text (table_of bytes) number new (tabled_again text a bytes cut number few)
    (sym (ap (λ (y : CheckAnswer). y.number) again.0) ∙ e)
