-- Demand 3's premises by tokens alone give those by bytes; the theorems once more, by the premises alone.
use Prim.Native.Nat.{ℕ, ◌+◌, ◌-◌, ◌<◌}
use mathlib.Core.Path.{◌≡◌, refl, sym, ap, ◌∙◌}
use mathlib.Core.List.{List, ◌∷◌, ◌++◌, append-nil}
use native.Mathlib.Omega.{arith}
use native.Mathlib.Nat.{add-zero, zero-add}
use lib.ListN.{length, get_or, drop, length-append, get_or-append}
use lib.Seq.{drop-cons, get_or-append-add}
use Rattle.pieces.specs.declared.Token.{Token}
use Rattle.lexer.specs.Numbered.{Part, Outcome, spellings, tokens_cells}
use Rattle.lexer.specs.Read.{lexed_from, reading_of}
use Rattle.joined.proofs.Limits.{edited_lexes}
use Rattle.joined.specs.Edits.{Edit, Replaced}
use Rattle.joined.proofs.Parts.{Lexes, lexes-of, length_moved}
use Rattle.joined.proofs.Bytes.{token-says}
use Rattle.lexer.specs.Decoded.{Tok, tokens_of}
use Rattle.lexer.proofs.Same.{length-spellings}
use Rattle.parser.specs.Moved.{Sim}
use Rattle.joined.specs.Runs.{move_items}
use Rattle.joined.specs.Names.{Apart, move_of}
use Rattle.joined.proofs.Names.{renamed-spelled, renamed-apart, both-length}
use Rattle.joined.specs.Readings.{held, Readings}
use Rattle.joined.proofs.Edits.{Known, known, tail, end_of, new-distinct, new_related, rest-table, rest-distinct}
use Rattle.joined.proofs.Edits.{rest-alone, rest_in_old, front-table, front-known, front-spelled}
use Rattle.joined.proofs.Edits.{edited_distinct, rest_in_edited, pre_same, pre_related, new-named}
use Rattle.joined.proofs.Edits.{rest-named, upto, new_items, old_items}

-- a list by its first byte
pub begins_with : (s : List ℕ) (b : ℕ) → 0 < length s → get_or s 0 0 ≡ b → s ≡ b ∷ drop 1 s
begins_with s b h e = drop-cons s 0 0 h ∙ ap (λ (x : ℕ). x ∷ drop 1 s) e

pub first_of : (pre f post : List ℕ) → 0 < length f → get_or (pre ++ (f ++ post)) (length pre) 0 ≡ get_or f 0 0
first_of pre f post h =
    rw add-zero at (get_or-append-add pre (f ++ post) 0 0) ∙ get_or-append f post 0 0 h

abbrev pub edit_of : {pre f post new : List ℕ} {line first : ℕ} → Replaced pre f post new line first
    → Edit pre f post new line first
edit_of {pre} {f} {post} {new} {line} {first} r =
    record {
      old_tokens = r.old_tokens;
      old_names = r.old_names;
      old_lexes = r.old_lexes;
      f_rest = drop 1 f;
      f_begins = begins_with f 64 some (sym (first_of pre f post some) ∙ at_pre);
      opening = r.opening;
      opens = record {
        before_end = omega (arith, r.order, r.inner);
        stands_at = r.opens_at;
        on_line =
            r.opens_line;
      };
      closing = r.closing;
      closes = record {
        before_end = r.inner;
        ends_at = r.closes_at;
        brace = (token-says old r.closing r.inner).1 r.closes_kind;
      };
      tokens_new = r.tokens_new;
      new_names = r.new_names;
      new_lexes = r.new_lexes;
      new_rest = drop 1 new;
      new_begins = begins_with new 64 (omega (arith, r.new_closes_at)) at_zero;
      new_closing = r.new_closing;
      new_closes = record {
        before_end = r.new_inner;
        ends_at = r.new_closes_at;
        brace = (token-says alone r.new_closing r.new_inner).1 r.new_closes_kind;
      };
    }
  where
    old : Lexes (pre ++ (f ++ post)) line r.old_tokens r.old_names
    old = lexes-of (pre ++ (f ++ post)) line r.old_tokens r.old_names r.old_lexes

    alone : Lexes new first r.tokens_new r.new_names
    alone = lexes-of new first r.tokens_new r.new_names r.new_lexes

    some : 0 < length f
    some =
        omega (
          arith,
          (old.sound.rise r.opening r.closing r.order
              (omega (arith, r.inner))).0,
          r.opens_at,
          r.closes_at,
        )

    at_pre : get_or (pre ++ (f ++ post)) (length pre) 0 ≡ 64
    at_pre =
        ap (λ (x : ℕ). get_or (pre ++ (f ++ post)) x 0) (sym r.opens_at)
        ∙ (token-says old r.opening (omega (arith, r.order, r.inner))).0 r.opens_kind

    at_zero : get_or new 0 0 ≡ 64
    at_zero =
        ap (λ (x : ℕ). get_or new x 0) (sym r.new_opens_at)
        ∙ (token-says alone 0 (omega (arith, r.new_inner))).0 r.new_opens_kind

-- What is the same in the old text, the new text and the edited text, where that is accepted. ----------------------

pub sim_same : (W W' : List (List ℕ)) (apart : Apart W W') {X Y : List Tok} {by by' down down' on on' n n' : ℕ}
    → by ≡ by' → down ≡ down' → on ≡ on' → n ≡ n' → Sim (move_of by down on W W' apart) n X Y
    → Sim (move_of by' down' on' W W' apart) n' X Y
sim_same W W' apart a b c d s = rw (← a, ← b, ← c, ← d) s

module _ {pre f post new : List ℕ} {line first : ℕ} {e : Edit pre f post new line first}
    (k : Known pre f post new line first e) {ts : List Token} {ns : List Part}
    (v : Lexes (pre ++ (new ++ post)) line ts ns) where
  -- how many tokens there are in each part
  new-count : length k.alone_new.toks ≡ length e.tokens_new - 1
  new-count =
      omega (
        arith,
        ap length k.alone_new.tokens,
        length-append k.alone_new.toks
            (end_of new k.alone_new.last),
      )

  rest-count : length (rest-alone k).toks + 1 ≡ length ((rest-alone k).toks ++ end_of post (tail k).last)
  rest-count = sym (length-append (rest-alone k).toks (end_of post (tail k).last))

  upto_count : length (upto k v) ≡ e.opening + (length e.tokens_new - 1)
  upto_count =
      omega (
        arith,
        length-append k.front (move_items (length pre) 0 k.alone_new.items),
        length_moved (length pre) 0 k.alone_new.items,
        both-length k.alone_new.stand,
        new-count,
        k.counted,
      )

  all-count : length ts ≡ e.opening + (length e.tokens_new - 1) + length
      ((rest-alone k).toks ++ end_of post (tail k).last)
  all-count =
      let M = move_items (length pre + length new) (0 + k.braced_new.here) (tail k).items in
      omega (
        arith,
        ap length v.tokens,
        length-append v.toks (end_of (pre ++ (new ++ post)) v.last),
        both-length v.stand,
        ap length (new_items k v),
        length-append (upto k v) M,
        upto_count,
        length_moved (length pre + length new) (0 + k.braced_new.here) (tail k).items,
        both-length (rest-alone k).stand,
        rest-count,
      )

  old_count : length e.old_tokens ≡ e.closing + 1 + length ((rest-alone k).toks ++ end_of post (tail k).last)
  old_count =
      let M = move_items (length (pre ++ f)) k.behind (tail k).items in
      omega (
        arith,
        ap length k.old.tokens,
        length-append k.old.toks (end_of (pre ++ (f ++ post)) k.old.last),
        both-length k.old.stand,
        ap length (old_items k),
        length-append k.through M,
        k.counted_through,
        length_moved (length (pre ++ f)) k.behind (tail k).items,
        both-length (rest-alone k).stand,
        rest-count,
      )

  readings_known : Readings pre f post new line first e ts ns
  readings_known =
      let W = spellings (pre ++ (new ++ post)) ns in
      let old = spellings (pre ++ (f ++ post)) e.old_names in
      let alone = spellings new e.new_names in
      let P = (rest-table k).words in
      record {
        distinct = edited_distinct k v;
        front-names = length (front-table k);
        front-known = (front-known k v).0;
        front-known_old = (front-known k v).1;
        front-spelled = front-spelled k v;
        front_same = λ i h. (pre_same k v i h).1;
        front-still = λ brace w w'. pre_related k v w w' brace;
        new_apart = renamed-apart W alone (new-distinct k);
        new-moved = λ w w'.
            sim_same W alone (renamed-apart W alone (new-distinct k)) k.counted refl refl new-count
            (new_related k v w w');
        new-spelled = λ x h.
            renamed-spelled W alone x (new-named k v x (omega (arith, length-spellings new e.new_names)));
        rest = (rest-alone k).toks ++ end_of post (tail k).last;
        rest-words = P;
        rest-few = omega (
          arith,
          (rest-table k).few,
          length-spellings (pre ++ (f ++ post)) e.old_names,
        );
        counted = all-count;
        counted_old = old_count;
        old_apart = renamed-apart old P (rest-distinct k);
        rest_old = λ w w'.
            sim_same old P (renamed-apart old P (rest-distinct k)) k.counted_through k.behind_is
            (length-append pre f)
            rest-count (rest_in_old k w w');
        old_spelled = λ x h. renamed-spelled old P x ((rest-table k).in_table x h);
        rest-apart = renamed-apart W P (rest-distinct k);
        rest-new = λ w w'.
            sim_same W P (renamed-apart W P (rest-distinct k)) upto_count
            (zero-add k.braced_new.here ∙ k.here_is) refl
            rest-count (rest_in_edited k v w w');
        rest-spelled = λ x h. renamed-spelled W P x (rest-named k v x h);
      }

-- cells with no zeros behind them, as `read_of` has them
pub held_none : (ts : List Token) → held 0 ts ≡ tokens_of (tokens_cells ts)
held_none ts =
    let e : 0 - length (tokens_cells ts) ≡ 0 = omega arith in
    rw (e, append-nil (tokens_cells ts))

-- THE THEOREM.
pub readings : {pre f post new : List ℕ} {line first : ℕ} (e : Edit pre f post new line first) {ts : List Token}
    {ns : List Part} → lexed_from line (pre ++ (new ++ post)) ≡ Outcome.done ts ns
    → Readings pre f post new line first e ts ns
readings {pre} {f} {post} {new} {line} e {ts} {ns} q = readings_known (known e)
    (lexes-of (pre ++ (new ++ post)) line ts ns q)

-- Both together, by tokens alone: inside the limits on bytes, tokens and names the edited text lexes, and its tokens
-- are those of its parts.
pub replaced : {pre f post new : List ℕ} {line first : ℕ} (r : Replaced pre f post new line first)
    → ((reading_of (lexed_from line (pre ++ (new ++ post)))).answer.number ≡ 31 → ⊥)
    → ((reading_of (lexed_from line (pre ++ (new ++ post)))).answer.number ≡ 32 → ⊥)
    → ((reading_of (lexed_from line (pre ++ (new ++ post)))).answer.number ≡ 33 → ⊥)
    → (ts : List Token) × (ns : List Part) × (lexed_from line (pre ++ (new ++ post)) ≡ Outcome.done ts ns)
    × Readings pre f post new line first (edit_of r) ts ns
replaced r a b c =
    let z = edited_lexes (edit_of r) a b c in
    (z.0, z.1, z.2, readings (edit_of r) z.2)
