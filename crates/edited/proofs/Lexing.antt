-- Lexing gives what parsing and typing ask of two token lists: of a text with one function replaced, the tokens before
-- it, of it and behind it, with names that are spelled alike.
use Prim.Native.Nat.{ℕ, zero, suc, ◌+◌, ◌-◌, ◌*◌, ◌≤◌, ◌<◌}
use mathlib.Core.Path.{◌≡◌, refl, sym, ap, ◌∙◌}
use mathlib.Core.Bool.{Bool, true, false}
use mathlib.Core.List.{List, [], ◌∷◌, ◌++◌, append-nil}
use native.Mathlib.Omega.{arith}
use native.Mathlib.Nat.{add-zero}
use borrow.Author.Tests.{ltb-true, ltb-false, le-ltb, eqb-true, eqb-false}
use lib.Dec.{ltb, eqb}
use lib.ListN.{length, get_or}
use lib.Seq.{length-slice}
use Rattle.utils.specs.Bytes.{pick, same_bytes}
use Rattle.pieces.specs.Tokens.{kind_of}
use Rattle.pieces.specs.declared.Token.{Token}
use Rattle.lexer.specs.Numbered.{Part, Outcome, spellings, tokens_cells, names_cells}
use Rattle.lexer.specs.Read.{lexed_from}
use Rattle.lexer.specs.Decoded.{tokens_of, token_at, name_of}
use Rattle.lexer.specs.declared.TokenAt.{TokenAt}
use Rattle.lexer.specs.Sound.{Sound, no_token, no_part}
use Rattle.lexer.proofs.Sound.{read_sound, end-last, end-only-last}
use Rattle.lexer.proofs.Same.{same_bytes-true, same_bytes-refl, length-spellings, spelling-at}
use Rattle.lexer.proofs.Cells.{cells-token_at, names_cell, cells-name}
use Rattle.pieces.specs.Kinds as T
use Rattle.parser.specs.Moved.{Move, Sim}
use Rattle.headers.proofs.Named.{padded-name, accepted-named}
use Rattle.joined.specs.Names.{Distinct}
use Rattle.joined.specs.Edits.{Edit}
use Rattle.joined.specs.Readings.{held, Readings}
use Rattle.joined.proofs.Names.{names-distinct}
use Rattle.joined.proofs.Replaced.{held_none}
use Rattle.related.specs.Tables.{Apart}
use Rattle.related.specs.Edited.{Fits, Edited}
use Rattle.related.specs.Alone.{Alone}
use Rattle.related.specs.Written.{SameLengths}
use Rattle.related.specs.Reading.{Lengths}
use Rattle.edited.specs.Spelled.{SpeltIn, spelled_alike, tokens_in, word_cells}
use Rattle.edited.specs.Spelled.{front_move, inside_move, old_back_move, new_back_move}

-- The tokens of a text, with no zeros behind their cells. ----------------------------------------------------------

length-tokens : (ts : List Token) → length (tokens_in ts) ≡ length ts
unfolding tokens_of tokens_cells
length-tokens [] = refl
length-tokens (t ∷ ts) = ap suc (length-tokens ts)

pub kind_at : (ts : List Token) (i : ℕ) → i < length ts
    → (token_at (tokens_in ts) i).kind ≡ kind_of (get_or ts i no_token).value
kind_at ts i h = rw (← held_none ts) (ap (λ (t : TokenAt). t.kind) (cells-token_at 0 ts i h))

pub kind-past : (ts : List Token) (i : ℕ) → length ts ≤ i → (token_at (tokens_in ts) i).kind ≡ T.end_of_file
unfolding token_at pick
kind-past ts i h = rw (le-ltb i (length (tokens_in ts)) (omega (arith, length-tokens ts)))

pub sim_plain : {m : Move} {n : ℕ} (ts ts' : List Token) → Sim m n (held 0 ts) (held 0 ts')
    → Sim m n (tokens_in ts) (tokens_in ts')
sim_plain ts ts' h = rw (held_none ts, held_none ts') at h

-- The names of a text that is read, by their cells. ----------------------------------------------------------------

module _ {s : List ℕ} {line : ℕ} {ts : List Token} {ns : List Part} (v : Sound s line ts ns) where
  pub name_spelled_lem : (x : ℕ) → x < length ns → name_of s (names_cells ns) x ≡ get_or (spellings s ns) x []
  name_spelled_lem x h =
      sym (padded-name s (names_cells ns) 0 x) ∙ cells-name s 0 ns x h v.within ∙ sym (spelling-at s ns x h)

  pub name-past : (x : ℕ) → length ns ≤ x → name_of s (names_cells ns) x ≡ []
  name-past x h = sym (padded-name s (names_cells ns) 0 x) ∙ (accepted-named s line 0 ts ns v).past x h

  -- how long a name is
  pub name_length : (x : ℕ) → x < length ns → get_or (names_cells ns) (x * 2 + 1) 0 ≡ length (get_or (spellings s ns) x [])
  name_length x h =
      let p = get_or ns x no_part in
      let l : length (get_or (spellings s ns) x []) ≡ p.place + p.len - p.place =
      rw (spelling-at s ns x h) (length-slice p.place (p.place + p.len) s (v.within x h).2) in
      let c : get_or (names_cells ns) (x * 2 + 1) 0 ≡ p.len =
      rw (append-nil (names_cells ns)) at (names_cell ns [] x h).1 in
      omega arith

  pub name-some : (x : ℕ) → x < length ns → 1 ≤ length (get_or (spellings s ns) x [])
  name-some x h =
      let p = get_or ns x no_part in
      let l : length (get_or (spellings s ns) x []) ≡ p.place + p.len - p.place =
      rw (spelling-at s ns x h) (length-slice p.place (p.place + p.len) s (v.within x h).2) in
      omega (arith, (v.within x h).0)

  pub table-distinct : Distinct (spellings s ns)
  table-distinct = names-distinct s ns v.distinct

  -- a name that has a spelling is one of the table
  pub name_in_lem : (x : ℕ) → 1 ≤ length (name_of s (names_cells ns) x) → x < length ns
  name_in_lem x h = by (ltb x (length ns)) refl
    where
      by : (t : Bool) → ltb x (length ns) ≡ t → x < length ns
      by true e = ltb-true x (length ns) e
      by false e =
          absurd (omega (arith, ap length (name-past x (ltb-false x (length ns) e))))

-- names of one table are spelled alike where they are one
pub one_name : (ws : List (List ℕ)) → Distinct ws → (x y : ℕ) → x < length ws → y < length ws
    → same_bytes (get_or ws x []) (get_or ws y []) ≡ eqb x y
one_name ws d x y h g = by (eqb x y) refl
  where
    by : (t : Bool) → eqb x y ≡ t → same_bytes (get_or ws x []) (get_or ws y []) ≡ t
    by true e = rw (eqb-true x y e) (same_bytes-refl (get_or ws y []))
    by false e = differ (same_bytes (get_or ws x []) (get_or ws y [])) refl
      where
        differ : (t : Bool) → same_bytes (get_or ws x []) (get_or ws y []) ≡ t → t ≡ false
        differ true q = absurd (eqb-false x y e (d x y h g (same_bytes-true _ _ q)))
        differ false q = refl

-- so are two spellings, where they are those of names of one table
same_name : (ws : List (List ℕ)) → Distinct ws → {a b : List ℕ} (x y : ℕ) → x < length ws → y < length ws
    → a ≡ get_or ws x [] → b ≡ get_or ws y [] → same_bytes a b ≡ eqb x y
same_name ws d x y h g p q = rw (p, q) (one_name ws d x y h g)

pub spelt_apart : (ws us : List (List ℕ)) → Distinct ws → Distinct us → Apart (SpeltIn ws us)
spelt_apart ws us d d' x x' y y' p q =
    sym (one_name ws d x y p.0 q.0) ∙ rw (p.2, q.2) (one_name us d' x' y' p.1 q.1)

-- the cells of words hold their lengths
word-length : (ws : List (List ℕ)) (x : ℕ) → x < length ws → get_or (word_cells ws) (x * 2 + 1) 0 ≡ length (get_or ws x [])
unfolding word_cells
word-length [] x h = absurd (omega arith)
word-length (w ∷ ws) zero h = refl
word-length (w ∷ ws) (suc x) h =
    let e : suc x * 2 + 1 ≡ suc (suc (x * 2 + 1)) = omega arith in
    rw e (word-length ws x (omega arith))

-- One function replaced, and the edited text's tokens and names. ---------------------------------------------------

module _ {pre f post new : List ℕ} {line first : ℕ} {e : Edit pre f post new line first} {ts : List Token}
    {ns : List Part} (r : Readings pre f post new line first e ts ns)
    (lexed : lexed_from line (pre ++ (new ++ post)) ≡ Outcome.done ts ns) where
  pub old_sound : Sound (pre ++ (f ++ post)) line e.old_tokens e.old_names
  old_sound = read_sound line (pre ++ (f ++ post)) e.old_tokens e.old_names e.old_lexes

  pub edited_sound : Sound (pre ++ (new ++ post)) line ts ns
  edited_sound = read_sound line (pre ++ (new ++ post)) ts ns lexed

  pub own_sound : Sound new first e.tokens_new e.new_names
  own_sound = read_sound first new e.tokens_new e.new_names e.new_lexes

  -- how many names each table has
  pub old_few : length (spellings (pre ++ (f ++ post)) e.old_names) ≡ length e.old_names
  old_few = length-spellings (pre ++ (f ++ post)) e.old_names

  pub edited_few : length (spellings (pre ++ (new ++ post)) ns) ≡ length ns
  edited_few = length-spellings (pre ++ (new ++ post)) ns

  pub own-few : length (spellings new e.new_names) ≡ length e.new_names
  own-few = length-spellings new e.new_names

  pub front_fits : Fits (front_move r)
  front_fits =
      record {
        few = omega (arith, r.front-known, edited_sound.few_names);
        low = λ x h. omega (arith, r.front-known, edited_sound.few_names);
      }

  pub inside-fits : Fits (inside_move r)
  inside-fits =
      record {
        few = omega (arith, own-few, own_sound.few_names);
        low = λ x h. omega (arith, (r.new-spelled x (omega (arith, own-few))).0, edited_few, edited_sound.few_names);
      }

  pub old_fits : Fits (old_back_move r)
  old_fits =
      record {
        few = omega (arith, r.rest-few, old_sound.few_names);
        low = λ x h. omega (arith, (r.old_spelled x h).0, old_few, old_sound.few_names);
      }

  pub new_fits : Fits (new_back_move r)
  new_fits =
      record {
        few = omega (arith, r.rest-few, old_sound.few_names);
        low = λ x h. omega (arith, (r.rest-spelled x h).0, edited_few, edited_sound.few_names);
      }

  -- The spellings: a name and the one that it is renamed to. -------------------------------------------------------

  pub front-name : (x : ℕ) → x < (front_move r).names
      → name_of (pre ++ (new ++ post)) (names_cells ns) ((front_move r).name x)
      ≡ name_of (pre ++ (f ++ post)) (names_cells e.old_names) x
  front-name x h =
      name_spelled_lem edited_sound x (omega (arith, r.front-known)) ∙ r.front-spelled x h
      ∙ sym (name_spelled_lem old_sound x (omega (arith, r.front-known_old)))

  pub inside-name : (x : ℕ) → x < (inside_move r).names
      → name_of (pre ++ (new ++ post)) (names_cells ns) ((inside_move r).name x)
      ≡ name_of new (names_cells e.new_names) x
  inside-name x h =
      let l : x < length e.new_names = omega (arith, own-few) in
      let q = r.new-spelled x l in
      name_spelled_lem edited_sound ((inside_move r).name x) (omega (arith, q.0, edited_few)) ∙ q.1
      ∙ sym (name_spelled_lem own_sound x l)

  pub old_back_name : (x : ℕ) → x < (old_back_move r).names
      → name_of (pre ++ (f ++ post)) (names_cells e.old_names) ((old_back_move r).name x) ≡ get_or r.rest-words x []
  old_back_name x h =
      let q = r.old_spelled x h in
      name_spelled_lem old_sound ((old_back_move r).name x) (omega (arith, q.0, old_few)) ∙ q.1

  pub new_back_name : (x : ℕ) → x < (new_back_move r).names
      → name_of (pre ++ (new ++ post)) (names_cells ns) ((new_back_move r).name x) ≡ get_or r.rest-words x []
  new_back_name x h =
      let q = r.rest-spelled x h in
      name_spelled_lem edited_sound ((new_back_move r).name x) (omega (arith, q.0, edited_few)) ∙ q.1

  -- The lengths of names. ------------------------------------------------------------------------------------------

  front_lengths : SameLengths (front_move r) (names_cells ns) (names_cells e.old_names)
  front_lengths =
      record {
        same = λ x h.
            name_length edited_sound x (omega (arith, r.front-known)) ∙ ap length (r.front-spelled x h)
            ∙ sym (name_length old_sound x (omega (arith, r.front-known_old)));
      }

  inside_lengths : SameLengths (inside_move r) (names_cells ns) (names_cells e.new_names)
  inside_lengths =
      record {
        same = λ x h.
            let l : x < length e.new_names = omega (arith, own-few) in
            let q = r.new-spelled x l in
            name_length edited_sound ((inside_move r).name x) (omega (arith, q.0, edited_few)) ∙ ap length q.1
            ∙ sym (name_length own_sound x l);
      }

  old_lengths : SameLengths (old_back_move r) (names_cells e.old_names) (word_cells r.rest-words)
  old_lengths =
      record {
        same = λ x h.
            let q = r.old_spelled x h in
            name_length old_sound ((old_back_move r).name x) (omega (arith, q.0, old_few)) ∙ ap length q.1
            ∙ sym (word-length r.rest-words x h);
      }

  new_lengths : SameLengths (new_back_move r) (names_cells ns) (word_cells r.rest-words)
  new_lengths =
      record {
        same = λ x h.
            let q = r.rest-spelled x h in
            name_length edited_sound ((new_back_move r).name x) (omega (arith, q.0, edited_few)) ∙ ap length q.1
            ∙ sym (word-length r.rest-words x h);
      }

  -- The new text's tokens. -----------------------------------------------------------------------------------------

  pub own-some : 0 < length e.tokens_new - 1
  own-some = omega (arith, e.new_closes.before_end)

  pub inside-tokens : Sim (inside_move r) (length e.tokens_new - 1) (tokens_in ts) (tokens_in e.tokens_new)
  inside-tokens = sim_plain ts e.tokens_new (r.new-moved 0 0)

  pub own-ends : (token_at (tokens_in e.tokens_new) (length e.tokens_new - 1)).kind ≡ T.end_of_file
  own-ends =
      kind_at e.tokens_new (length e.tokens_new - 1) (omega (arith, own-some))
      ∙ ap (λ (t : Token). kind_of t.value) (end-last own_sound)

  pub own-unended : (i : ℕ) → i < length e.tokens_new - 1 → (token_at (tokens_in e.tokens_new) i).kind ≡ T.end_of_file
      → ⊥
  own-unended i h q =
      let k = kind_at e.tokens_new i (omega arith) in
      omega (arith, end-only-last own_sound i (omega arith))

  -- The new text begins with a global, and before the replaced function stands a closing brace, or nothing.
  module _ (opens : kind_of (get_or e.tokens_new 0 no_token).value ≡ T.global)
      (brace : (i : ℕ) → i + 1 ≡ e.opening → kind_of (get_or e.old_tokens i no_token).value ≡ T.right_brace) where
    pub begins-here : (token_at (tokens_in ts) e.opening).kind ≡ T.global
    begins-here =
        ap (λ (i : ℕ). (token_at (tokens_in ts) i).kind) (sym (add-zero e.opening))
        ∙ ap (λ (t : TokenAt). t.kind) (inside-tokens.same 0 own-some)
        ∙ kind_at e.tokens_new 0 (omega (arith, own-some)) ∙ opens

    -- THE THEOREMS: what parsing and typing ask of the old text's tokens and the edited text's,
    unfoldable pub edited : Edited (tokens_in e.old_tokens) (tokens_in ts)
    edited =
        record {
          starts = e.opening;
          front = front_move r;
          still = refl;
          before = sim_plain ts e.old_tokens (r.front-still brace 0 0);
          begins = begins-here;
          rest = tokens_in r.rest;
          count = length r.rest;
          old_back = old_back_move r;
          new_back = new_back_move r;
          behind_old = sim_plain e.old_tokens r.rest (r.rest_old 0 0);
          behind_new = sim_plain ts r.rest (r.rest-new 0 0);
          ends_old = kind-past e.old_tokens (e.closing + 1 + length r.rest) (omega (arith, r.counted_old));
          ends_new = kind-past ts (e.opening + (length e.tokens_new - 1) + length r.rest)
              (omega (arith, r.counted));
          ends_rest = kind-past r.rest (length r.rest) (omega arith);
          Spelt = SpeltIn (spellings (pre ++ (f ++ post)) e.old_names) (spellings (pre ++ (new ++ post)) ns);
          apart = spelt_apart (spellings (pre ++ (f ++ post)) e.old_names) (spellings (pre ++ (new ++ post)) ns)
              (table-distinct old_sound) r.distinct;
          as_many = refl;
          early = λ x h. (
            omega (arith, old_few, r.front-known_old),
            omega (arith, edited_few, r.front-known),
            sym (r.front-spelled x h),
          );
          late = λ z h. (
            (r.old_spelled z h).0,
            (r.rest-spelled z h).0,
            (r.old_spelled z h).1 ∙ sym (r.rest-spelled z h).1,
          );
          front_fits = front_fits;
          old_fits = old_fits;
          new_fits = new_fits;
        }

    -- a name of the new text and a name of the old one: spelled alike, and so one name of the edited text
    pub own-spelling : (x y y' : ℕ) → x < (inside_move r).names
        → SpeltIn (spellings (pre ++ (f ++ post)) e.old_names) (spellings (pre ++ (new ++ post)) ns) y y'
        → spelled_alike (pre ++ (f ++ post)) (names_cells e.old_names) new (names_cells e.new_names) x y
        ≡ eqb y' ((inside_move r).name x)
    own-spelling x y y' h p =
        let l : x < length e.new_names = omega (arith, own-few) in
        let q = r.new-spelled x l in
        same_name (spellings (pre ++ (new ++ post)) ns) r.distinct y' ((inside_move r).name x) p.1 q.0
        (name_spelled_lem old_sound y (omega (arith, p.0, old_few)) ∙ p.2) (name_spelled_lem own_sound x l ∙ sym q.1)

    pub own_spelt : (x y : ℕ) → x < (inside_move r).names
        → spelled_alike (pre ++ (f ++ post)) (names_cells e.old_names) new (names_cells e.new_names) x y ≡ true
        → SpeltIn (spellings (pre ++ (f ++ post)) e.old_names) (spellings (pre ++ (new ++ post)) ns) y
        ((inside_move r).name x)
    own_spelt x y h t =
        let l : x < length e.new_names = omega (arith, own-few) in
        let q = r.new-spelled x l in
        let w = same_bytes-true (name_of (pre ++ (f ++ post)) (names_cells e.old_names) y)
        (name_of new (names_cells e.new_names) x) t ∙ name_spelled_lem own_sound x l in
        let m : y < length e.old_names =
        name_in_lem old_sound y (omega (arith, ap length w, name-some own_sound x l)) in (
          omega (arith, old_few),
          q.0,
          sym (name_spelled_lem old_sound y m) ∙ w ∙ sym q.1,
        )

    -- and of the new text's own tokens; names are as long in each reading.
    unfoldable pub alone_in : Alone edited (tokens_in e.tokens_new)
    unfolding edited
    alone_in =
        record {
          inside = inside_move r;
          size = length e.tokens_new - 1;
          begins = refl;
          closes = refl;
          tokens = inside-tokens;
          some = own-some;
          ends = own-ends;
          unended = own-unended;
          fits = inside-fits;
          spells = spelled_alike (pre ++ (f ++ post)) (names_cells e.old_names) new (names_cells e.new_names);
          spelling = own-spelling;
          spelt_so = own_spelt;
        }

    pub lengths : Lengths edited alone_in (names_cells e.old_names) (names_cells ns) (word_cells r.rest-words)
        (names_cells e.new_names)
    unfolding edited alone_in
    lengths =
        record { front = front_lengths; old_back = old_lengths; new_back = new_lengths; inside = inside_lengths }
