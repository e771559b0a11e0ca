-- One function replaced: the edited text's pieces, its tokens, and that it lexes.
use Rattle.std.specs.Prelude.{Some}
use Prim.Native.Nat.{ℕ, ◌+◌, ◌≤◌, ◌<◌}
use mathlib.Core.Path.{◌≡◌, refl, sym, ap, ◌∙◌}
use mathlib.Core.List.{List, [], ◌∷◌, ◌++◌, append-nil, append_assoc}
use native.Mathlib.Omega.{arith}
use native.Mathlib.Nat.{zero-add}
use mathlib.Core.Bool.{Bool, true, false}
use lib.ListN.{length, get_or, length-append, get_or-append}
use lib.Seq.{slice, get_or_at}
use Rattle.utils.specs.Bytes.{pick, pad_to}
use Rattle.pieces.specs.Tokens.{symbol, kind_of, carried}
use Rattle.pieces.specs.Pieces.{token}
use Rattle.pieces.specs.declared.Token.{Token}
use Rattle.pieces.specs.declared.TokenValue.TheVariants as X
use Rattle.lexer.specs.Numbered.{Part, spellings, tokens_cells}
use Rattle.lexer.specs.Decoded.{Tok, tok, is_name, tokens_of}
use Rattle.lexer.proofs.Cells.{tok_of}
use Rattle.lexer.specs.Sound.{no_token}
use Rattle.parser.specs.Moved.{Sim}
use Rattle.joined.specs.Runs.{Begins, Item, move_items, Run}
use Rattle.joined.specs.Names.{Both, Stands, words_of, entered, In, AllIn, Distinct, AllInside, move_tok}
use Rattle.joined.specs.Edits.{BraceIn, Edit}
use Rattle.joined.proofs.Shift.{slice_shift}
use Rattle.joined.proofs.Runs.{Back, run-front, run_join, stop-at, start-at, end-at}
use Rattle.joined.proofs.Cut.{symbol_piece, run-symbol, post_alone, post_run, edited_run}
use Rattle.joined.proofs.Names.{names-distinct, both-length, both_parted, Grown, entered_append, entered-grown}
use Rattle.joined.proofs.Names.{entered_all, all_grown, entered_only}
use Rattle.joined.proofs.Names.{words_append, words-moved, words-front, same-tokens}
use Rattle.joined.proofs.Names.{grown-few, grown-at, stands_first, Chosen, chosen, all_chosen, renamed-apart}
use Rattle.lexer.proofs.Same.{length-spellings}
use Rattle.joined.proofs.Tokens.{run_inside, slice-part, Alone, alone, part_sim}
use Rattle.joined.proofs.Parts.{Lexes, lexes-of, run-first, run-all, Placed, placed, placed_last, stands_fit}
use Rattle.joined.proofs.Parts.{part_related, rest_related}
use Rattle.joined.specs.Names.{move_of, still}
use Rattle.joined.proofs.Places.{CutAt, cut_at, run-behind, both_at, no_item}

pub brace-symbol : (b : ℕ) → b ≡ 125 → symbol b ≡ Some X.RightBrace
unfolding symbol pick
brace-symbol b e = rw e

-- A text that ends with a `}`, which is a token: its run up to that, and its items.
pub record Braced (s : List ℕ) (line : ℕ) : Type 0 where
  pub front : List Item
  pub place : ℕ
  pub here : ℕ
  pub run : Run s 0 line front place here
  pub one : place + 1 ≡ length s
  pub brace : symbol (get_or s place 0) ≡ Some X.RightBrace

pub braced : {s : List ℕ} {line : ℕ} {ts : List Token} {ns : List Part} → Lexes s line ts ns → (i : ℕ)
    → BraceIn s ts i (length s) → Braced s line
braced {s} {line} {ts} v i b =
    let c = cut_at v i b.before_end in
    record {
      front = c.front;
      place = (get_or ts i no_token).place;
      here = (get_or ts i no_token).line.0;
      run = c.until;
      one = b.ends_at;
      brace = brace-symbol _ b.brace;
    }

pub braced_items : {s : List ℕ} {line : ℕ} {ts : List Token} {ns : List Part} (v : Lexes s line ts ns)
    (b : Braced s line)
    → (v.items ≡ b.front ++ (Item.plain (token X.RightBrace b.here b.place) ∷ [])) × (v.last ≡ b.here)
braced_items {s} {line} v b =
    let r = run-symbol s [] X.RightBrace b.run (omega arith) b.one b.brace in
    run-all v (rw (append-nil s) at r)

-- What follows of the premises: the items before f and behind it, with their runs; the two readings; the new text's
-- last token.
pub record Known (pre f post new : List ℕ) (line first : ℕ) (e : Edit pre f post new line first) : Type 0 where
  pub front : List Item
  pub back : List Item
  pub behind : ℕ
  pub counted : length front ≡ e.opening
  pub old : Lexes (pre ++ (f ++ post)) line e.old_tokens e.old_names
  pub alone_new : Lexes new first e.tokens_new e.new_names
  pub braced_new : Braced new first
  pub behind_is : behind ≡ (get_or e.old_tokens e.closing no_token).line.0
  pub here_is : braced_new.here ≡ (get_or e.tokens_new e.new_closing no_token).line.0
  pub through : List Item
  pub counted_through : length through ≡ e.closing + 1
  pub old_front : Run (pre ++ (f ++ post)) 0 line front (length pre) first
  pub old_through : Run (pre ++ (f ++ post)) 0 line through (length pre + length f) behind
  pub old_back : Run (pre ++ (f ++ post)) (length pre + length f) behind back (length (pre ++ (f ++ post))) old.last

pub known : {pre f post new : List ℕ} {line first : ℕ} (e : Edit pre f post new line first)
    → Known pre f post new line first e
unfolding braced
known {pre} {f} {post} {new} {line} {first} e = from old (cut_at old e.opening e.opens.before_end)
    (cut_at old e.closing e.closes.before_end)
  where
    old : Lexes (pre ++ (f ++ post)) line e.old_tokens e.old_names
    old = lexes-of (pre ++ (f ++ post)) line e.old_tokens e.old_names e.old_lexes

    new-read : Lexes new first e.tokens_new e.new_names
    new-read = lexes-of new first e.tokens_new e.new_names e.new_lexes

    in_old : (get_or e.old_tokens e.closing no_token).place < length (pre ++ (f ++ post))
    in_old =
        omega (arith, e.closes.ends_at, length-append pre (f ++ post), length-append f post)

    last_token : Token
    last_token =
        token X.RightBrace (get_or e.old_tokens e.closing no_token).line.0
        (get_or e.old_tokens e.closing no_token).place

    from : (o : Lexes (pre ++ (f ++ post)) line e.old_tokens e.old_names)
        → CutAt (pre ++ (f ++ post)) line o.last e.opening (spellings (pre ++ (f ++ post)) e.old_names)
        (get_or e.old_tokens e.opening no_token)
        → CutAt (pre ++ (f ++ post)) line o.last e.closing (spellings (pre ++ (f ++ post)) e.old_names)
        (get_or e.old_tokens e.closing no_token)
        → Known pre f post new line first e
    from o c d =
        record {
          front = c.front;
          back = d.back;
          behind = (get_or e.old_tokens e.closing no_token).line.0;
          counted = c.counted;
          old = o;
          alone_new = new-read;
          braced_new = braced new-read e.new_closing e.new_closes;
          behind_is = refl;
          here_is = refl;
          through = d.front ++ (Item.plain last_token ∷ []);
          counted_through = omega (arith, length-append d.front (Item.plain last_token ∷ []), d.counted);
          old_through = run_join d.until (Run.plain
              (symbol_piece (pre ++ (f ++ post)) _ _ X.RightBrace in_old (brace-symbol _ e.closes.brace))
              (stop-at e.closes.ends_at refl));
          old_front = end-at e.opens.stands_at e.opens.on_line c.until;
          old_back = start-at e.closes.ends_at refl
              (run-behind X.RightBrace d.from in_old (brace-symbol _ e.closes.brace));
        }

module _ {pre f post new : List ℕ} {line first : ℕ} {e : Edit pre f post new line first}
    (k : Known pre f post new line first e) where
  -- post alone, read from line 0
  abbrev pub tail : Back (pre ++ f) post k.behind 0 0 k.back (length (pre ++ f ++ post)) k.old.last
  tail = post_alone pre f post e.f_begins k.old_front k.old_back

  -- The pieces of the edited text: those of pre, those of the new text, moved, and those of post, moved.
  pub edited_items : Run (pre ++ (new ++ post)) 0 line
      (k.front ++ (move_items (length pre) 0 k.alone_new.items
      ++ move_items (length pre + length new) (0 + k.braced_new.here) tail.items))
      (length (pre ++ (new ++ post))) (0 + (k.braced_new.here + tail.last))
  edited_items =
      rw (braced_items k.alone_new k.braced_new).0
      (edited_run pre f post e.f_begins k.old_front k.old_back new e.new_begins 0 first X.RightBrace
      (omega arith) k.braced_new.run k.braced_new.one k.braced_new.brace)

  -- the new text's last token is a closing brace
  new-brace : (i : ℕ) → i + 1 ≡ length k.alone_new.toks → kind_of (get_or k.alone_new.toks i no_token).value ≡ 28
  new-brace i h =
      let b = (braced_items k.alone_new k.braced_new).0 in
      let B = Item.plain (token X.RightBrace k.braced_new.here k.braced_new.place) in
      let n : length k.braced_new.front ≡ i =
      omega (arith, ap length b, length-append k.braced_new.front (B ∷ []), both-length k.alone_new.stand) in
      let g : get_or k.alone_new.items i no_item ≡ B =
      ap (λ (l : List Item). get_or l i no_item) b ∙ get_or_at k.braced_new.front B [] no_item i n in
      let s : Stands new (spellings new e.new_names) (get_or k.alone_new.items i no_item)
      (get_or k.alone_new.toks i no_token) =
      both_at no_item no_token k.alone_new.stand i (omega arith) in
      let t : get_or k.alone_new.toks i no_token ≡ token X.RightBrace k.braced_new.here k.braced_new.place =
      rw g at s in
      ap (λ (u : Token). kind_of u.value) t

  pub new-distinct : Distinct (spellings new e.new_names)
  new-distinct = names-distinct new e.new_names k.alone_new.sound.distinct

  -- THE NEW PART, in an accepted edited text.
  module _ {ts : List Token} {ns : List Part} (v : Lexes (pre ++ (new ++ post)) line ts ns) where
    abbrev pub here : Placed (pre ++ (new ++ post)) ts ns k.front (move_items (length pre) 0 k.alone_new.items)
    here = placed v k.front (move_items (length pre) 0 k.alone_new.items) _ (run-all v edited_items).0

    pub new_related : (w w' : ℕ)
        → Sim (move_of (length k.front) 0 (length pre) (spellings (pre ++ (new ++ post)) ns)
        (spellings new e.new_names)
        (renamed-apart (spellings (pre ++ (new ++ post)) ns) (spellings new e.new_names) new-distinct))
        (length k.alone_new.toks) (tokens_of (pad_to w (tokens_cells ts)))
        (tokens_of (pad_to w' (tokens_cells e.tokens_new)))
    new_related w w' =
        part_related v new (length pre) 0 (slice-part pre new post) k.front k.alone_new.items
        (run_inside k.alone_new.run (omega arith)) (spellings new e.new_names) new-distinct k.alone_new.toks
        k.alone_new.stand here w w' e.tokens_new _ k.alone_new.tokens new-brace

-- THE REST, behind the replaced function: in the old text and in an accepted edited text its tokens are the same tokens
-- of post alone, with its own names, moved and renamed to the one place and to the other.
end_same : {l l' p p' : ℕ} → l ≡ l' → p ≡ p'
    → ◌≡◌ {A = List Token} (token X.EndOfFile l p ∷ []) (token X.EndOfFile l' p' ∷ [])
end_same e f = rw (e, f)

abbrev pub end_of : List ℕ → ℕ → List Token
end_of s last = token X.EndOfFile last (length s) ∷ []

module _ {pre f post new : List ℕ} {line first : ℕ} {e : Edit pre f post new line first}
    (k : Known pre f post new line first e) where
  rest-inside : AllInside (length post) (tail k).items
  rest-inside = run_inside (post_run pre f post e.f_begins k.old_front k.old_back) (omega arith)

  old_spelled : (a b : ℕ) → b ≤ length post
      → slice (length (pre ++ f) + a) (length (pre ++ f) + b) (pre ++ (f ++ post)) ≡ slice a b post
  old_spelled a b h = rw (← append_assoc pre f post) (slice_shift (pre ++ f) post a b)

  new-spelled : (a b : ℕ) → b ≤ length post
      → slice (length pre + length new + a) (length pre + length new + b) (pre ++ (new ++ post)) ≡ slice a b post
  new-spelled a b h = rw (← append_assoc pre new post, ← length-append pre new) (slice_shift (pre ++ new) post a b)

  pub old_items : k.old.items ≡ k.through ++ move_items (length (pre ++ f)) k.behind (tail k).items
  old_items = (run-all k.old (run_join k.old_through k.old_back)).0 ∙ ap (λ (l : List Item). k.through ++ l)
      (tail k).same_items

  old_placed : (z : Placed (pre ++ (f ++ post)) e.old_tokens e.old_names k.through
      (move_items (length (pre ++ f)) k.behind (tail k).items))
      × (z.back ≡ token X.EndOfFile k.old.last (length (pre ++ (f ++ post))) ∷ [])
  old_placed = placed_last k.old k.through (move_items (length (pre ++ f)) k.behind (tail k).items) old_items

  pub old_distinct : Distinct (spellings (pre ++ (f ++ post)) e.old_names)
  old_distinct = names-distinct (pre ++ (f ++ post)) e.old_names k.old.sound.distinct

  -- the words of post are names of the old text
  old_words : AllIn (spellings (pre ++ (f ++ post)) e.old_names) (words_of post (tail k).items)
  old_words =
      let s = pre ++ (f ++ post) in
      let M = move_items (length (pre ++ f)) k.behind (tail k).items in
      let table : spellings s e.old_names
      ≡ entered (entered [] (words_of s k.through)) (words_of post (tail k).items) =
      k.old.table ∙ ap (λ (is : List Item). entered [] (words_of s is)) old_items
      ∙ rw (
        words_append s k.through M,
        words-moved s post (length (pre ++ f)) k.behind old_spelled (tail k).items rest-inside,
        entered_append [] (words_of s k.through) (words_of post (tail k).items),
      ) in
      rw table (entered_all (entered [] (words_of s k.through)) (words_of post (tail k).items))

  -- the old text's names that post has
  pub rest-table : Chosen (entered [] (words_of post (tail k).items)) (spellings (pre ++ (f ++ post)) e.old_names)
  rest-table = chosen (entered [] (words_of post (tail k).items)) (spellings (pre ++ (f ++ post)) e.old_names)

  pub rest-distinct : Distinct rest-table.words
  rest-distinct = rest-table.distinct old_distinct

  -- the tokens of post alone, with these names
  pub rest-alone : Alone post rest-table.words (tail k).items
  rest-alone =
      let words = words_of post (tail k).items in
      alone (pre ++ (f ++ post)) post (length (pre ++ f)) k.behind (spellings (pre ++ (f ++ post)) e.old_names)
      rest-table.words (tail k).items old_placed.0.stand
      (all_chosen rest-table words (entered_all [] words) old_words)

  pub rest_in_old : (w w' : ℕ)
      → Sim (move_of (length k.through) k.behind (length (pre ++ f))
      (spellings (pre ++ (f ++ post)) e.old_names) rest-table.words
      (renamed-apart (spellings (pre ++ (f ++ post)) e.old_names) rest-table.words rest-distinct))
      (length rest-alone.toks + 1) (tokens_of (pad_to w (tokens_cells e.old_tokens)))
      (tokens_of (pad_to w' (tokens_cells (rest-alone.toks ++ end_of post (tail k).last))))
  rest_in_old w w' =
      rest_related k.old post (length (pre ++ f)) k.behind old_spelled k.through (tail k).items rest-inside
      rest-table.words rest-distinct rest-alone.toks rest-alone.stand
      old_placed.0
      w w' (tail k).last
      (old_placed.1 ∙ ends)
    where
      n : length (pre ++ (f ++ post)) ≡ length (pre ++ f) + length post
      n = omega (arith, length-append pre (f ++ post), length-append f post, length-append pre f)

      ends : token X.EndOfFile k.old.last (length (pre ++ (f ++ post))) ∷ []
          ≡ token X.EndOfFile (k.behind + (tail k).last) (length (pre ++ f) + length post) ∷ []
      ends = end_same (tail k).same_line n

  module _ {ts : List Token} {ns : List Part} (v : Lexes (pre ++ (new ++ post)) line ts ns) where
    -- the items of the edited text up to post
    abbrev pub upto : List Item
    upto = k.front ++ move_items (length pre) 0 k.alone_new.items

    pub new_items : v.items ≡ upto ++ move_items (length pre + length new) (0 + k.braced_new.here) (tail k).items
    new_items =
        (run-all v (edited_items k)).0
        ∙ sym (append_assoc k.front (move_items (length pre) 0 k.alone_new.items) _)

    new_placed : (z : Placed (pre ++ (new ++ post)) ts ns upto
        (move_items (length pre + length new) (0 + k.braced_new.here) (tail k).items))
        × (z.back ≡ token X.EndOfFile v.last (length (pre ++ (new ++ post))) ∷ [])
    new_placed = placed_last v upto
        (move_items (length pre + length new) (0 + k.braced_new.here) (tail k).items) new_items

    pub rest_in_edited : (w w' : ℕ)
        → Sim (move_of (length upto) (0 + k.braced_new.here) (length pre + length new)
        (spellings (pre ++ (new ++ post)) ns) rest-table.words
        (renamed-apart (spellings (pre ++ (new ++ post)) ns) rest-table.words rest-distinct))
        (length rest-alone.toks + 1) (tokens_of (pad_to w (tokens_cells ts)))
        (tokens_of (pad_to w' (tokens_cells (rest-alone.toks ++ end_of post (tail k).last))))
    rest_in_edited w w' =
        rest_related v post (length pre + length new) (0 + k.braced_new.here) new-spelled upto
        (tail k).items rest-inside
        rest-table.words rest-distinct rest-alone.toks rest-alone.stand
        new_placed.0
        w w' (tail k).last
        (new_placed.1 ∙ end_same ((run-all v (edited_items k)).1 ∙ assoc k.braced_new.here (tail k).last) n)
      where
        n : length (pre ++ (new ++ post)) ≡ length pre + length new + length post
        n = omega (arith, length-append pre (new ++ post), length-append new post)

        assoc : (a b : ℕ) → 0 + (a + b) ≡ 0 + a + b
        assoc a b = omega arith

-- THE FRONT, before the replaced function: its tokens are those of the old text, with the same names. ---------------

-- the names of a text, by the items that come first
table-front : {s : List ℕ} {line : ℕ} {ts : List Token} {ns : List Part} (v : Lexes s line ts ns) (A Z : List Item)
    → v.items ≡ A ++ Z → Grown (entered [] (words_of s A)) (spellings s ns)
table-front {s} v A Z e =
    rw (v.table, e, words_append s A Z, entered_append [] (words_of s A) (words_of s Z))
    (entered-grown (entered [] (words_of s A)) (words_of s Z))

-- the first tokens of a text
first-tokens : {s : List ℕ} {line : ℕ} {ts : List Token} {ns : List Part} (v : Lexes s line ts ns) (A Z : List Item)
    → v.items ≡ A ++ Z → (T : List Token) × Both (Stands s (spellings s ns)) A T
    × ((i : ℕ) → i < length T → (i < length ts) × (get_or ts i no_token ≡ get_or T i no_token))
first-tokens {s} {line} {ts} {ns} v A Z e =
    let b : Both (Stands s (spellings s ns)) (A ++ Z) v.toks = rw (← e) v.stand in
    let z = both_parted A Z b in
    (z.front, z.in_front, λ i h. at z.front z.back v.toks (end_of s v.last) z.whole v.tokens i h)
  where
    at : (F B T E : List Token) → T ≡ F ++ B → ts ≡ T ++ E → (i : ℕ) → i < length F
        → (i < length ts) × (get_or ts i no_token ≡ get_or F i no_token)
    at F B T E p q i h =
        let whole : ts ≡ F ++ (B ++ E) = q ∙ rw p (append_assoc F B E) in (
          omega (arith, ap length whole, length-append F (B ++ E)),
          ap (λ (l : List Token). get_or l i no_token) whole ∙ get_or-append F (B ++ E) no_token i h,
        )

tok-still : (t : Tok) → t ≡ move_tok 0 0 (λ x. x) t
unfolding pick
tok-still t = rw (zero-add t.line, zero-add t.place) (by (is_name t.kind))
  where
    by : (b : Bool) → t ≡ tok t.kind (pick b t.value t.value) t.line t.place
    by true = refl
    by false = refl

module _ {pre f post new : List ℕ} {line first : ℕ} {e : Edit pre f post new line first}
    (k : Known pre f post new line first e) where
  -- the names of pre
  abbrev pub front-table : List (List ℕ)
  front-table = entered [] (words_of (pre ++ (f ++ post)) k.front)

  pub pre_inside : AllInside (length pre) k.front
  pre_inside =
      let r = run-front pre {u = f ++ post} {u' = []} Begins.nothing k.old_front (omega arith) (omega arith) in
      run_inside (rw (append-nil pre) at r) (omega arith)

  module _ {ts : List Token} {ns : List Part} (v : Lexes (pre ++ (new ++ post)) line ts ns) where
    -- spelled alike
    pub pre_words : words_of (pre ++ (f ++ post)) k.front ≡ words_of (pre ++ (new ++ post)) k.front
    pre_words =
        words-front pre (f ++ post) k.front pre_inside ∙ sym (words-front pre (new ++ post) k.front pre_inside)

    pub edited_distinct : Distinct (spellings (pre ++ (new ++ post)) ns)
    edited_distinct = names-distinct (pre ++ (new ++ post)) ns v.sound.distinct

    -- the names of pre come first in both tables
    old_grown : Grown front-table (spellings (pre ++ (f ++ post)) e.old_names)
    old_grown =
        let o = run-first k.old k.old_front in
        table-front k.old k.front o.later o.whole

    new-grown : Grown front-table (spellings (pre ++ (new ++ post)) ns)
    new-grown = rw pre_words (table-front v k.front _ (run-all v (edited_items k)).0)

    pub front-known : (length front-table ≤ length ns) × (length front-table ≤ length e.old_names)
    front-known =
        let l = length-spellings (pre ++ (new ++ post)) ns in
        let m = length-spellings (pre ++ (f ++ post)) e.old_names in
        (omega (arith, grown-few new-grown), omega (arith, grown-few old_grown))

    pub front-spelled : (x : ℕ) → x < length front-table
        → get_or (spellings (pre ++ (new ++ post)) ns) x [] ≡ get_or (spellings (pre ++ (f ++ post)) e.old_names) x []
    front-spelled x h = grown-at new-grown x h ∙ sym (grown-at old_grown x h)

    -- the tokens of pre, in both texts
    pre_tokens : (T : List Token) × Both (Stands (pre ++ (f ++ post)) (spellings (pre ++ (f ++ post)) e.old_names))
        k.front T
        × Both (Stands (pre ++ (new ++ post)) (spellings (pre ++ (new ++ post)) ns)) k.front T
        × ((i : ℕ) → i < length T → get_or e.old_tokens i no_token ≡ get_or T i no_token)
        × ((i : ℕ) → i < length T → (i < length ts) × (get_or ts i no_token ≡ get_or T i no_token))
    pre_tokens =
        let A = k.front in
        let o = run-first k.old k.old_front in
        let n = (run-all v (edited_items k)).0 in
        let a = first-tokens k.old A o.later o.whole in
        let b = first-tokens v A _ n in
        let same : a.0 ≡ b.0 =
        same-tokens (pre ++ (f ++ post)) (pre ++ (new ++ post)) _ _ front-table
        (old_distinct k) edited_distinct old_grown new-grown A a.0 b.0 pre_words
        (entered_all [] (words_of (pre ++ (f ++ post)) A)) a.1 b.1 in (
          b.0,
          rw same at a.1,
          b.1,
          λ i h. (a.2 i (omega (arith, ap length same))).1 ∙ ap (λ (l : List Token). get_or l i no_token) same,
          b.2,
        )

    pub pre_same : (i : ℕ) → i < e.opening → (i < length ts) × (get_or ts i no_token ≡ get_or e.old_tokens i no_token)
    pre_same i h =
        let z = pre_tokens in
        let l : i < length z.0 = omega (arith, both-length z.1, k.counted) in
        ((z.4 i l).0, (z.4 i l).1 ∙ sym (z.3 i l))

    -- a name's token carries the number of one of these names
    pre_fit : (i : ℕ) → i < e.opening → is_name (kind_of (get_or e.old_tokens i no_token).value) ≡ true
        → carried (get_or e.old_tokens i no_token).value < length front-table
    pre_fit i h =
        let s = pre ++ (f ++ post) in
        let z = pre_tokens in
        let l : i < length z.0 = omega (arith, both-length z.1, k.counted) in
        let all = entered_all [] (words_of s k.front) in
        rw (z.3 i l)
        (stands_fit _ _ (length pre) (stands_first s _ front-table (old_distinct k) old_grown k.front all z.1)
        pre_inside i l)

    -- where the token before f is a closing brace (or there is none)
    pub pre_related : (w w' : ℕ) → ((i : ℕ) → i + 1 ≡ e.opening → kind_of (get_or e.old_tokens i no_token).value ≡ 28)
        → Sim (still (length front-table)) e.opening (tokens_of (pad_to w (tokens_cells ts)))
        (tokens_of (pad_to w' (tokens_cells e.old_tokens)))
    pre_related w w' brace =
        part_sim (still (length front-table)) e.opening w w' ts e.old_tokens
        (λ i h. rw (zero-add i) (pre_same i h).0) (omega (arith, e.opens.before_end))
        (λ i h. rw (zero-add i) (ap tok_of (pre_same i h).1 ∙ tok-still (tok_of (get_or e.old_tokens i no_token))))
        pre_fit
        (λ i h n. absurd (n (brace i h)))

    -- the names of the edited text, by spelling: those of pre, then what is new in the new text, then in post
    pub edited_names : spellings (pre ++ (new ++ post)) ns
        ≡ entered (entered (entered [] (words_of pre k.front)) (words_of new k.alone_new.items))
        (words_of post (tail k).items)
    edited_names =
        let A = k.front in
        let N = k.alone_new.items in
        let M = move_items (length pre) 0 N in
        let Q = move_items (length pre + length new) (0 + k.braced_new.here) (tail k).items in
        let s = pre ++ (new ++ post) in
        v.table ∙ ap (λ (is : List Item). entered [] (words_of s is)) (run-all v (edited_items k)).0
        ∙ rw (
          words_append s A (M ++ Q),
          words_append s M Q,
          words-front pre (new ++ post) A pre_inside,
          words-moved s new (length pre) 0 (slice-part pre new post) N (run_inside k.alone_new.run (omega arith)),
          words-moved s post (length pre + length new) (0 + k.braced_new.here) (new-spelled k) (tail k).items
              (rest-inside k),
          entered_append [] (words_of pre A) (words_of new N ++ words_of post (tail k).items),
          entered_append (entered [] (words_of pre A)) (words_of new N) (words_of post (tail k).items),
        )

    -- so every word of the new text and of post is in the table
    new-words : AllIn (spellings (pre ++ (new ++ post)) ns) (words_of new k.alone_new.items)
    new-words =
        let a = entered [] (words_of pre k.front) in
        let b = entered a (words_of new k.alone_new.items) in
        rw edited_names
        (all_grown (entered-grown b (words_of post (tail k).items)) (words_of new k.alone_new.items)
        (entered_all a (words_of new k.alone_new.items)))

    rest-words : AllIn (spellings (pre ++ (new ++ post)) ns) (words_of post (tail k).items)
    rest-words =
        rw edited_names
        (entered_all (entered (entered [] (words_of pre k.front)) (words_of new k.alone_new.items))
        (words_of post (tail k).items))

    -- the new text's names are names of the edited text
    pub new-named : (x : ℕ) → x < length (spellings new e.new_names)
        → In (spellings (pre ++ (new ++ post)) ns) (get_or (spellings new e.new_names) x [])
    new-named x h =
        let f = entered_only (spellings (pre ++ (new ++ post)) ns) [] (words_of new k.alone_new.items)
        (λ i m. absurd (omega arith)) new-words x in
        (rw (← k.alone_new.table) at f) h

    -- and so are the names of post
    pub rest-named : (x : ℕ) → x < length (rest-table k).words
        → In (spellings (pre ++ (new ++ post)) ns) (get_or (rest-table k).words x [])
    rest-named x h =
        let q = (rest-table k).in_others x h in
        rw q.2 at (entered_only (spellings (pre ++ (new ++ post)) ns) [] (words_of post (tail k).items)
        (λ i m. absurd (omega arith)) rest-words q.0 q.1)
