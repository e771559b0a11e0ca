-- Within: a part of an accepted text, from one of its tokens to a closing brace, read alone. It lexes, and its tokens
-- are those that the text has there, moved back.
use Rattle.std.specs.Prelude.{Some}
use Prim.Native.Nat.{ℕ, suc, ◌+◌, ◌-◌, ◌≤◌, ◌<◌}
use mathlib.Core.Path.{◌≡◌, refl, sym, ap, subst, ◌∙◌}
use mathlib.Core.List.{List, [], ◌∷◌, ◌++◌, append-nil}
use native.Mathlib.Omega.{arith}
use lib.ListN.{length, get_or, take, drop, length-append}
use lib.Seq.{split_at, length-take-le, get_or_at, get_or-append-add}
use Rattle.pieces.specs.Tokens.{symbol, kind_of}
use Rattle.pieces.specs.Pieces.{token}
use Rattle.pieces.specs.declared.Token.{Token}
use Rattle.pieces.specs.declared.TokenValue.TheVariants as X
use Rattle.lexer.specs.Numbered.{Part, Outcome, spellings}
use Rattle.lexer.specs.Read.{lexed_from}
use Rattle.lexer.specs.Decoded.{Tok}
use Rattle.lexer.specs.Sound.{no_token}
use Rattle.lexer.proofs.Same.{length-spellings}
use Rattle.parser.specs.Moved.{Sim}
use Rattle.joined.specs.Runs.{Begins, Item, place_of, line_of, move_items, Run}
use Rattle.joined.specs.Names.{words_of, entered, In, AllIn, Distinct, Apart, move_of}
use Rattle.joined.specs.Limits.{AllShort}
use Rattle.joined.specs.Readings.{held, SameWord}
use Rattle.joined.proofs.Runs.{Back, run_range, run_join, run-split, run_back, run-front, start-at, end-at}
use Rattle.joined.proofs.Cut.{symbol_piece}
use Rattle.joined.proofs.Bytes.{token-says}
use Rattle.joined.proofs.Names.{names-distinct, renamed-spelled, renamed-apart, both-length, entered_append}
use Rattle.joined.proofs.Names.{words_append, words-moved, entered-grown, entered_all, all_grown, entered_only}
use Rattle.joined.proofs.Tokens.{run_inside, slice-part}
use Rattle.joined.proofs.Parts.{Lexes, run-all, Placed, placed, length_moved, part_moved, part_related}
use Rattle.joined.proofs.Places.{CutAt, cut_at, run-behind, stands_place, no_item}
use Rattle.joined.proofs.Edits.{brace-symbol}
use Rattle.joined.proofs.Limits.{stands_short, short-front, short_back, short_unmoved, ascii_parts}
use Rattle.joined.proofs.Replaced.{sim_same}
use Rattle.joined.proofs.Room.{no_more, entered-distinct, run-done}

-- The items of a part alone, with its run, and where they stand among those of the text.
record Stretch (pre f : List ℕ) (items : List Item) (i j first : ℕ) : Type 0 where
  own : List Item
  last : ℕ
  run : Run f 0 first own (length f) last
  front : List Item
  back : List Item
  whole : items ≡ front ++ (move_items (length pre) 0 own ++ back)
  counted : length front ≡ i
  long : length own ≡ j - i + 1

-- Of the text pre, f and post, token i begins f, and token j, behind it, is a closing brace, f's last byte.
pub record FromTo (pre f post : List ℕ) (line : ℕ) (ts : List Token) (ns : List Part) (i j : ℕ) : Type 0 where
  pub lexes : Lexes (pre ++ (f ++ post)) line ts ns
  pub order : i < j
  pub inner : j + 1 < length ts
  pub opens_at : (get_or ts i no_token).place ≡ length pre
  pub closes_kind : kind_of (get_or ts j no_token).value ≡ 28
  pub closes_at : (get_or ts j no_token).place + 1 ≡ length pre + length f

module _ {pre f post : List ℕ} {line : ℕ} {ts : List Token} {ns : List Part} {i j : ℕ}
    (b : FromTo pre f post line ts ns i j) where
  abbrev v : Lexes (pre ++ (f ++ post)) line ts ns
  v = b.lexes

  abbrev s : List ℕ
  s = pre ++ (f ++ post)

  abbrev first : Token
  first = get_or ts i no_token

  abbrev brace : Token
  brace = get_or ts j no_token

  cut-first : CutAt s line v.last i (spellings s ns) first
  cut-first = cut_at v i (omega (arith, b.order, b.inner))

  cut-brace : CutAt s line v.last j (spellings s ns) brace
  cut-brace = cut_at v j b.inner

  -- the items from the first on
  abbrev later : List Item
  later = cut-first.item ∷ cut-first.back

  items_are : v.items ≡ cut-first.front ++ later
  items_are = (run-all v (run_join cut-first.until cut-first.from)).0

  brace-item : get_or later (j - i) no_item ≡ cut-brace.item
  brace-item =
      let there : length cut-first.front + (j - i) ≡ j = omega (arith, cut-first.counted, b.order) in
      sym (get_or-append-add cut-first.front later (j - i) no_item)
      ∙ ap (λ (n : ℕ). get_or (cut-first.front ++ later) n no_item) there
      ∙ ap (λ (l : List Item). get_or l j no_item)
      (sym items_are ∙ (run-all v (run_join cut-brace.until cut-brace.from)).0)
      ∙ get_or_at cut-brace.front cut-brace.item cut-brace.back no_item j cut-brace.counted

  items_many : length v.items + 1 ≡ length ts
  items_many =
      let E = token X.EndOfFile v.last (length s) in
      omega (arith, ap length v.tokens, length-append v.toks (E ∷ []), both-length v.stand)

  enough : j - i < length later
  enough =
      let long = length-append cut-first.front later in
      omega (arith, b.order, b.inner, items_many, ap length items_are, long, cut-first.counted)

  abbrev middle : List Item
  middle = take (j - i) later

  abbrev behind : List Item
  behind = drop (suc (j - i)) later

  -- up to the brace, and from it on
  split : Run s first.place first.line.0 middle (place_of (get_or later (j - i) no_item))
      (line_of (get_or later (j - i) no_item))
      × Run s (place_of (get_or later (j - i) no_item)) (line_of (get_or later (j - i) no_item))
      (get_or later (j - i) no_item ∷ behind) (length s) v.last
  split =
      run-split middle (get_or later (j - i) no_item) behind
      (subst (λ (l : List Item). Run s first.place first.line.0 l (length s) v.last)
      (split_at later (j - i) no_item enough) cut-first.from)
      (run_range cut-first.until (omega arith)).1

  stands_there : (place_of (get_or later (j - i) no_item) ≡ brace.place) × (line_of (get_or later (j - i) no_item)
      ≡ brace.line.0)
  stands_there = rw brace-item (stands_place s (spellings s ns) cut-brace.item brace cut-brace.stand)

  is-brace : symbol (get_or s brace.place 0) ≡ Some X.RightBrace
  is-brace = brace-symbol _ ((token-says v j b.inner).1 b.closes_kind)

  in_text : brace.place < length s
  in_text = omega (arith, b.closes_at, length-append pre (f ++ post), length-append f post)

  abbrev last-item : Item
  last-item = Item.plain (token X.RightBrace brace.line.0 brace.place)

  through : Run s (length pre + 0) (0 + first.line.0) (middle ++ (last-item ∷ [])) (brace.place + 1) brace.line.0
  through =
      start-at (b.opens_at ∙ omega arith) (omega arith)
      (run_join (end-at stands_there.0 stands_there.1 split.0)
      (Run.plain (symbol_piece s brace.place brace.line.0 X.RightBrace in_text is-brace) Run.stop))

  rest : Run s (brace.place + 1) brace.line.0 behind (length s) v.last
  rest = run-behind X.RightBrace (start-at stands_there.0 stands_there.1 split.1) in_text is-brace

  -- the part behind nothing, and with nothing behind it
  moved_back : Back pre (f ++ post) 0 0 first.line.0 (middle ++ (last-item ∷ [])) (brace.place + 1)
      brace.line.0
  moved_back = run_back pre (f ++ post) 0 0 first.line.0 through

  alone-run : Run f 0 first.line.0 moved_back.items (length f) moved_back.last
  alone-run =
      let e : moved_back.place ≡ length f = omega (arith, moved_back.same_place, b.closes_at) in
      let r = run-front f {u = post} {u' = []} Begins.nothing (end-at e refl moved_back.run) (omega arith)
      (omega arith) in
      subst (λ (t : List ℕ). Run t 0 first.line.0 moved_back.items (length f) moved_back.last)
      (append-nil f) r

  stretch : Stretch pre f v.items i j first.line.0
  stretch =
      record {
        own = moved_back.items;
        last = moved_back.last;
        run = alone-run;
        front = cut-first.front;
        back = behind;
        whole =
            (run-all v (run_join cut-first.until
            (start-at (omega (arith, b.opens_at)) (omega arith) (run_join through rest)))).0
            ∙ ap (λ (l : List Item). cut-first.front ++ (l ++ behind)) moved_back.same_items;
        counted = cut-first.counted;
        long =
            let taken = length-take-le (j - i) later (omega (arith, enough)) in
            sym (length_moved (length pre) 0 moved_back.items) ∙ ap length (sym moved_back.same_items)
            ∙ omega (arith, length-append middle (last-item ∷ []), taken);
      }

  -- Within the limits. ---------------------------------------------------------------------------------------------

  all_short : AllShort stretch.own
  all_short =
      let all = subst AllShort stretch.whole (stands_short _ _ v.stand) in
      short_unmoved (length pre) 0 stretch.own
      (short-front (move_items (length pre) 0 stretch.own) stretch.back (short_back stretch.front _ all))

  -- its words are names of the text
  words-named : AllIn (spellings s ns) (words_of f stretch.own)
  words-named =
      let M = move_items (length pre) 0 stretch.own in
      let A = entered [] (words_of s stretch.front) in
      let W = words_of f stretch.own in
      let Z = words_of s stretch.back in
      let table : spellings s ns ≡ entered (entered A W) Z =
      v.table ∙ ap (λ (is : List Item). entered [] (words_of s is)) stretch.whole
      ∙ rw (
        words_append s stretch.front (M ++ stretch.back),
        words_append s M stretch.back,
        words-moved s f (length pre) 0 (slice-part pre f post) stretch.own (run_inside stretch.run (omega arith)),
        entered_append [] (words_of s stretch.front) (W ++ Z),
        entered_append A W Z,
      ) in
      rw table (all_grown (entered-grown (entered A W) Z) W (entered_all A W))

  each-named : (k : ℕ) → k < length (entered [] (words_of f stretch.own))
      → In (spellings s ns) (get_or (entered [] (words_of f stretch.own)) k [])
  each-named =
      entered_only (spellings s ns) [] (words_of f stretch.own) (λ k h. absurd (omega arith)) words-named

  names_few : length (entered [] (words_of f stretch.own)) ≤ length (spellings s ns)
  names_few =
      no_more (entered [] (words_of f stretch.own)) (spellings s ns)
      (entered-distinct [] (words_of f stretch.own) (λ i j h. absurd (omega arith))) each-named

  -- THE PART LEXES
  pub part-lexes : (ts' : List Token) × (ns' : List Part) × (lexed_from first.line.0 f ≡ Outcome.done ts' ns')
  part-lexes =
      run-done f first.line.0 stretch.last stretch.own stretch.run all_short
      (ascii_parts f post (ascii_parts pre (f ++ post) v.sound.ascii).1).0
      (omega (arith, v.sound.short, length-append pre (f ++ post), length-append f post))
      (omega (arith, stretch.long, b.order, b.inner, v.sound.few))
      (omega (arith, names_few, length-spellings s ns, v.sound.few_names))

  -- Its tokens and names. ------------------------------------------------------------------------------------------

  module _ {ts' : List Token} {ns' : List Part} (own : Lexes f first.line.0 ts' ns') where
    own-items : own.items ≡ stretch.own
    own-items = (run-all own stretch.run).0

    there : Placed s ts ns stretch.front (move_items (length pre) 0 own.items)
    there =
        placed v stretch.front (move_items (length pre) 0 own.items) stretch.back
        (stretch.whole
        ∙ ap (λ (l : List Item). stretch.front ++ (move_items (length pre) 0 l ++ stretch.back)) (sym own-items))

    own-distinct : Distinct (spellings f ns')
    own-distinct = names-distinct f ns' own.sound.distinct

    own_many : length own.toks ≡ j - i + 1
    own_many = sym (both-length own.stand) ∙ ap length own-items ∙ stretch.long

    pub counted : length ts' ≡ j - i + 2
    counted =
        let E = token X.EndOfFile own.last (length f) in
        omega (arith, ap length own.tokens, length-append own.toks (E ∷ []), own_many)

    brace-last : (n : ℕ) → n + 1 ≡ length own.toks → kind_of (get_or own.toks n no_token).value ≡ 28
    brace-last n e =
        let at : length stretch.front + n ≡ j = omega (arith, own_many, stretch.counted, b.order) in
        let same = part_moved v f (length pre) 0 (slice-part pre f post) stretch.front own.items
        (run_inside own.run (omega arith)) (spellings f ns') own-distinct own.toks own.stand there n
        (omega arith) in
        sym (ap (λ (t : Tok). t.kind) same)
        ∙ ap (λ (m : ℕ). kind_of (get_or ts m no_token).value) at ∙ b.closes_kind

    pub own-apart : Apart (spellings s ns) (spellings f ns')
    own-apart = renamed-apart (spellings s ns) (spellings f ns') own-distinct

    -- THE TOKENS OF THE PART ALONE, moved, are those of the text
    pub part-moves : (w w' : ℕ)
        → Sim (move_of i 0 (length pre) (spellings s ns) (spellings f ns') own-apart) (length ts' - 1) (held w ts)
        (held w' ts')
    unfolding own-apart
    part-moves w w' =
        sim_same (spellings s ns) (spellings f ns') own-apart stretch.counted refl refl
        (omega (arith, counted, own_many))
        (part_related v f (length pre) 0 (slice-part pre f post) stretch.front own.items
        (run_inside own.run (omega arith)) (spellings f ns') own-distinct own.toks own.stand there w w' ts' _
        own.tokens brace-last)

    -- its names are spelled as in the text
    pub part-spelled : (x : ℕ) → x < length ns' → SameWord (spellings s ns) (spellings f ns') x
    part-spelled x h =
        let same : spellings f ns' ≡ entered [] (words_of f stretch.own) =
        own.table ∙ ap (λ (is : List Item). entered [] (words_of f is)) own-items in
        let l : x < length (spellings f ns') = omega (arith, length-spellings f ns') in
        renamed-spelled (spellings s ns) (spellings f ns') x
        ((rw (← same) at each-named) x l)
