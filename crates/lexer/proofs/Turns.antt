-- Why the reader's loop is right: what is left to do, done from here, gives the whole answer. `Lexing` is the loop's
-- state with the tokens and names found so far; `turn` says what next_token makes of it, by cases of the piece.
use Rattle.std.specs.Prelude.{Option, Some, None, Result, Ok, Err}
use Prim.Native.Nat.{ℕ, suc, ◌+◌, ◌-◌, ◌*◌, ◌≤◌, ◌<◌}
use mathlib.Core.Path.{◌≡◌, refl, sym, ap, ◌∙◌}
use mathlib.Core.List.{List, [], ◌∷◌, ◌++◌}
use mathlib.Core.Bool.{Bool, true, false}
use native.Mathlib.Omega.{arith}
use borrow.Author.Tests.{lt-ltb, le-ltb, ltb-true, ltb-false}
use mir.Syntax.{w32}
use mir.Val.{Fits}
use lib.Dec.{ltb}
use lib.ListN.{length, take, length-append}
use lib.Seq.{sets, length-sets}
use Rattle.utils.specs.Bytes.{pick, over}
use Rattle.utils.proofs.Runs.{sets_over}
use Rattle.pieces.specs.Tokens.{token_cells}
use Rattle.pieces.specs.Refusals.{facts_of}
use Rattle.pieces.specs.Pieces.{Pieces, token, piece_at, on_piece, pieces_from}
use Rattle.lexer.specs.Numbered.{Part, part, Outcome, identified, on_found, index_of, spellings, spelling_of, named}
use Rattle.lexer.specs.Numbered.{at_token, then_identified, then_room, numbered_from, numbered, tokens_cells}
use Rattle.lexer.specs.Numbered.{names_cells}
use Rattle.lexer.specs.Read.{result_of, Held, counts}
use Rattle.lexer.specs.Steps.{parts_of, Within, Table, new_cells, next_name, next_of, added_by, room_for, pushed}
use Rattle.lexer.proofs.Parts.{tokens_cells_snoc, names_cells_snoc, within_snoc}
use Rattle.lexer.proofs.Cells.{length-tokens_cells, length-names_cells, cells_parts_over}
use Rattle.pieces.proofs.Progress.{Past, piece_past, pick_either}
use Rattle.pieces.specs.declared.Cursor.{Cursor}
use Rattle.pieces.specs.declared.Name.{Name}
use Rattle.pieces.specs.declared.Token.{Token}
use Rattle.pieces.specs.declared.TokenValue.TheVariants as T
use Rattle.lexer.specs.declared.Identified.{Identified}
use Rattle.lexer.specs.declared.Identified.TheVariants as I
use Rattle.pieces.specs.declared.Refusal.{Refusal}
use Rattle.pieces.specs.declared.Refusal.TheVariants as R
use Rattle.pieces.specs.declared.Lexed.{Lexed}
use Rattle.pieces.specs.declared.Lexed.TheVariants as L
use Rattle.lexer.specs.declared.Next.{Next}
use Rattle.lexer.specs.declared.Next.TheVariants as N
use Rattle.pieces.specs.declared.Identifier.{Identifier}

-- a new name had room, and a refused one is refused where it stands
abbrev pub Room : ℕ → Name → Result Identified Refusal → Type 0
Room count n (Ok (I.Known i)) = Unit
Room count n (Ok (I.New i)) = count < 1024
Room count n (Err r) = (facts_of r).place ≡ n.place

room-found : (count : ℕ) (n : Name) (f : Option Identifier) → Room count n (on_found count n f)
room-found count n (Some i) = tt
room-found count n None =
    pick_either (Room count n) (ltb count 1024) _ _ (λ e. ltb-true _ _ e) (λ e. refl)

pub identified-room : (s : List ℕ) (ps : List Part) (n : Name) → Room (length ps) n (identified s ps n)
unfolding identified
identified-room s ps n =
    pick_either (Room (length ps) n) (ltb 64 n.len) _ _ (λ e. refl) (λ e. room-found (length ps) n
    (index_of (spelling_of s n) (spellings s ps) 0))

-- the loop's state; t₀ and n₀ are the slices before it
pub record Lexing (s : List ℕ) (first : ℕ) (t₀ n₀ t n : List ℕ) (count known : ℕ) (at : Cursor) : Type 0 where
  pub small : length s ≤ 16384
  pub early : first ≤ 2147483648
  pub sized : 16384 ≤ length t₀
  pub sized_names : 2048 ≤ length n₀
  pub within : at.place ≤ length s
  pub lines : at.line ≤ first + at.place
  pub long : length t ≡ length t₀
  pub long_names : length n ≡ length n₀
  pub turns : ℕ
  pub enough : length s - at.place ≤ turns
  pub found : List Token
  pub counted : length found ≡ count
  pub room : count ≤ 4096
  pub held : t ≡ over t₀ (tokens_cells found)
  pub parts : List Part
  pub parts_counted : length parts ≡ known
  pub parts_room : known ≤ 1024
  pub parts_held : n ≡ over n₀ (names_cells parts)
  pub parts_within : Within (length s) parts
  pub same : numbered_from s found parts (pieces_from (suc turns) s at.place at.line) ≡ numbered s first

pub start : (s : List ℕ) (first : ℕ) (t n : List ℕ)
    → length s ≤ 16384 → first ≤ 2147483648 → 16384 ≤ length t → 2048 ≤ length n
    → Lexing s first t n t n 0 0 (record { place = 0; line = first })
unfolding numbered tokens_cells names_cells
start s first t n small early sized sized_names =
    record {
      small = small;
      early = early;
      sized = sized;
      sized_names = sized_names;
      within = omega arith;
      lines = omega arith;
      long = refl;
      long_names = refl;
      turns = length s;
      enough = omega arith;
      found = [];
      counted = refl;
      room = omega arith;
      held = refl;
      parts = [];
      parts_counted = refl;
      parts_room = omega arith;
      parts_held = refl;
      parts_within = tt;
      same = refl;
    }

-- a token made: the refusal where there is no room for it, and the state where there is
pub record Made (s : List ℕ) (first : ℕ) (t₀ n₀ t n : List ℕ) (count known : ℕ) (at c : Cursor) (u : Token) : Type 0
  where
    pub later : at.place < c.place
    pub inside : c.place ≤ length s
    pub place : u.place ≤ length s
    pub full : 4096 ≤ count → numbered s first ≡ Outcome.refused (R.TooManyTokens (at_token u))
    pub more : count < 4096 → (t' : List ℕ) → t' ≡ sets t (count * 4) (token_cells u)
        → Lexing s first t₀ n₀ t' n (count + 1) known c

-- what a text reads as whose last token has been stored
pub record Ended (s : List ℕ) (first : ℕ) (t₀ n₀ t n : List ℕ) (count known : ℕ) : Type 0 where
  pub tokens : List Token
  pub names : List Part
  pub whole : numbered s first ≡ Outcome.done tokens names
  pub counted : length tokens ≡ count
  pub names_counted : length names ≡ known
  pub held : t ≡ over t₀ (tokens_cells tokens)
  pub names_held : n ≡ over n₀ (names_cells names)

-- the end token made
pub record Closed (s : List ℕ) (first : ℕ) (t₀ n₀ t n : List ℕ) (count known : ℕ) (u : Token) : Type 0 where
  pub place : u.place ≤ length s
  pub full : 4096 ≤ count → numbered s first ≡ Outcome.refused (R.TooManyTokens (at_token u))
  pub done : count < 4096 → (t' : List ℕ) → t' ≡ sets t (count * 4) (token_cells u)
      → Ended s first t₀ n₀ t' n (count + 1) known

abbrev pub After : List ℕ → ℕ → List ℕ → List ℕ → List ℕ → List ℕ → ℕ → ℕ → Cursor → Result Next Refusal → Type 0
After s first t₀ n₀ t n count known at (Ok (N.Skipped c)) =
    Lexing s first t₀ n₀ t n count known c × (at.place < c.place) × (c.place ≤ length s)
After s first t₀ n₀ t n count known at (Ok (N.Token u c k)) = Made s first t₀ n₀ t n count k at c u
After s first t₀ n₀ t n count known at (Ok (N.End u)) = Closed s first t₀ n₀ t n count known u
After s first t₀ n₀ t n count known at (Err r) =
    (numbered s first ≡ Outcome.refused r) × ((facts_of r).place ≤ length s)

module _ {s : List ℕ} {first : ℕ} {t₀ n₀ t n : List ℕ} {count known : ℕ} {at : Cursor}
    (v : Lexing s first t₀ n₀ t n count known at) where
  pub taken : parts_of (take (known * 2) n) ≡ v.parts
  taken = rw (v.parts_held, ← v.parts_counted) (cells_parts_over n₀ v.parts)

  -- one token more in the cells
  stored : (u : Token) (t' : List ℕ) → count < 4096 → t' ≡ sets t (count * 4) (token_cells u)
      → t' ≡ over t₀ (tokens_cells (v.found ++ (u ∷ [])))
  stored u t' f e =
      let l : length (tokens_cells v.found) ≡ count * 4 =
      omega (arith, length-tokens_cells v.found, v.counted) in
      e ∙ rw (v.held, tokens_cells_snoc)
      (sets_over t₀ (tokens_cells v.found) (token_cells u) (count * 4) l (omega (arith, v.sized)))

  -- the pieces from a later place on, with one turn less
  fewer : (c : Cursor) → at.place < c.place → c.place ≤ length s
      → pieces_from (suc (v.turns - 1)) s c.place c.line ≡ pieces_from v.turns s c.place c.line
  fewer c h g =
      let e : suc (v.turns - 1) ≡ v.turns = omega (arith, v.enough) in
      ap (λ (k : ℕ). pieces_from k s c.place c.line) e

  -- a token, of a name or not, with the names as they are then
  made : (u : Token) (c : Cursor) (ps : List Part) (k : ℕ) (n' : List ℕ)
      → at.place < c.place → c.place ≤ length s → c.line ≡ at.line → u.place ≡ at.place
      → length ps ≡ k → k ≤ 1024 → length n' ≡ length n₀ → n' ≡ over n₀ (names_cells ps) → Within (length s) ps
      → numbered s first
      ≡ then_room v.found u (numbered_from s (v.found ++ (u ∷ [])) ps (pieces_from v.turns s c.place c.line))
      → Made s first t₀ n₀ t n' count k at c u
  unfolding then_room pick
  made u c ps k n' later inside line place counted few long held inner whole =
      record {
        later = later;
        inside = inside;
        place = omega arith;
        full = λ f. whole ∙ rw (v.counted, le-ltb count 4096 f);
        more = λ f t' e.
            record {
              small = v.small;
              early = v.early;
              sized = v.sized;
              sized_names = v.sized_names;
              within = inside;
              lines = omega (arith, v.lines);
              long = rw e (length-sets t _ (token_cells u) ∙ v.long);
              long_names = long;
              turns = v.turns - 1;
              enough = omega (arith, v.enough);
              found = v.found ++ (u ∷ []);
              counted = simp length-append (omega (arith, v.counted));
              room = omega arith;
              held = stored u t' f e;
              parts = ps;
              parts_counted = counted;
              parts_room = few;
              parts_held = held;
              parts_within = inner;
              same = rw (fewer c later inside) (sym (whole ∙ rw (v.counted, lt-ltb count 4096 f)));
            };
      }

  -- where no name is new, the names' cells stay
  kept : (n' : List ℕ) → n' ≡ sets n (known * 2) [] → n' ≡ over n₀ (names_cells v.parts)
  kept n' e = e ∙ v.parts_held

  -- what the numbers of the whole say of one piece
  unfolded : (p : Result Lexed Refusal) → piece_at s at.place at.line ≡ p
      → numbered s first
      ≡ numbered_from s v.found v.parts (on_piece (λ c. pieces_from v.turns s c.place c.line) p)
  unfolding pieces_from
  unfolded p e = sym v.same ∙ rw e

  of-name : (m : Name) (c : Cursor) (i : Result Identified Refusal) (n' : List ℕ)
      → Past (length s) at.place at.line (Ok (L.Name m c))
      → identified s v.parts m ≡ i → Room (length v.parts) m i
      → numbered s first
      ≡ numbered_from s v.found v.parts (Pieces.spelled m (pieces_from v.turns s c.place c.line))
      → n' ≡ sets n (known * 2) (new_cells m i)
      → After s first t₀ n₀ t n' count known at (next_name known m c i)
  unfolding numbered_from then_identified
  of-name m c (Ok (I.Known i)) n' past e r whole d =
      made (named m i) c v.parts known n' past.on past.within past.same_line past.name_place
      v.parts_counted v.parts_room (rw d v.long_names) (kept n' d) v.parts_within (whole ∙ rw e)
  of-name m c (Ok (I.New i)) n' past e r whole d =
      let p = part m.place m.len in
      let l : length (names_cells v.parts) ≡ known * 2 =
      omega (arith, length-names_cells v.parts, v.parts_counted) in
      let q : length (v.parts ++ (p ∷ [])) ≡ known + 1 =
      length-append v.parts (p ∷ []) ∙ omega (arith, v.parts_counted) in
      let room : known < 1024 = omega (arith, r, v.parts_counted) in
      let cells : List ℕ = m.place ∷ m.len ∷ [] in
      let held : n' ≡ over n₀ (names_cells (v.parts ++ (p ∷ []))) =
      d ∙ rw (v.parts_held, names_cells_snoc)
      (sets_over n₀ (names_cells v.parts) cells (known * 2) l (omega (arith, v.sized_names))) in
      made (named m i) c (v.parts ++ (p ∷ [])) (known + 1) n' past.on past.within past.same_line
      past.name_place q (omega arith) (rw d (length-sets n _ cells ∙ v.long_names)) held
      (within_snoc (length s) v.parts p v.parts_within (omega (arith, past.name_end_lem, past.within)))
      (whole ∙ rw e)
  of-name m c (Err x) n' past e r whole d = (whole ∙ rw e, omega (arith, r, past.name_place, v.within))

  of_piece : (p : Result Lexed Refusal) (n' : List ℕ)
      → piece_at s at.place at.line ≡ p → Past (length s) at.place at.line p
      → n' ≡ sets n (known * 2) (added_by s v.parts p)
      → After s first t₀ n₀ t n' count known at (next_of s v.parts known p)
  unfolding next_of added_by on_piece numbered_from then_room pick
  of_piece (Ok (L.Skipped c)) n' e past d = (
    record {
      small = v.small;
      early = v.early;
      sized = v.sized;
      sized_names = v.sized_names;
      within = past.within;
      lines = omega (arith, v.lines, past.line_to);
      long = v.long;
      long_names = rw d v.long_names;
      turns = v.turns - 1;
      enough = omega (arith, v.enough, past.on);
      found = v.found;
      counted = v.counted;
      room = v.room;
      held = v.held;
      parts = v.parts;
      parts_counted = v.parts_counted;
      parts_room = v.parts_room;
      parts_held = kept n' d;
      parts_within = v.parts_within;
      same = rw (fewer c past.on past.within) (sym (unfolded (Ok (L.Skipped c)) e));
    },
    past.on,
    past.within,
  )
  of_piece (Ok (L.Name m c)) n' e past d =
      of-name m c (identified s v.parts m) n' past refl (identified-room s v.parts m)
      (unfolded (Ok (L.Name m c)) e) d
  of_piece (Ok (L.Token u c)) n' e past d =
      made u c v.parts known n' past.on past.within past.same_line past.token_place
      v.parts_counted v.parts_room (rw d v.long_names) (kept n' d) v.parts_within
      (unfolded (Ok (L.Token u c)) e)
  of_piece (Ok (L.End c)) n' e past d =
      let u = token T.EndOfFile c.line c.place in
      record {
        place = omega (arith, past.same_place, v.within);
        full = λ f. unfolded (Ok (L.End c)) e ∙ rw (v.counted, le-ltb count 4096 f);
        done = λ f t' h.
            record {
              tokens = v.found ++ (u ∷ []);
              names = v.parts;
              whole = unfolded (Ok (L.End c)) e ∙ rw (v.counted, lt-ltb count 4096 f);
              counted = length-append v.found (u ∷ []) ∙ omega (arith, v.counted);
              names_counted = v.parts_counted;
              held = stored u t' f h;
              names_held = kept n' d;
            };
      }
  of_piece (Err r) n' e past d = (unfolded (Err r) e, omega (arith, past.place, v.within))

  -- THE TURN: what next_token's answer makes of the loop's state
  pub turn : (r : Result Next Refusal) (n' : List ℕ)
      → r ≡ next_of s (parts_of (take (known * 2) n)) known (piece_at s at.place at.line)
      → n' ≡ sets n (known * 2) (added_by s (parts_of (take (known * 2) n)) (piece_at s at.place at.line))
      → After s first t₀ n₀ t n' count known at r
  turn r n' e d =
      let p = piece_at s at.place at.line in
      rw e (rw taken (of_piece p n' refl (piece_past s at.place at.line v.within) (rw taken at d)))

  -- what next_token may rely on
  pub ready : Table s n known × (at.place ≤ length s) × (at.line < 4294967295)
  ready = (
    record {
      few = v.parts_room;
      room = omega (arith, v.long_names, v.sized_names);
      small = omega (arith, v.small);
      within = rw taken v.parts_within;
    },
    v.within,
    omega (arith, v.lines, v.within, v.small, v.early),
  )

  -- the counts as numbers of 32 bits
  pub count_fits : Fits w32 count
  count_fits = omega (arith, v.room)

  pub more-fits : Fits w32 (count + 1)
  more-fits = omega (arith, v.room)

  pub known-fits : Fits w32 known
  known-fits = omega (arith, v.parts_room)

  pub tokens-room : 16384 ≤ length t
  tokens-room = omega (arith, v.long, v.sized)

  -- the slices' lengths, for slices that were lent with these
  pub tokens_long : (e t' : List ℕ) → length t₀ ≡ length e → length t' ≡ length t → length t' ≡ length e
  tokens_long e t' h g = g ∙ v.long ∙ h

  pub names_long : (e n' : List ℕ) → length n₀ ≡ length e → length n' ≡ length n → length n' ≡ length e
  names_long e n' h g = g ∙ v.long_names ∙ h

-- What push_token's answer says of the room: with an error there was none, else there was.
module _ (count : ℕ) (t : Token) {p : Result Unit Refusal} (is : p ≡ room_for count t) where
  pub no-room : {x : Refusal} → p ≡ Err x → (4096 ≤ count) × (x ≡ R.TooManyTokens (at_token t))
  unfolding room_for pick
  no-room {x} e = by (ltb count 4096) refl (sym e ∙ is)
    where
      by : (b : Bool) → ltb count 4096 ≡ b → Err x ≡ pick b (Ok (tt {0})) (Err (R.TooManyTokens (at_token t)))
          → (4096 ≤ count) × (x ≡ R.TooManyTokens (at_token t))
      by true q h = absurd (let z : ◌≡◌ {A = ℕ} 0 1 = cc in omega arith)
      by false q h = (ltb-false _ _ q, cc)

  pub with-room : {y : Unit} → p ≡ Ok y → count < 4096
  unfolding room_for pick
  with-room {y} e = by (ltb count 4096) refl (sym e ∙ is)
    where
      by : (b : Bool) → ltb count 4096 ≡ b → Ok y ≡ pick b (Ok (tt {0})) (Err (R.TooManyTokens (at_token t)))
          → count < 4096
      by true q h = ltb-true _ _ q
      by false q h = absurd (let z : ◌≡◌ {A = ℕ} 0 1 = cc in omega arith)

-- A turn by next_token's answer, from what its call ensures: each need of the loop is one of these.
module _ {s : List ℕ} {first : ℕ} {t₀ n₀ t n : List ℕ} {count known : ℕ} {at : Cursor} {r : Result Next Refusal}
    {n' : List ℕ} (v : Lexing s first t₀ n₀ t n count known at)
    (is : r ≡ next_of s (parts_of (take (known * 2) n)) known (piece_at s at.place at.line))
    (adds : n' ≡ sets n (known * 2) (added_by s (parts_of (take (known * 2) n)) (piece_at s at.place at.line))) where
  after : {q : Result Next Refusal} → r ≡ q → After s first t₀ n₀ t n' count known at q
  after e = rw e at (turn v r n' is adds)

  pub refused : {x : Refusal} → r ≡ Err x → Err x ≡ result_of (numbered s first)
  refused e = rw (after e).0

  pub refused-held : (a b t' n'' : List ℕ) {x : Refusal} → r ≡ Err x → Held (numbered s first) a b t' n''
  refused-held a b t' n'' e = rw (after e).0 tt

  -- what stands there, by its case
  module _ {m : Next} (was : r ≡ Ok m) where
    met : {q : Next} → m ≡ q → After s first t₀ n₀ t n' count known at (Ok q)
    met e = after (was ∙ ap (λ (x : Next). Ok x) e)

    pub skipped : {c : Cursor} → m ≡ N.Skipped c → Lexing s first t₀ n₀ t n' count known c
    skipped e = (met e).0

    pub skipped_less : {c : Cursor} → m ≡ N.Skipped c → length s - c.place < length s - at.place
    skipped_less e = omega (arith, (met e).1, (met e).2)

    -- a token: the code has stored it, or found no room for it
    module _ {u : Token} {c : Cursor} {k : ℕ} (e : m ≡ N.Token u c k) where
      pub token_place : u.place < 4294967296
      token_place = omega (arith, (met e).place, v.small)

      pub token-less : length s - c.place < length s - at.place
      token-less = omega (arith, (met e).later, (met e).inside)

      module _ {p : Result Unit Refusal} (h : p ≡ room_for count u) where
        pub token_full : {x : Refusal} → p ≡ Err x → Err x ≡ result_of (numbered s first)
        token_full g = rw ((met e).full (no-room count u h g).0, (no-room count u h g).1)

        pub token_full_held : (a b t' n'' : List ℕ) {x : Refusal} → p ≡ Err x → Held (numbered s first) a b t' n''
        token_full_held a b t' n'' g = rw ((met e).full (no-room count u h g).0) tt

        pub token-more : {y : Unit} {t' : List ℕ} → p ≡ Ok y → t' ≡ pushed t count u
            → Lexing s first t₀ n₀ t' n' (count + 1) k c
        unfolding pushed pick
        token-more g d =
            let room = with-room count u h g in
            (met e).more room _ (rw (lt-ltb count 4096 room) at d)

    -- the end token
    module _ {u : Token} (e : m ≡ N.End u) where
      pub end-place : u.place < 4294967296
      end-place = omega (arith, (met e).place, v.small)

      module _ {p : Result Unit Refusal} (h : p ≡ room_for count u) where
        pub end_full : {x : Refusal} → p ≡ Err x → Err x ≡ result_of (numbered s first)
        end_full g = rw ((met e).full (no-room count u h g).0, (no-room count u h g).1)

        pub end_full_held : (a b t' n'' : List ℕ) {x : Refusal} → p ≡ Err x → Held (numbered s first) a b t' n''
        end_full_held a b t' n'' g = rw ((met e).full (no-room count u h g).0) tt

        module _ {y : Unit} {t' : List ℕ} (g : p ≡ Ok y) (d : t' ≡ pushed t count u) where
          ended : Ended s first t₀ n₀ t' n' (count + 1) known
          unfolding pushed pick
          ended =
              let room = with-room count u h g in
              (met e).done room _ (rw (lt-ltb count 4096 room) at d)

          pub end-done : Ok (counts (count + 1) known) ≡ result_of (numbered s first)
          end-done = rw (ended.whole, ended.counted, ended.names_counted)

          pub end-held : Held (numbered s first) t₀ n₀ t' n'
          end-held = rw ended.whole (ended.held, ended.names_held)
