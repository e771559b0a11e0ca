-- Every accepted reading is sound, every refusal stands in the text, and no reading is cut short: by one induction over
-- the turns of `pieces_from`, in which each piece keeps what holds of the tokens and the names so far (`Going`).
use Rattle.std.specs.Prelude.{Option, Some, None, Result, Ok, Err}
use Prim.Native.Nat.{ℕ, zero, suc, ◌+◌, ◌-◌, ◌≤◌, ◌<◌}
use mathlib.Core.Path.{◌≡◌, refl, sym, ap, ◌∙◌}
use mathlib.Core.Bool.{true}
use mathlib.Core.List.{List, [], ◌∷◌, ◌++◌}
use native.Mathlib.Omega.{arith}
use borrow.Author.Tests.{ltb-true, ltb-false}
use lib.Dec.{ltb}
use lib.ListN.{length, get_or, length-append, get_or-append}
use lib.Seq.{get_or_at, length-slice}
use Rattle.utils.specs.Bytes.{pick}
use Rattle.pieces.specs.Classes.{is_ascii}
use Rattle.pieces.specs.Tokens.{kind_of, name_kind, carried, value_of}
use Rattle.pieces.specs.Refusals.{facts_of}
use Rattle.pieces.specs.Pieces.{token, piece_at, on_piece, pieces_from}
use Rattle.lexer.specs.Numbered.{Part, part, spellings, spelling_of, index_of, on_found, identified, named, Outcome}
use Rattle.lexer.specs.Numbered.{then_identified, then_room, numbered_from, numbered}
use Rattle.lexer.specs.Read.{lexed_from}
use Rattle.lexer.specs.Sound.{Each, Pairs, no_token, no_part, spelling, Sound, SoundRefusal, HasNumber}
use Rattle.lexer.specs.Sound.{HasSpelling, HasLetter, InRange, Rises, InText, Differ}
use Rattle.pieces.specs.declared.Cursor.{Cursor}
use Rattle.pieces.specs.declared.Token.{Token}
use Rattle.pieces.specs.declared.TokenValue.TheVariants as T
use Rattle.pieces.specs.declared.Name.{Name}
use Rattle.lexer.specs.declared.Identified.{Identified}
use Rattle.lexer.specs.declared.Identified.TheVariants as I
use Rattle.pieces.specs.declared.Refusal.{Refusal}
use Rattle.pieces.specs.declared.Lexed.{Lexed}
use Rattle.pieces.specs.declared.Lexed.TheVariants as L
use Rattle.pieces.proofs.Progress.{pick_either, SkippedPast, NamePast, EndPast, Past, piece_past}
use Rattle.lexer.proofs.Same.{length-spellings, spelling-at, FoundIn, index_of-found, each_snoc, pairs_snoc}
use Rattle.pieces.specs.declared.Identifier.{Identifier}

-- A name's number. --------------------------------------------------------------------------------------------------

pub name-kind : (k x : ℕ) → 1 ≤ k → k ≤ 3 → kind_of (value_of k x) ≡ k
unfolding value_of pick
name-kind zero x h g = absurd (omega arith)
name-kind (suc zero) x h g = refl
name-kind (suc (suc zero)) x h g = refl
name-kind (suc (suc (suc zero))) x h g = refl
name-kind (suc (suc (suc (suc k)))) x h g = absurd (omega arith)

pub name-carried : (k x : ℕ) → 1 ≤ k → k ≤ 3 → carried (value_of k x) ≡ x
unfolding value_of pick
name-carried zero x h g = absurd (omega arith)
name-carried (suc zero) x h g = refl
name-carried (suc (suc zero)) x h g = refl
name-carried (suc (suc (suc zero))) x h g = refl
name-carried (suc (suc (suc (suc k)))) x h g = absurd (omega arith)

-- what a name's number says of the table
abbrev pub Fits : List ℕ → List Part → Name → Result Identified Refusal → Type 0
Fits s ns n (Ok (I.Known i)) = (n.len ≤ 64) × (i.0 < length ns) × (spelling s (get_or ns i.0 no_part) ≡ spelling_of s n)
Fits s ns n (Ok (I.New i)) =
    (n.len ≤ 64) × (i.0 ≡ length ns) × (length ns < 1024) × Each no_part (λ p. spelling s p ≡ spelling_of s n → ⊥) ns
Fits s ns n (Err r) = ((facts_of r).place ≡ n.place) × ((facts_of r).line ≡ n.line.0)

found-fits : (s : List ℕ) (ns : List Part) (n : Name) (f : Option Identifier)
    → n.len ≤ 64 → FoundIn (spelling_of s n) (spellings s ns) 0 f → Fits s ns n (on_found (length ns) n f)
found-fits s ns n (Some i) h f =
    let l = length-spellings s ns in
    let e : i.0 ≡ f.0 = omega arith in
    (h, omega arith, rw e (sym (spelling-at s ns f.0 (omega arith)) ∙ f.3))
found-fits s ns n None h f =
    let l = length-spellings s ns in
    pick_either (Fits s ns n) (ltb (length ns) 1024) _ _
    (λ e. (h, refl, ltb-true _ _ e, λ i k. rw (spelling-at s ns i k) at (f i (omega arith)))) (λ _. (refl, refl))

pub identified-fits : (s : List ℕ) (ns : List Part) (n : Name) → Fits s ns n (identified s ns n)
unfolding identified
identified-fits s ns n =
    pick_either (Fits s ns n) (ltb 64 n.len) _ _ (λ _. (refl, refl))
    (λ e. found-fits s ns n (index_of (spelling_of s n) (spellings s ns) 0) (ltb-false 64 n.len e)
    (index_of-found (spelling_of s n) (spellings s ns) 0))

-- two parts of the text that are spelled alike have one length
pub same_length : (s : List ℕ) (p q : Part) → p.place + p.len ≤ length s → q.place + q.len ≤ length s
    → spelling s p ≡ spelling s q → p.len ≡ q.len
same_length s p q h g e =
    let l = length-slice p.place (p.place + p.len) s h in
    let m = length-slice q.place (q.place + q.len) s g in
    omega (arith, ap length e)

-- The state before a turn: the tokens and the names so far, the place and the line. ----------------------------------

-- a token before a place, at a line or below it
record Before (s : List ℕ) (first : ℕ) (ns : List Part) (at line : ℕ) (t : Token) : Type 0 where
  place_before : t.place < at
  line_to : t.line.0 ≤ line
  range : InRange s first t
  number : HasNumber ns t
  bytes : HasSpelling s ns t
  letter : HasLetter ns t

record Going (s : List ℕ) (first : ℕ) (ts : List Token) (ns : List Part) (at line : ℕ) : Type 0 where
  at_in : at ≤ length s
  line_first : first ≤ line
  line_place : line ≤ first + at
  inner : Each no_token (λ t. kind_of t.value < 38) ts
  before : Each no_token (Before s first ns at line) ts
  rise : Pairs no_token Rises ts
  few_names : length ns ≤ 1024
  within : Each no_part (InText s) ns
  distinct : Pairs no_part (Differ s) ns

module _ {s : List ℕ} {first : ℕ} {ns : List Part} {at line : ℕ} {t : Token} (b : Before s first ns at line t) where
  -- further on
  before-later : (at' line' : ℕ) → at ≤ at' → line ≤ line' → Before s first ns at' line' t
  before-later at' line' h g =
      record {
        place_before = omega arith;
        line_to = omega arith;
        range = b.range;
        number = b.number;
        bytes = b.bytes;
        letter = b.letter;
      }

  -- with one name more
  before-named : (p : Part) → Before s first (ns ++ (p ∷ [])) at line t
  before-named p =
      record {
        place_before = b.place_before;
        line_to = b.line_to;
        range = b.range;
        number = λ k. omega (arith, b.number k, length-append ns (p ∷ []));
        bytes = λ k. rw (get_or-append ns (p ∷ []) no_part (carried t.value) (b.number k)) (b.bytes k);
        letter = λ l k. rw (get_or-append ns (p ∷ []) no_part (carried t.value) (b.number k)) (b.letter l k);
      }

module _ {s : List ℕ} {first : ℕ} {ts : List Token} {ns : List Part} {at line : ℕ}
    (g : Going s first ts ns at line) where
  -- a gap
  going_skipped : (c : Cursor) → SkippedPast (length s) at line c → Going s first ts ns c.place c.line
  going_skipped c p =
      record {
        at_in = p.within;
        line_first = omega arith;
        line_place = omega arith;
        inner = g.inner;
        before = λ i h. before-later (g.before i h) c.place c.line (omega arith) (omega arith);
        rise = g.rise;
        few_names = g.few_names;
        within = g.within;
        distinct = g.distinct;
      }

  -- a token here, of a kind below the end's, where the text goes on at `next`
  going_token : (t : Token) (next : ℕ) → at < next → next ≤ length s → t.place ≡ at → t.line.0 ≡ line
      → kind_of t.value < 38 → HasNumber ns t → HasSpelling s ns t → HasLetter ns t
      → Going s first (ts ++ (t ∷ [])) ns next line
  going_token t next h w p l k number bytes letter =
      record {
        at_in = w;
        line_first = g.line_first;
        line_place = omega arith;
        inner = each_snoc no_token ts t (λ u. kind_of u.value < 38) g.inner k;
        before =
            each_snoc no_token ts t (Before s first ns next line)
            (λ i b. before-later (g.before i b) next line (omega arith) (omega arith))
            (record {
              place_before = omega arith;
              line_to = omega arith;
              range = omega arith;
              number = number;
              bytes = bytes;
              letter = letter;
            });
        rise = pairs_snoc no_token ts t Rises g.rise (λ i b. omega (arith, g.before i b));
        few_names = g.few_names;
        within = g.within;
        distinct = g.distinct;
      }

  -- a name that is new
  going_named : (p : Part) → length ns < 1024 → 1 ≤ p.len → p.len ≤ 64 → p.place + p.len ≤ length s
      → Each no_part (λ q. Differ s q p) ns → Going s first ts (ns ++ (p ∷ [])) at line
  going_named p room one short fits new =
      record {
        at_in = g.at_in;
        line_first = g.line_first;
        line_place = g.line_place;
        inner = g.inner;
        before = λ i h. before-named (g.before i h) p;
        rise = g.rise;
        few_names = omega (arith, length-append ns (p ∷ []));
        within = each_snoc no_part ns p (InText s) g.within (one, short, fits);
        distinct = pairs_snoc no_part ns p (Differ s) g.distinct new;
      }

  -- a name that carries the number of a name spelled like it
  going_name : (n : Name) (c : Cursor) (k : ℕ) → NamePast (length s) at line n c → k < length ns
      → spelling s (get_or ns k no_part) ≡ spelling_of s n
      → Going s first (ts ++ (named n (record { 0 = k }) ∷ [])) ns c.place c.line
  going_name n c k p h e =
      let t = named n (record { 0 = k }) in
      let kind = name-kind (name_kind n.kind) k p.kind_from p.kind_to in
      let number : carried t.value ≡ k = name-carried (name_kind n.kind) k p.kind_from p.kind_to in
      let q = get_or ns k no_part in
      let l : q.len ≡ n.len = same_length s q (part n.place n.len) (g.within k h).2 (omega arith) e in
      rw p.same_line
      (going_token t c.place p.on p.within p.name_place p.name_line (omega arith) (λ _. omega arith)
      (λ _. rw number (ap (λ (m : ℕ). spelling s (part n.place m)) l ∙ sym e))
      (λ h _. rw number (omega (arith, p.lettered (omega arith)))))

  -- a name that is new to the table
  going_new : (n : Name) (c : Cursor) → NamePast (length s) at line n c → n.len ≤ 64 → length ns < 1024
      → Each no_part (λ q. spelling s q ≡ spelling_of s n → ⊥) ns
      → Going s first ts (ns ++ (part n.place n.len ∷ [])) at line
  going_new n c p h room new = going_named (part n.place n.len) room (omega arith) h (omega arith) new

-- The turns. ----------------------------------------------------------------------------------------------------------

abbrev pub Good : List ℕ → ℕ → Outcome → Type 0
Good s first (Outcome.done ts ns) = Sound s first ts ns
Good s first (Outcome.refused r) = SoundRefusal s first r
Good s first Outcome.cut = ⊥

-- from any state that has turns enough to reach the end
abbrev AllGood : List ℕ → ℕ → ℕ → Type 0
AllGood s first turns =
    (ts : List Token) (ns : List Part) (at line : ℕ) → length s < turns + at → Going s first ts ns at line
    → Good s first (numbered_from s ts ns (pieces_from turns s at line))

module _ (s : List ℕ) (first : ℕ) (short : length s ≤ 16384) (ascii : is_ascii s ≡ true) where
  room-good : (ts : List Token) (t : Token) (more : Outcome) → t.place ≤ length s → t.line.0 ≤ first + t.place
      → (length ts < 4096 → Good s first more) → Good s first (then_room ts t more)
  unfolding then_room
  room-good ts t more h l f =
      pick_either (Good s first) (ltb (length ts) 4096) more _ (λ e. f (ltb-true _ _ e)) (λ _. omega arith)

  -- the end token behind all others
  end_sound : (ts : List Token) (ns : List Part) (at line : ℕ) (c : Cursor) → Going s first ts ns at line
      → EndPast (length s) at line c → length ts < 4096
      → Sound s first (ts ++ (token T.EndOfFile c.line c.place ∷ [])) ns
  end_sound ts ns at line c g p room =
      let t = token T.EndOfFile c.line c.place in
      let e : c.place ≡ length s = omega arith in
      let l = length-append ts (t ∷ []) in
      record {
        short = short;
        ascii = ascii;
        front = ts;
        last_line = c.line;
        ends = rw e;
        inner = g.inner;
        some = omega arith;
        few = omega arith;
        few_names = g.few_names;
        numbered = each_snoc no_token ts t (HasNumber ns) (λ i h. (g.before i h).number) (λ k. absurd (omega arith));
        spelled = each_snoc no_token ts t (HasSpelling s ns) (λ i h. (g.before i h).bytes) (λ k. absurd (omega arith));
        lettered = each_snoc no_token ts t (HasLetter ns) (λ i h. (g.before i h).letter) (λ _ k. absurd (omega arith));
        ranges = each_snoc no_token ts t (InRange s first) (λ i h. (g.before i h).range) (omega arith);
        rise = pairs_snoc no_token ts t Rises g.rise (λ i h. omega (arith, g.before i h));
        within = g.within;
        distinct = g.distinct;
      }

  -- one turn, where the turns after it are good
  module _ (turns : ℕ) (later : AllGood s first turns) (ts : List Token) (ns : List Part) (at line : ℕ)
      (enough : length s < suc turns + at) (g : Going s first ts ns at line) where
    name-good : (n : Name) (c : Cursor) → NamePast (length s) at line n c → (i : Result Identified Refusal)
        → Fits s ns n i
        → Good s first (then_identified ns n i (λ i ns'. then_room ts (named n i)
        (numbered_from s (ts ++ (named n i ∷ [])) ns' (pieces_from turns s c.place c.line))))
    unfolding then_identified
    name-good n c p (Ok (I.Known i)) f =
        room-good ts (named n i) _ (omega arith) (omega arith)
        (λ _. later (ts ++ (named n i ∷ [])) ns c.place c.line (omega arith)
        (going_name g n c i.0 p f.1 f.2))
    name-good n c p (Ok (I.New i)) f =
        let new = part n.place n.len in
        let known = ns ++ (new ∷ []) in
        room-good ts (named n i) _ (omega arith) (omega arith)
        (λ _. later (ts ++ (named n i ∷ [])) known c.place c.line (omega arith)
        (going_name (going_new g n c p f.0 f.2 f.3) n c i.0 p (omega (arith, length-append ns (new ∷ [])))
        (ap (spelling s) (get_or_at ns new [] no_part i.0 (sym f.1)))))
    name-good n c p (Err r) f = omega arith

    turn_good : (l : Result Lexed Refusal) → Past (length s) at line l
        → Good s first (numbered_from s ts ns (on_piece (λ c. pieces_from turns s c.place c.line) l))
    unfolding numbered_from on_piece
    turn_good (Ok (L.Skipped c)) p = later ts ns c.place c.line (omega arith) (going_skipped g c p)
    turn_good (Ok (L.Name n c)) p = name-good n c p (identified s ns n) (identified-fits s ns n)
    turn_good (Ok (L.Token t c)) p =
        room-good ts t _ (omega arith) (omega arith)
        (λ _. later (ts ++ (t ∷ [])) ns c.place c.line (omega arith)
        (rw p.same_line
        (going_token g t c.place p.on p.within p.token_place p.token_line p.kind_to
        (λ k. absurd (omega arith)) (λ k. absurd (omega arith)) (λ _ k. absurd (omega arith)))))
    turn_good (Ok (L.End c)) p =
        room-good ts _ _ (omega arith) (omega arith) (end_sound ts ns at line c g p)
    turn_good (Err r) p = omega arith

  turns_good : (turns : ℕ) → AllGood s first turns
  unfolding pieces_from
  turns_good zero = λ ts ns at line h g. absurd (omega arith)
  turns_good (suc turns) =
      λ ts ns at line h g.
      turn_good turns (turns_good turns) ts ns at line h g (piece_at s at line) (piece_past s at line g.at_in)

  numbered-good : Good s first (numbered s first)
  unfolding numbered
  numbered-good =
      turns_good (suc (length s)) [] [] 0 first (omega arith)
      (record {
        at_in = omega arith;
        line_first = omega arith;
        line_place = omega arith;
        inner = λ i h. absurd (omega arith);
        before = λ i h. absurd (omega arith);
        rise = λ i j h k. absurd (omega arith);
        few_names = omega arith;
        within = λ i h. absurd (omega arith);
        distinct = λ i j h k. absurd (omega arith);
      })

pub lexed-good : (line : ℕ) (s : List ℕ) → Good s line (lexed_from line s)
unfolding lexed_from
lexed-good line s =
    pick_either (Good s line) (ltb 16384 (length s)) _ _ (λ _. omega arith) (λ e.
    pick_either (Good s line) (is_ascii s) _ _ (λ a. numbered-good s line (ltb-false _ _ e) a) (λ _. omega arith))

pub read_sound : (line : ℕ) (s : List ℕ) (ts : List Token) (ns : List Part)
    → lexed_from line s ≡ Outcome.done ts ns → Sound s line ts ns
read_sound line s ts ns e = rw e at (lexed-good line s)

pub refused_sound : (line : ℕ) (s : List ℕ) (r : Refusal) → lexed_from line s ≡ Outcome.refused r
    → SoundRefusal s line r
refused_sound line s r e = rw e at (lexed-good line s)

pub never_cut : (line : ℕ) (s : List ℕ) → lexed_from line s ≡ Outcome.cut → ⊥
never_cut line s e = rw e at (lexed-good line s)

-- The end token by its index, and those before it. ------------------------------------------------------------------

module _ {s : List ℕ} {line : ℕ} {ts : List Token} {ns : List Part} (v : Sound s line ts ns) where
  length_front : length ts ≡ length v.front + 1
  length_front = ap length v.ends ∙ length-append v.front _

  pub end-last : get_or ts (length ts - 1) no_token ≡ token T.EndOfFile v.last_line (length s)
  end-last =
      let e : length v.front ≡ length ts - 1 = omega (arith, length_front) in
      ap (λ (l : List Token). get_or l (length ts - 1) no_token) v.ends
      ∙ get_or_at v.front _ [] no_token (length ts - 1) e

  pub end-only-last : (i : ℕ) → i + 1 < length ts → kind_of (get_or ts i no_token).value < 38
  end-only-last i h =
      let k : i < length v.front = omega (arith, length_front) in
      let e : get_or ts i no_token ≡ get_or v.front i no_token =
      ap (λ (l : List Token). get_or l i no_token) v.ends ∙ get_or-append v.front _ no_token i k in
      rw e (v.inner i k)
