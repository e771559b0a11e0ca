-- Every piece but the end takes a byte or more and stays in the text: what a turn of the reader's loop needs.
-- Each scan ends between its start and the text's end, and `piece_at` is cases over the scans.
use Rattle.std.specs.Prelude.{Option, Some, None, Result, Ok, Err}
use Prim.Native.Nat.{ℕ, zero, suc, ◌+◌, ◌-◌, ◌*◌, ◌≤◌, ◌<◌}
use mathlib.Core.Path.{◌≡◌, refl}
use mathlib.Core.Bool.{Bool, true, false}
use mathlib.Core.List.{List, [], ◌∷◌}
use native.Mathlib.Omega.{arith}
use borrow.Author.Tests.{leb-false, leb-true, eqb-true}
use lib.Dec.{leb, eqb}
use lib.ListN.{length, get_or, drop, length-drop}
use lib.Seq.{slice, drop-cons}
use Rattle.utils.specs.Bytes.{pick, same_bytes}
use Rattle.pieces.specs.Classes.{is_blank, is_digit, is_letter, is_name_part}
use Rattle.pieces.specs.Tokens.{kind_of, name_kind, Word, words, word_in, symbol}
use Rattle.pieces.specs.Refusals.{facts_of}
use Rattle.pieces.specs.Pieces.{cursor, token, line_end, closes, star_after, comment_end, digits_from, name_end}
use Rattle.pieces.specs.Pieces.{name_end_at}
use Rattle.pieces.specs.Pieces.{on_comment, slash_at, digit_at, minus_at, name_at, sigil_at, then_value, word_at}
use Rattle.pieces.specs.Pieces.{symbol_at, token_from, piece_at, Pieces, on_piece, pieces_from, pieces}
use Rattle.pieces.specs.declared.Cursor.{Cursor}
use Rattle.pieces.specs.declared.Name.{Name}
use Rattle.pieces.specs.declared.NameKind.{NameKind}
use Rattle.pieces.specs.declared.NameKind.TheVariants as N
use Rattle.pieces.specs.declared.Number.{Number}
use Rattle.pieces.specs.declared.Token.{Token}
use Rattle.pieces.specs.declared.Refusal.{Refusal}
use Rattle.pieces.specs.declared.Refusal.TheVariants as R
use Rattle.pieces.specs.declared.Lexed.{Lexed}
use Rattle.pieces.specs.declared.Lexed.TheVariants as L
use Rattle.pieces.specs.declared.TokenValue.{TokenValue}

-- A choice has a property that both of its sides have, each where the test picks it.
pub pick_either : {A : Type 0} (P : A → Type 0) (t : Bool) (a b : A)
    → (t ≡ true → P a) → (t ≡ false → P b) → P (pick t a b)
unfolding pick
pick_either P true a b f g = f refl
pick_either P false a b f g = g refl

-- Places in a text. -------------------------------------------------------------------------------------------------

pub in_text : (s : List ℕ) (n : ℕ) → (get_or s n 0 ≡ 0 → ⊥) → n < length s
in_text [] n h = absurd (h refl)
in_text (b ∷ s) zero h = omega arith
in_text (b ∷ s) (suc n) h = omega (arith, in_text s n h)

pub left-from : (s : List ℕ) (at : ℕ) → at ≤ length s → at + length (drop at s) ≡ length s
left-from s at h = simp length-drop (omega arith)

-- The scans. --------------------------------------------------------------------------------------------------------

pub line_end-from : (r : List ℕ) (at : ℕ) → at ≤ line_end r at
unfolding line_end
line_end-from [] at = omega arith
line_end-from (b ∷ r) at =
    pick_either (λ (e : ℕ). at ≤ e) (eqb b 10) _ _ (λ t. omega arith) (λ t. omega (arith, line_end-from r (at + 1)))

pub line_end-to : (r : List ℕ) (at : ℕ) → line_end r at ≤ at + length r
unfolding line_end
line_end-to [] at = omega arith
line_end-to (b ∷ r) at =
    pick_either (λ (e : ℕ). e ≤ at + suc (length r)) (eqb b 10) _ _
    (λ t. omega arith) (λ t. omega (arith, line_end-to r (at + 1)))

-- where a comment's closing lies
abbrev pub ClosedIn : ℕ → ℕ → Option ℕ → Type 0
ClosedIn from to (Some end) = (from < end) × (end ≤ to)
ClosedIn from to None = Unit

closed_in_later : (from from' to to' : ℕ) (c : Option ℕ)
    → from ≤ from' → to' ≤ to → ClosedIn from' to' c → ClosedIn from to c
closed_in_later from from' to to' (Some end) h k p = omega arith
closed_in_later from from' to to' None h k p = tt

pub comment_end_in : (star : Bool) (r : List ℕ) (at : ℕ) → ClosedIn at (at + length r) (comment_end star r at)
unfolding comment_end
comment_end_in star [] at = tt
comment_end_in star (b ∷ r) at =
    let more = comment_end (star_after star b) r (at + 1) in
    pick_either (ClosedIn at (at + suc (length r))) (closes star b) _ more (λ t. omega arith)
    (λ t. closed_in_later at (at + 1) (at + suc (length r)) (at + 1 + length r) more (omega arith) (omega arith)
    (comment_end_in (star_after star b) r (at + 1)))

pub digits-end-from : (r : List ℕ) (at v : ℕ) → at ≤ (digits_from r at v).end
unfolding digits_from
digits-end-from [] at v = omega arith
digits-end-from (b ∷ r) at v =
    pick_either (λ (n : Number). at ≤ n.end) (is_digit b) _ _
    (λ t. omega (arith, digits-end-from r (at + 1) (v * 10 + (b - 48)))) (λ t. omega arith)

pub digits-end-to : (r : List ℕ) (at v : ℕ) → (digits_from r at v).end ≤ at + length r
unfolding digits_from
digits-end-to [] at v = omega arith
digits-end-to (b ∷ r) at v =
    pick_either (λ (n : Number). n.end ≤ at + suc (length r)) (is_digit b) _ _
    (λ t. omega (arith, digits-end-to r (at + 1) (v * 10 + (b - 48)))) (λ t. omega arith)

-- where a digit stands, a number takes it
pub digits-end-past : (s : List ℕ) (at v : ℕ)
    → at < length s → is_digit (get_or s at 0) ≡ true → at < (digits_from (drop at s) at v).end
unfolding digits_from pick
digits-end-past s at v h d =
    rw (drop-cons s at 0 h, d) (omega (
      arith,
      digits-end-from (drop (suc at) s) (at + 1) (v * 10 + (get_or s at 0 - 48)),
    ))

pub name_end-from : (r : List ℕ) (at : ℕ) → at ≤ name_end r at
unfolding name_end
name_end-from [] at = omega arith
name_end-from (b ∷ r) at =
    pick_either (λ (e : ℕ). at ≤ e) (is_name_part b) _ _ (λ t. omega (
      arith,
      name_end-from r (at + 1),
    )) (λ t. omega arith)

pub name_end-to : (r : List ℕ) (at : ℕ) → name_end r at ≤ at + length r
unfolding name_end
name_end-to [] at = omega arith
name_end-to (b ∷ r) at =
    pick_either (λ (e : ℕ). e ≤ at + suc (length r)) (is_name_part b) _ _
    (λ t. omega (arith, name_end-to r (at + 1))) (λ t. omega arith)

-- a letter goes on a name
letter_part : (b : ℕ) → is_letter b ≡ true → is_name_part b ≡ true
unfolding is_name_part pick
letter_part b e = rw e

-- 0 is none
letter_in : (s : List ℕ) (n : ℕ) → is_letter (get_or s n 0) ≡ true → n < length s
unfolding is_letter pick
letter_in s n e =
    in_text s n (λ z.
    let f : false ≡ true = rw z at e in
    let g : ◌≡◌ {A = ℕ} 0 1 = cc in
    omega arith)

-- where a letter stands behind a name's first byte, the name takes it
name_end-past : (s : List ℕ) (at : ℕ) → at + 1 < length s → is_name_part (get_or s (at + 1) 0) ≡ true → at + 2 ≤ name_end_at
    s at
unfolding name_end pick
name_end-past s at h d =
    rw (drop-cons s (at + 1) 0 h, d) (omega (arith, name_end-from (drop (suc (at + 1)) s) (at + 1 + 1)))

-- a name's kind is one of the first three
name_kind_in : (k : NameKind) → (1 ≤ name_kind k) × (name_kind k ≤ 3)
name_kind_in N.Local = omega arith
name_kind_in N.Global = omega arith
name_kind_in N.Label = omega arith

-- The words and the tokens of one byte have kinds from 4 to 37: none is a name or the end. --------------------------

abbrev pub Plain : Option TokenValue → Type 0
Plain (Some v) = (4 ≤ kind_of v) × (kind_of v < 38)
Plain None = Unit

abbrev AllWords : (ℕ → Type 0) → List Word → Type 0
AllWords P [] = Unit
AllWords P (w ∷ ws) = P (kind_of w.value) × AllWords P ws

words-from_four : AllWords (λ k. 4 ≤ k) words
unfolding words
words-from_four = omega arith

words-below-end : AllWords (λ k. k < 38) words
unfolding words
words-below-end = omega arith

word_in-plain : (ws : List Word) (s : List ℕ)
    → AllWords (λ k. 4 ≤ k) ws → AllWords (λ k. k < 38) ws → Plain (word_in ws s)
unfolding word_in
word_in-plain [] s h g = tt
word_in-plain (w ∷ ws) s h g =
    pick_either Plain (same_bytes w.spelling s) _ _ (λ t. (h.0, g.0)) (λ t. word_in-plain ws s h.1 g.1)

pub keyword-plain : (s : List ℕ) → Plain (word_in words s)
keyword-plain s = word_in-plain words s words-from_four words-below-end

pub symbol-plain : (b : ℕ) → Plain (symbol b)
unfolding symbol
symbol-plain b =
    pick_either Plain (eqb b 40) _ _ (λ t. omega arith) (λ t.
    pick_either Plain (eqb b 41) _ _ (λ t. omega arith) (λ t.
    pick_either Plain (eqb b 123) _ _ (λ t. omega arith) (λ t.
    pick_either Plain (eqb b 125) _ _ (λ t. omega arith) (λ t.
    pick_either Plain (eqb b 58) _ _ (λ t. omega arith) (λ t.
    pick_either Plain (eqb b 59) _ _ (λ t. omega arith) (λ t.
    pick_either Plain (eqb b 61) _ _ (λ t. omega arith) (λ t.
    pick_either Plain (eqb b 44) _ _ (λ t. omega arith) (λ t. tt))))))))

-- One piece. --------------------------------------------------------------------------------------------------------

-- The text's length n, the place and the line of a piece, and the cursor after it.
pub record SkippedPast (n at line : ℕ) (c : Cursor) : Type 0 where
  pub on : at < c.place
  pub within : c.place ≤ n
  -- a line for a byte at most
  pub line_from : line ≤ c.line
  pub line_to : c.line + at ≤ line + c.place

pub record NamePast (n at line : ℕ) (m : Name) (c : Cursor) : Type 0 where
  pub on : at < c.place
  pub within : c.place ≤ n
  pub same_line : c.line ≡ line
  -- the name begins here and ends at the cursor
  pub name_place : m.place ≡ at
  pub name_end_lem : m.place + m.len ≡ c.place
  pub name_line : m.line.0 ≡ line
  pub kind_from : 1 ≤ name_kind m.kind
  pub kind_to : name_kind m.kind ≤ 3
  -- a global or a label has a letter behind its sigil
  pub lettered : 2 ≤ name_kind m.kind → 2 ≤ m.len

pub record TokenPast (n at line : ℕ) (t : Token) (c : Cursor) : Type 0 where
  pub on : at < c.place
  pub within : c.place ≤ n
  pub same_line : c.line ≡ line
  pub token_place : t.place ≡ at
  pub token_line : t.line.0 ≡ line
  -- neither a name nor the end
  pub kind_from : 4 ≤ kind_of t.value
  pub kind_to : kind_of t.value < 38

pub record EndPast (n at line : ℕ) (c : Cursor) : Type 0 where
  pub same_place : c.place ≡ at
  pub same_line : c.line ≡ line
  pub at_end : n ≤ at

pub record RefusedPast (at line : ℕ) (r : Refusal) : Type 0 where
  pub place : (facts_of r).place ≡ at
  pub line_of : (facts_of r).line ≡ line

abbrev pub Past : ℕ → ℕ → ℕ → Result Lexed Refusal → Type 0
Past n at line (Ok (L.Skipped c)) = SkippedPast n at line c
Past n at line (Ok (L.Name m c)) = NamePast n at line m c
Past n at line (Ok (L.Token t c)) = TokenPast n at line t c
Past n at line (Ok (L.End c)) = EndPast n at line c
Past n at line (Err r) = RefusedPast at line r

module _ (s : List ℕ) (at line : ℕ) (h : at < length s) where
  -- a byte that is not 0 stands in the text
  second_in : (b : ℕ) → 0 < b → eqb (get_or s (at + 1) 0) b ≡ true → at + 2 ≤ length s
  second_in b p e =
      let q : get_or s (at + 1) 0 ≡ b = eqb-true _ _ e in
      omega (arith, in_text s (at + 1) (λ z. omega arith))

  slash_past : Past (length s) at line (slash_at s at line)
  unfolding slash_at
  slash_past =
      let r = drop (at + 2) s in
      let P = Past (length s) at line in
      let from = line_end-from r (at + 2) in
      let to = line_end-to r (at + 2) in
      pick_either P (eqb (get_or s (at + 1) 0) 47) _ _
      (λ e. omega (arith, left-from s (at + 2) (second_in 47 (omega arith) e)))
      (λ _. pick_either P (eqb (get_or s (at + 1) 0) 42) _ _
      (λ e. closed (comment_end false r (at + 2)) (second_in 42 (omega arith) e) (comment_end_in false r (at + 2)))
      (λ _. omega arith))
    where
      closed : (c : Option ℕ) → at + 2 ≤ length s → ClosedIn (at + 2) (at + 2 + length (drop (at + 2) s)) c
          → Past (length s) at line (on_comment at line c)
      closed (Some end) w p = omega (arith, left-from s (at + 2) w)
      closed None w p = omega arith

  digit_past : is_digit (get_or s at 0) ≡ true → Past (length s) at line (digit_at s at line)
  unfolding digit_at
  digit_past d =
      let from = digits-end-past s at 0 h d in
      let to = digits-end-to (drop at s) at 0 in
      let all = left-from s at (omega arith) in
      pick_either (Past (length s) at line) (leb (digits_from (drop at s) at 0).value 2147483647) _ _
      (λ _. omega arith) (λ _. omega arith)

  minus_past : Past (length s) at line (minus_at s at line)
  unfolding minus_at
  minus_past =
      let r = drop (at + 1) s in
      let from = digits-end-from r (at + 1) 0 in
      let to = digits-end-to r (at + 1) 0 in
      let all = left-from s (at + 1) (omega arith) in
      pick_either (Past (length s) at line) (is_digit (get_or s (at + 1) 0)) _ _
      (λ _. pick_either (Past (length s) at line) (leb (digits_from r (at + 1) 0).value 2147483648) _ _
      (λ _. omega arith) (λ _. omega arith))
      (λ _. omega arith)

  name-past : (kind : NameKind) → (2 ≤ name_kind kind → at + 2 ≤ name_end_at s at)
      → Past (length s) at line (name_at kind s at line)
  unfolding name_at
  name-past kind second =
      let r = drop (at + 1) s in
      let from = name_end-from r (at + 1) in
      let to = name_end-to r (at + 1) in
      let all = left-from s (at + 1) (omega arith) in
      record {
        on = omega arith;
        within = omega arith;
        same_line = refl;
        name_place = refl;
        name_end_lem = omega arith;
        name_line = refl;
        kind_from = (name_kind_in kind).0;
        kind_to = (name_kind_in kind).1;
        lettered = λ k. omega (arith, second k);
      }

  sigil_past : (kind : NameKind) → Past (length s) at line (sigil_at kind s at line)
  unfolding sigil_at
  sigil_past kind =
      pick_either (Past (length s) at line) (is_letter (get_or s (at + 1) 0)) _ _
      (λ e. name-past kind (λ _. name_end-past s at (letter_in s (at + 1) e) (letter_part (get_or s (at + 1) 0) e)))
      (λ _. omega arith)

  word-past : Past (length s) at line (word_at s at line)
  unfolding word_at then_value
  word-past = worded (word_in words (slice at end s)) (keyword-plain (slice at end s))
    where
      end : ℕ
      end = name_end (drop (at + 1) s) (at + 1)

      worded : (v : Option TokenValue) → Plain v
          → Past (length s) at line
          (then_value v (λ v. Ok (L.Token (token v line at) (cursor end line))) (name_at N.Local s at line))
      worded (Some v) p =
          let r = drop (at + 1) s in
          omega (arith, name_end-from r (at + 1), name_end-to r (at + 1), left-from s (at + 1) (omega arith))
      worded None p = name-past N.Local (λ k. absurd (omega arith))

  symbol-past : Past (length s) at line (symbol_at s at line)
  unfolding symbol_at then_value
  symbol-past = found (symbol (get_or s at 0)) (symbol-plain (get_or s at 0))
    where
      found : (v : Option TokenValue) → Plain v
          → Past (length s) at line
          (then_value v (λ v. Ok (L.Token (token v line at) (cursor (at + 1) line)))
          (Err (R.UnexpectedByte (get_or s at 0) (cursor at line))))
      found (Some v) p = omega arith
      found None p = omega arith

  token-past : Past (length s) at line (token_from s at line)
  unfolding token_from
  token-past =
      let b = get_or s at 0 in
      let P = Past (length s) at line in
      pick_either P (eqb b 45) _ _ (λ _. minus_past) (λ _.
      pick_either P (eqb b 64) _ _ (λ _. sigil_past N.Global) (λ _.
      pick_either P (eqb b 46) _ _ (λ _. sigil_past N.Label) (λ _.
      pick_either P (is_digit b) _ _ (λ d. digit_past d) (λ _.
      pick_either P (is_letter b) _ _ (λ _. word-past) (λ _. symbol-past)))))

pub piece_past : (s : List ℕ) (at line : ℕ) → at ≤ length s → Past (length s) at line (piece_at s at line)
unfolding piece_at
piece_past s at line h =
    let b = get_or s at 0 in
    let P = Past (length s) at line in
    pick_either P (leb (length s) at) _ _ (λ e. omega (arith, leb-true (length s) at e)) (λ e.
    let g : at < length s = leb-false (length s) at e in
    let r = drop (at + 1) s in
    pick_either P (eqb b 10) _ _ (λ _. omega arith) (λ _.
    pick_either P (is_blank b) _ _ (λ _. omega arith) (λ _.
    pick_either P (eqb b 35) _ _
    (λ _. omega (arith, line_end-from r (at + 1), line_end-to r (at + 1), left-from s (at + 1) (omega arith))) (λ _.
    pick_either P (eqb b 47) _ _ (λ _. slash_past s at line g) (λ _. token-past s at line g)))))

-- All pieces: they come to an end or to a refusal. --------------------------------------------------------------------

abbrev pub Ended : Pieces → Type 0
Ended (Pieces.spelled n rest) = Ended rest
Ended (Pieces.plain t rest) = Ended rest
Ended (Pieces.end c) = Unit
Ended (Pieces.refused r) = Unit
Ended Pieces.cut = ⊥

pub pieces_from-end : (turns : ℕ) (s : List ℕ) (at line : ℕ) → at ≤ length s → length s < turns + at
    → Ended (pieces_from turns s at line)
unfolding pieces_from on_piece
pieces_from-end zero s at line h g = absurd (omega arith)
pieces_from-end (suc turns) s at line h g =
    on (λ at' line' h' g'. pieces_from-end turns s at' line' h' g') (piece_at s at line) (piece_past s at line h)
  where
    on : ((at' line' : ℕ) → at' ≤ length s → length s < turns + at' → Ended (pieces_from turns s at' line'))
        → (l : Result Lexed Refusal) → Past (length s) at line l
        → Ended (on_piece (λ c. pieces_from turns s c.place c.line) l)
    on later (Ok (L.Skipped c)) p = later c.place c.line (omega arith) (omega arith)
    on later (Ok (L.Name n c)) p = later c.place c.line (omega arith) (omega arith)
    on later (Ok (L.Token t c)) p = later c.place c.line (omega arith) (omega arith)
    on later (Ok (L.End c)) p = tt
    on later (Err r) p = tt

pub pieces_end : (s : List ℕ) (line : ℕ) → Ended (pieces s line)
pieces_end s line = pieces_from-end (suc (length s)) s 0 line (omega arith) (omega arith)
