-- Limits: a text whose pieces come to its end, with short names, is accepted unless it has too many bytes, tokens or
-- names. So the edited text is.
use Rattle.std.specs.Prelude.{Option, Some, None, Result, Ok, Err}
use Prim.Native.Nat.{ℕ, suc, ◌+◌, ◌≤◌}
use mathlib.Core.Path.{◌≡◌, refl, ap, ◌∙◌}
use mathlib.Core.Logic.{inl, inr, ⊎_elim}
use mathlib.Core.Bool.{Bool, true, false}
use mathlib.Core.List.{List, [], ◌∷◌, ◌++◌}
use native.Mathlib.Omega.{arith}
use borrow.Author.Tests.{le-ltb}
use lib.Dec.{ltb}
use lib.ListN.{length}
use Rattle.utils.specs.Bytes.{pick}
use Rattle.pieces.specs.Classes.{is_ascii}
use Rattle.pieces.specs.Refusals.{facts_of}
use Rattle.pieces.specs.Pieces.{Pieces, cursor, pieces}
use Rattle.pieces.specs.declared.Cursor.{Cursor}
use Rattle.pieces.specs.declared.Token.{Token}
use Rattle.pieces.specs.declared.Name.{Name}
use Rattle.lexer.specs.Numbered.{Part, part, spellings, spelling_of, index_of, on_found, identified, named, Outcome}
use Rattle.lexer.specs.Numbered.{then_identified, then_room, numbered_from, numbered}
use Rattle.lexer.specs.Read.{lexed_from, reading_of}
use Rattle.lexer.specs.declared.Identified.{Identified}
use Rattle.lexer.specs.declared.Identified.TheVariants as I
use Rattle.pieces.proofs.Progress.{pick_either}
use Rattle.joined.specs.Runs.{Item, before, move_items, Run}
use Rattle.joined.specs.Names.{Both, Stands}
use Rattle.joined.specs.Limits.{AllShort, Counted, Limited}
use Rattle.joined.specs.Edits.{Edit}
use Rattle.joined.proofs.Runs.{pieces-of-run}
use Rattle.joined.proofs.Parts.{run-first, pieces-at-end}
use Rattle.joined.proofs.Edits.{Known, known, tail, edited_items, old_items}
use Rattle.pieces.specs.declared.Refusal.{Refusal}
use Rattle.pieces.specs.declared.Identifier.{Identifier}

-- Short names. -----------------------------------------------------------------------------------------------------

pub stands_short : (s : List ℕ) (W : List (List ℕ)) {is : List Item} {T : List Token} → Both (Stands s W) is T
    → AllShort is
stands_short s W Both.none = tt
stands_short s W (Both.more {x = Item.spelled n} p q) = (p.3, stands_short s W q)
stands_short s W (Both.more {x = Item.plain t} p q) = (tt, stands_short s W q)

short-join : (is js : List Item) → AllShort is → AllShort js → AllShort (is ++ js)
short-join [] js h g = g
short-join (i ∷ is) js h g = (h.0, short-join is js h.1 g)

pub short-front : (is js : List Item) → AllShort (is ++ js) → AllShort is
short-front [] js h = tt
short-front (i ∷ is) js h = (h.0, short-front is js h.1)

pub short_back : (is js : List Item) → AllShort (is ++ js) → AllShort js
short_back [] js h = h
short_back (i ∷ is) js h = short_back is js h.1

short-moved : (on down : ℕ) (is : List Item) → AllShort is → AllShort (move_items on down is)
unfolding move_items
short-moved on down [] h = tt
short-moved on down (Item.spelled n ∷ is) h = (h.0, short-moved on down is h.1)
short-moved on down (Item.plain t ∷ is) h = (tt, short-moved on down is h.1)

pub short_unmoved : (on down : ℕ) (is : List Item) → AllShort (move_items on down is) → AllShort is
unfolding move_items
short_unmoved on down [] h = tt
short_unmoved on down (Item.spelled n ∷ is) h = (h.0, short_unmoved on down is h.1)
short_unmoved on down (Item.plain t ∷ is) h = (tt, short_unmoved on down is h.1)

-- Numbering. -------------------------------------------------------------------------------------------------------

abbrev Numbered : Result Identified Refusal → Type 0
Numbered (Ok (I.Known i)) = Unit
Numbered (Ok (I.New i)) = Unit
Numbered (Err r) = (facts_of r).number ≡ 33

identified-short : (s : List ℕ) (ns : List Part) (n : Name) → n.len ≤ 64 → Numbered (identified s ns n)
unfolding identified pick
identified-short s ns n h = rw (le-ltb 64 n.len h) (found (index_of (spelling_of s n) (spellings s ns) 0))
  where
    found : (f : Option Identifier) → Numbered (on_found (length ns) n f)
    found (Some i) = tt
    found None = pick_either Numbered (ltb (length ns) 1024) _ _ (λ _. tt) (λ _. refl)

room-counted : (ts : List Token) (t : Token) (more : Outcome) → Counted more → Counted (then_room ts t more)
unfolding then_room
room-counted ts t more h = pick_either Counted (ltb (length ts) 4096) more _ (λ _. h) (λ _. inl refl)

pub numbered-counted : (s : List ℕ) (ts : List Token) (ns : List Part) (is : List Item) (c : Cursor) → AllShort is
    → Counted (numbered_from s ts ns (before is (Pieces.end c)))
unfolding numbered_from before then_identified
numbered-counted s ts ns [] c h = room-counted ts _ _ tt
numbered-counted s ts ns (Item.plain t ∷ is) c h = room-counted ts t _
    (numbered-counted s (ts ++ (t ∷ [])) ns is c h.1)
numbered-counted s ts ns (Item.spelled n ∷ is) c h =
    on (λ us ms. numbered-counted s us ms is c h.1) (identified s ns n) (identified-short s ns n h.0)
  where
    on : ((us : List Token) (ms : List Part) → Counted (numbered_from s us ms (before is (Pieces.end c))))
        → (i : Result Identified Refusal) → Numbered i
        → Counted (then_identified ns n i (λ i ms. then_room ts (named n i)
        (numbered_from s (ts ++ (named n i ∷ [])) ms (before is (Pieces.end c)))))
    on later (Ok (I.Known i)) f = room-counted ts (named n i) _ (later (ts ++ (named n i ∷ [])) ns)
    on later (Ok (I.New i)) f =
        room-counted ts (named n i) _ (later (ts ++ (named n i ∷ [])) (ns ++ (part n.place n.len ∷ [])))
    on later (Err r) f = inr f

-- Bytes. -----------------------------------------------------------------------------------------------------------

pub ascii-join : (a b : List ℕ) → is_ascii a ≡ true → is_ascii b ≡ true → is_ascii (a ++ b) ≡ true
unfolding is_ascii pick
ascii-join [] b h g = g
ascii-join (x ∷ a) b h g =
    pick_either (λ (t : Bool). t ≡ true → pick (ltb 127 x) false (is_ascii (a ++ b)) ≡ true) (ltb 127 x) false
    (is_ascii a)
    (λ _ e. absurd (let z : ◌≡◌ {A = ℕ} 0 1 = cc in omega arith))
    (λ e q. rw e (ascii-join a b q g)) h

pub ascii_parts : (a b : List ℕ) → is_ascii (a ++ b) ≡ true → (is_ascii a ≡ true) × (is_ascii b ≡ true)
unfolding is_ascii pick
ascii_parts [] b h = (refl, h)
ascii_parts (x ∷ a) b h =
    pick_either (λ (t : Bool). t ≡ true → (pick (ltb 127 x) false (is_ascii a) ≡ true) × (is_ascii b ≡ true))
    (ltb 127 x) false
    (is_ascii (a ++ b)) (λ _ e. absurd (let z : ◌≡◌ {A = ℕ} 0 1 = cc in omega arith))
    (λ e q. rw e (ascii_parts a b q)) h

-- A text that is read to its end. ----------------------------------------------------------------------------------

pub run_limited : (s : List ℕ) (line last : ℕ) (is : List Item) → Run s 0 line is (length s) last → AllShort is
    → is_ascii s ≡ true → Limited (lexed_from line s)
unfolding lexed_from numbered pick
run_limited s line last is r h a =
    pick_either Limited (ltb 16384 (length s)) _ _ (λ _. inl refl)
    (λ _. rw (a, e) (more (numbered_from s [] [] (before is (Pieces.end (cursor (length s) last))))
    (numbered-counted s [] [] is (cursor (length s) last) h)))
  where
    e : pieces s line ≡ before is (Pieces.end (cursor (length s) last))
    e =
        pieces-of-run (suc (length s)) (suc (length s)) r (omega arith) (omega arith) (omega arith)
        ∙ ap (before is) (pieces-at-end (length s) s last)

    more : (o : Outcome) → Counted o → Limited o
    more (Outcome.done ts ns) h = tt
    more (Outcome.refused r) h = inr h
    more Outcome.cut h = h

-- THE EDITED TEXT is accepted, or has too many bytes, tokens or names.
pub edited_limited : {pre f post new : List ℕ} {line first : ℕ} → Edit pre f post new line first
    → Limited (lexed_from line (pre ++ (new ++ post)))
edited_limited {pre} {f} {post} {new} {line} {first} e = from (known e)
  where
    from : Known pre f post new line first e → Limited (lexed_from line (pre ++ (new ++ post)))
    from k =
        let old : AllShort k.old.items = stands_short _ _ k.old.stand in
        let front = run-first k.old k.old_front in
        let a : AllShort k.front = short-front k.front front.later (rw front.whole at old) in
        let n : AllShort k.alone_new.items = stands_short _ _ k.alone_new.stand in
        let c : AllShort (tail k).items =
        short_unmoved (length (pre ++ f)) k.behind (tail k).items
        (short_back k.through _ (rw (old_items k) at old)) in
        let b = ascii_parts pre (f ++ post) k.old.sound.ascii in
        let d = ascii_parts f post b.1 in
        run_limited (pre ++ (new ++ post)) line _ _ (edited_items k)
        (short-join k.front _ a (short-join (move_items (length pre) 0 k.alone_new.items) _
        (short-moved (length pre) 0 k.alone_new.items n)
        (short-moved (length pre + length new) (0 + k.braced_new.here) (tail k).items c)))
        (ascii-join pre (new ++ post) b.0 (ascii-join new post k.alone_new.sound.ascii d.1))

-- its tokens and names, where it has not
pub edited_lexes : {pre f post new : List ℕ} {line first : ℕ} → Edit pre f post new line first
    → ((reading_of (lexed_from line (pre ++ (new ++ post)))).answer.number ≡ 31 → ⊥)
    → ((reading_of (lexed_from line (pre ++ (new ++ post)))).answer.number ≡ 32 → ⊥)
    → ((reading_of (lexed_from line (pre ++ (new ++ post)))).answer.number ≡ 33 → ⊥)
    → (ts : List Token) × (ns : List Part) × (lexed_from line (pre ++ (new ++ post)) ≡ Outcome.done ts ns)
edited_lexes {pre} {f} {post} {new} {line} e = from (lexed_from line (pre ++ (new ++ post))) refl (edited_limited e)
  where
    from : (o : Outcome) → lexed_from line (pre ++ (new ++ post)) ≡ o → Limited o
        → ((reading_of o).answer.number ≡ 31 → ⊥) → ((reading_of o).answer.number ≡ 32 → ⊥)
        → ((reading_of o).answer.number ≡ 33 → ⊥)
        → (ts : List Token) × (ns : List Part) × (lexed_from line (pre ++ (new ++ post)) ≡ Outcome.done ts ns)
    from (Outcome.done ts ns) q h a b c = (ts, ns, q)
    from (Outcome.refused r) q h a b c = absurd (⊎_elim (λ x. a x) (λ y. ⊎_elim (λ x. b x) (λ x. c x) y) h)
    from Outcome.cut q h a b c = absurd h
