-- Names: a table's names are distinct, and a renaming by spelling keeps them apart.
use Rattle.std.specs.Prelude.{Option, Some, None}
use Prim.Native.Nat.{ℕ, zero, suc, ◌+◌, ◌≤◌, ◌<◌}
use mathlib.Core.Path.{◌≡◌, refl, sym, ap, ◌∙◌}
use mathlib.Core.Bool.{Bool, true, false}
use mathlib.Core.List.{List, [], ◌∷◌, ◌++◌, append-nil, append_assoc}
use native.Mathlib.Omega.{arith}
use borrow.Author.Tests.{ltb-true, ltb-false}
use lib.Dec.{ltb}
use lib.ListN.{length, get_or, length-append, get_or-append}
use Rattle.pieces.specs.declared.Token.{Token}
use Rattle.lexer.specs.Numbered.{Part, spellings, index_of, spelling_of, named}
use Rattle.lexer.specs.Sound.{Pairs, Differ, no_part, spelling}
use Rattle.lexer.proofs.Same.{length-spellings, spelling-at, FoundIn, index_of-found}
use lib.Seq.{slice, get_or_at, take-append-le}
use Rattle.joined.specs.Runs.{Item, move_items}
use Rattle.joined.specs.Names.{Both, Stands, Distinct, found_or, renamed, words_of, with_word, entered, In, AllIn}
use Rattle.joined.specs.Names.{AllInside}
use Rattle.pieces.specs.declared.Identifier.{Identifier}

pub names-distinct : (s : List ℕ) (ns : List Part) → Pairs no_part (Differ s) ns → Distinct (spellings s ns)
names-distinct s ns d i j h k e = by (ltb i j) refl (ltb j i) refl
  where
    same : (a b : ℕ) → a < length ns → b < length ns → get_or (spellings s ns) a [] ≡ get_or (spellings s ns) b []
        → spelling s (get_or ns a no_part) ≡ spelling s (get_or ns b no_part)
    same a b h k e = sym (spelling-at s ns a h) ∙ e ∙ spelling-at s ns b k

    by : (t : Bool) → ltb i j ≡ t → (u : Bool) → ltb j i ≡ u → i ≡ j
    by true p u q =
        let l = length-spellings s ns in
        absurd (d i j (ltb-true _ _ p) (omega arith) (same i j (omega arith) (omega arith) e))
    by false p true q =
        let l = length-spellings s ns in
        absurd (d j i (ltb-true _ _ q) (omega arith) (same j i (omega arith) (omega arith) (sym e)))
    by false p false q = omega (arith, ltb-false i j p, ltb-false j i q)

module _ (ws ws' : List (List ℕ)) where
  -- a name that is there has the number that it is found at
  pub renamed-is : Distinct ws → (x k : ℕ) → k < length ws → get_or ws k [] ≡ get_or ws' x [] → renamed ws ws' x ≡ k
  renamed-is d x k h e = by (index_of (get_or ws' x []) ws 0) (index_of-found (get_or ws' x []) ws 0)
    where
      by : (f : Option Identifier) → FoundIn (get_or ws' x []) ws 0 f → found_or (length ws + x) f ≡ k
      by (Some i) p =
          let q : p.0 ≡ k = d p.0 k p.2 h (p.3 ∙ sym e) in
          omega (arith, p.1)
      by None p = absurd (p k h e)

  -- and is spelled there as here
  pub renamed-spelled : (x : ℕ) → In ws (get_or ws' x [])
      → (renamed ws ws' x < length ws) × (get_or ws (renamed ws ws' x) [] ≡ get_or ws' x [])
  renamed-spelled x h = by (index_of (get_or ws' x []) ws 0) (index_of-found (get_or ws' x []) ws 0)
    where
      by : (f : Option Identifier) → FoundIn (get_or ws' x []) ws 0 f
          → (found_or (length ws + x) f < length ws) × (get_or ws (found_or (length ws + x) f) [] ≡ get_or ws' x [])
      by (Some i) p =
          let e : i.0 ≡ p.0 = omega (arith, p.1) in
          (omega (arith, p.1, p.2), ap (λ (n : ℕ). get_or ws n []) e ∙ p.3)
      by None p = absurd (p h.0 h.1 h.2)

  -- no two names get one number
  pub renamed-apart : Distinct ws' → (x y : ℕ) → x < length ws' → y < length ws' → renamed ws ws' x ≡ renamed ws ws' y
      → x ≡ y
  renamed-apart d x y h k e =
      by (index_of (get_or ws' x []) ws 0) (index_of-found (get_or ws' x []) ws 0)
      (index_of (get_or ws' y []) ws 0) (index_of-found (get_or ws' y []) ws 0) e
    where
      by : (f : Option Identifier) → FoundIn (get_or ws' x []) ws 0 f → (g : Option Identifier)
          → FoundIn (get_or ws' y []) ws 0 g
          → found_or (length ws + x) f ≡ found_or (length ws + y) g → x ≡ y
      by (Some i) p (Some j) q e =
          let z : p.0 ≡ q.0 = omega (arith, p.1, q.1) in
          d x y h k (sym p.3 ∙ ap (λ (n : ℕ). get_or ws n []) z ∙ q.3)
      by (Some i) p None q e = absurd (omega (arith, p.1, p.2))
      by None p (Some j) q e = absurd (omega (arith, q.1, q.2))
      by None p None q e = omega arith

-- Lists element by element: how long they are, and in two parts.
pub both-length : {A B : Type 0} {R : A → B → Type 0} {xs : List A} {ys : List B} → Both R xs ys → length xs ≡ length ys
both-length Both.none = refl
both-length (Both.more r q) = ap suc (both-length q)

pub record Parted {A B : Type 0} (R : A → B → Type 0) (xs xs' : List A) (zs : List B) : Type 0 where
  pub front : List B
  pub back : List B
  pub whole : zs ≡ front ++ back
  pub in_front : Both R xs front
  pub in_back : Both R xs' back

pub both_parted : {A B : Type 0} {R : A → B → Type 0} (xs xs' : List A) {zs : List B} → Both R (xs ++ xs') zs
    → Parted R xs xs' zs
both_parted [] xs' {zs} q = record { front = []; back = zs; whole = refl; in_front = Both.none; in_back = q }
both_parted {B = B} (x ∷ xs) xs' (Both.more {y = y} r q) =
    let z = both_parted xs xs' q in
    record {
      front = y ∷ z.front;
      back = z.back;
      whole = ap (λ (l : List B). y ∷ l) z.whole;
      in_front = Both.more r z.in_front;
      in_back = z.in_back;
    }

-- Words entered into a table. --------------------------------------------------------------------------------------

pub entered_append : (ws a b : List (List ℕ)) → entered ws (a ++ b) ≡ entered (entered ws a) b
unfolding entered
entered_append ws [] b = refl
entered_append ws (w ∷ a) b = entered_append (with_word ws w (index_of w ws 0)) a b

pub words_append : (s : List ℕ) (is js : List Item) → words_of s (is ++ js) ≡ words_of s is ++ words_of s js
unfolding words_of
words_append s [] js = refl
words_append s (Item.spelled n ∷ is) js = ap (λ (l : List (List ℕ)). spelling_of s n ∷ l) (words_append s is js)
words_append s (Item.plain t ∷ is) js = words_append s is js

-- The words of a part are the same behind other text and in front of it.
pub words-moved : (s s' : List ℕ) (on down : ℕ)
    → ((a b : ℕ) → b ≤ length s' → slice (on + a) (on + b) s ≡ slice a b s')
    → (is : List Item) → AllInside (length s') is → words_of s (move_items on down is) ≡ words_of s' is
unfolding words_of move_items
words-moved s s' on down spelled [] h = refl
words-moved s s' on down spelled (Item.spelled n ∷ is) h =
    let e : on + n.place + n.len ≡ on + (n.place + n.len) = omega arith in
    rw (e, spelled n.place (n.place + n.len) h.0.0, words-moved s s' on down spelled is h.1)
words-moved s s' on down spelled (Item.plain t ∷ is) h = words-moved s s' on down spelled is h.1

pub words-front : (p q : List ℕ) (is : List Item) → AllInside (length p) is → words_of (p ++ q) is ≡ words_of p is
unfolding words_of
words-front p q [] h = refl
words-front p q (Item.spelled n ∷ is) h =
    rw (take-append-le (n.place + n.len) p q h.0.0, words-front p q is h.1)
words-front p q (Item.plain t ∷ is) h = words-front p q is h.1

-- a table only grows
pub record Grown (ws us : List (List ℕ)) : Type 0 where
  pub new : List (List ℕ)
  pub whole : us ≡ ws ++ new

grown_with : (ws : List (List ℕ)) (w : List ℕ) (f : Option Identifier) → Grown ws (with_word ws w f)
grown_with ws w (Some i) = record { new = []; whole = sym (append-nil ws) }
grown_with ws w None = record { new = w ∷ []; whole = refl }

grown_twice : {ws us vs : List (List ℕ)} → Grown ws us → Grown us vs → Grown ws vs
grown_twice {ws} g h =
    record { new = g.new ++ h.new; whole = h.whole ∙ rw g.whole (append_assoc ws g.new h.new) }

pub entered-grown : (ws a : List (List ℕ)) → Grown ws (entered ws a)
unfolding entered
entered-grown ws [] = record { new = []; whole = sym (append-nil ws) }
entered-grown ws (w ∷ a) =
    grown_twice (grown_with ws w (index_of w ws 0)) (entered-grown (with_word ws w (index_of w ws 0)) a)

pub in_grown : {ws us : List (List ℕ)} (w : List ℕ) → Grown ws us → In ws w → In us w
in_grown {ws} {us} w g h = (
  h.0,
  omega (arith, h.1, ap length g.whole, length-append ws g.new),
  ap (λ (l : List (List ℕ)). get_or l h.0 []) g.whole ∙ get_or-append ws g.new [] h.0 h.1 ∙ h.2,
)

in_with : (ws : List (List ℕ)) (w : List ℕ) → In (with_word ws w (index_of w ws 0)) w
in_with ws w = by (index_of w ws 0) (index_of-found w ws 0)
  where
    by : (f : Option Identifier) → FoundIn w ws 0 f → In (with_word ws w f) w
    by (Some i) p = (p.0, p.2, p.3)
    by None p = (length ws, omega (arith, length-append ws (w ∷ [])), get_or_at ws w [] [] (length ws) refl)

-- every word that was entered is there
pub entered_all : (ws a : List (List ℕ)) → AllIn (entered ws a) a
unfolding entered
entered_all ws [] = tt
entered_all ws (w ∷ a) =
    let us = with_word ws w (index_of w ws 0) in
    (in_grown w (entered-grown us a) (in_with ws w), entered_all us a)

pub all_grown : {ws us : List (List ℕ)} → Grown ws us → (a : List (List ℕ)) → AllIn ws a → AllIn us a
all_grown g [] h = tt
all_grown g (w ∷ a) h = (in_grown w g h.0, all_grown g a h.1)

-- and nothing else: what holds the table from before and the words holds the table after
pub entered_only : (U ws a : List (List ℕ)) → ((k : ℕ) → k < length ws → In U (get_or ws k [])) → AllIn U a
    → (k : ℕ) → k < length (entered ws a) → In U (get_or (entered ws a) k [])
unfolding entered
entered_only U ws [] f h = f
entered_only U ws (w ∷ a) f h = entered_only U (with_word ws w (index_of w ws 0)) a (one (index_of w ws 0)) h.1
  where
    one : (x : Option Identifier) (k : ℕ) → k < length (with_word ws w x) → In U (get_or (with_word ws w x) k [])
    one (Some i) k m = f k m
    one None k m = by (ltb k (length ws)) refl
      where
        by : (t : Bool) → ltb k (length ws) ≡ t → In U (get_or (ws ++ (w ∷ [])) k [])
        by true e =
            let n : k < length ws = ltb-true _ _ e in
            rw (get_or-append ws (w ∷ []) [] k n) (f k n)
        by false e =
            let n : length ws ≡ k = omega (arith, ltb-false k (length ws) e, length-append ws (w ∷ [])) in
            rw (get_or_at ws w [] [] k n) h.0

-- the words from before keep their numbers
pub grown-few : {ws us : List (List ℕ)} → Grown ws us → length ws ≤ length us
grown-few {ws} g = omega (arith, ap length g.whole, length-append ws g.new)

pub grown-at : {ws us : List (List ℕ)} → Grown ws us → (x : ℕ) → x < length ws → get_or us x [] ≡ get_or ws x []
grown-at {ws} g x h =
    ap (λ (l : List (List ℕ)). get_or l x []) g.whole ∙ get_or-append ws g.new [] x h

-- items whose words are all from before stand by the table from before
pub stands_first : (s : List ℕ) (W U : List (List ℕ)) → Distinct W → Grown U W → (is : List Item) {T : List Token}
    → AllIn U (words_of s is) → Both (Stands s W) is T → Both (Stands s U) is T
unfolding words_of
stands_first s W U d g [] h Both.none = Both.none
stands_first s W U d g (Item.spelled n ∷ is) h (Both.more p q) =
    let m = grown-few g in
    let e : h.0.0 ≡ p.0 =
    d h.0.0 p.0 (omega (arith, h.0.1)) p.1 (grown-at g h.0.0 h.0.1 ∙ h.0.2 ∙ sym p.2) in
    let w : get_or U p.0 [] ≡ spelling_of s n = ap (λ (x : ℕ). get_or U x []) (sym e) ∙ h.0.2 in
    Both.more {x = Item.spelled n} (p.0, omega (arith, h.0.1), w, p.3, p.4)
    (stands_first s W U d g is h.1 q)
stands_first s W U d g (Item.plain t ∷ is) h (Both.more p q) = Both.more p (stands_first s W U d g is h q)

-- Two readings whose tables begin alike give the same tokens to names of that beginning.
pub same-tokens : (s s' : List ℕ) (W W' U : List (List ℕ)) → Distinct W → Distinct W' → Grown U W → Grown U W'
    → (is : List Item) (T T' : List Token) → words_of s is ≡ words_of s' is → AllIn U (words_of s is)
    → Both (Stands s W) is T → Both (Stands s' W') is T' → T ≡ T'
unfolding words_of in_grown
same-tokens s s' W W' U d d' g g' [] T T' e h Both.none Both.none = refl
same-tokens s s' W W' U d d' g g' (Item.spelled n ∷ is) T T' e h
    (Both.more {y = t} {ys = ts} p q) (Both.more {y = t'} {ys = ts'} p' q') =
    let word : spelling_of s n ≡ spelling_of s' n = cc in
    let i = in_grown (spelling_of s n) g h.0 in
    let i' = in_grown (spelling_of s n) g' h.0 in
    let k : h.0.0 ≡ p.0 = d h.0.0 p.0 i.1 p.1 (i.2 ∙ sym p.2) in
    let k' : h.0.0 ≡ p'.0 = d' h.0.0 p'.0 i'.1 p'.1 (i'.2 ∙ word ∙ sym p'.2) in
    let same : t ≡ t' = p.4 ∙ ap (λ (x : ℕ). named n (record { 0 = x })) (sym k ∙ k') ∙ sym p'.4 in
    let later : ts ≡ ts' = same-tokens s s' W W' U d d' g g' is ts ts' (cc) h.1 q q' in
    rw (same, later)
same-tokens s s' W W' U d d' g g' (Item.plain u ∷ is) T T' e h
    (Both.more {y = t} {ys = ts} p q) (Both.more {y = t'} {ys = ts'} p' q') =
    let later : ts ≡ ts' = same-tokens s s' W W' U d d' g g' is ts ts' e h q q' in
    rw (p, p', later)

-- The words of a table that are among others. ---------------------------------------------------------------------

pub record Chosen (us ws : List (List ℕ)) : Type 0 where
  pub words : List (List ℕ)
  pub few : length words ≤ length ws
  pub in_table : (k : ℕ) → k < length words → In ws (get_or words k [])
  pub in_others : (k : ℕ) → k < length words → In us (get_or words k [])
  pub all : (w : List ℕ) → In ws w → In us w → In words w
  pub distinct : Distinct ws → Distinct words

pub in_more : (w v : List ℕ) (ws : List (List ℕ)) → In ws v → In (w ∷ ws) v
in_more w v ws h = (suc h.0, omega (arith, h.1), h.2)

each_more : (P : List ℕ → Type 0) (w : List ℕ) (ws : List (List ℕ)) → P w
    → ((k : ℕ) → k < length ws → P (get_or ws k [])) → (k : ℕ) → k < length (w ∷ ws) → P (get_or (w ∷ ws) k [])
each_more P w ws p f zero h = p
each_more P w ws p f (suc k) h = f k (omega arith)

pub distinct-rest : (w : List ℕ) (ws : List (List ℕ)) → Distinct (w ∷ ws) → Distinct ws
distinct-rest w ws d i j h g e = omega (arith, d (suc i) (suc j) (omega arith) (omega arith) e)

pub distinct_more : (w : List ℕ) (ws : List (List ℕ)) → (In ws w → ⊥) → Distinct ws → Distinct (w ∷ ws)
distinct_more w ws n d zero zero h g e = refl
distinct_more w ws n d zero (suc j) h g e = absurd (n (j, omega arith, sym e))
distinct_more w ws n d (suc i) zero h g e = absurd (n (i, omega arith, e))
distinct_more w ws n d (suc i) (suc j) h g e = ap suc (d i j (omega arith) (omega arith) e)

module _ {us ws : List (List ℕ)} (w : List ℕ) (c : Chosen us ws) where
  -- w is the first of a table: nothing more of it is in the rest
  first-only : Distinct (w ∷ ws) → In c.words w → ⊥
  first-only d q =
      let z = c.in_table q.0 q.1 in
      omega (arith, d 0 (suc z.0) (omega arith) (omega (arith, z.1)) (sym q.2 ∙ sym z.2))

  -- w is among the others, or isn't
  with_it : (v : List ℕ) (k : ℕ) → k < length (w ∷ ws) → get_or (w ∷ ws) k [] ≡ v → In us v → In (w ∷ c.words) v
  with_it v zero h e g = (zero, omega arith, e)
  with_it v (suc k) h e g = in_more w v c.words (c.all v (k, omega arith, e) g)

  without_it : ((i : ℕ) → i < length us → get_or us i [] ≡ w → ⊥) → (v : List ℕ) (k : ℕ) → k < length (w ∷ ws)
      → get_or (w ∷ ws) k [] ≡ v → In us v → In c.words v
  without_it n v zero h e g = absurd (n g.0 g.1 (g.2 ∙ sym e))
  without_it n v (suc k) h e g = c.all v (k, omega arith, e) g

  choose : (f : Option Identifier) → FoundIn w us 0 f → Chosen us (w ∷ ws)
  choose (Some i) p =
      record {
        words = w ∷ c.words;
        few = omega (arith, c.few);
        in_table = each_more (In (w ∷ ws)) w c.words (zero, omega arith, refl)
            (λ k h. in_more w (get_or c.words k []) ws (c.in_table k h));
        in_others = each_more (In us) w c.words (p.0, p.2, p.3) c.in_others;
        all = λ v h g. with_it v h.0 h.1 h.2 g;
        distinct = λ d. distinct_more w c.words (first-only d) (c.distinct (distinct-rest w ws d));
      }
  choose None p =
      record {
        words = c.words;
        few = omega (arith, c.few);
        in_table = λ k h. in_more w (get_or c.words k []) ws (c.in_table k h);
        in_others = c.in_others;
        all = λ v h g. without_it p v h.0 h.1 h.2 g;
        distinct = λ d. c.distinct (distinct-rest w ws d);
      }

pub chosen : (us ws : List (List ℕ)) → Chosen us ws
chosen us [] =
    record {
      words = [];
      few = omega arith;
      in_table = λ k h. absurd (omega arith);
      in_others = λ k h. absurd (omega arith);
      all = λ w h g. h;
      distinct = λ d. d;
    }
chosen us (w ∷ ws) = choose w (chosen us ws) (index_of w us 0) (index_of-found w us 0)

-- of words that are all in both, all are chosen
pub all_chosen : {us ws : List (List ℕ)} (c : Chosen us ws) (a : List (List ℕ)) → AllIn us a → AllIn ws a
    → AllIn c.words a
all_chosen c [] h g = tt
all_chosen c (w ∷ a) h g = (c.all w g.0 h.0, all_chosen c a h.1 g.1)
