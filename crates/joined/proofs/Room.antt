-- Room: words that are told apart are no more than those of a table that has them all, and a text whose pieces come to
-- its end, within the limits on bytes, tokens and names, is accepted.
use Rattle.std.specs.Prelude.{Option, Some, None}
use Prim.Native.Nat.{ℕ, zero, suc, ◌+◌, ◌≤◌, ◌<◌}
use mathlib.Core.Path.{◌≡◌, refl, sym, ap, ◌∙◌}
use mathlib.Core.Bool.{Bool, true, false}
use mathlib.Core.List.{List, [], ◌∷◌, ◌++◌}
use native.Mathlib.Omega.{arith}
use borrow.Author.Tests.{ltb-true, ltb-false, lt-ltb, le-ltb}
use lib.Dec.{ltb}
use lib.ListN.{length, get_or, length-append, get_or-append}
use lib.Seq.{get_or_at}
use Rattle.utils.specs.Bytes.{pick}
use Rattle.pieces.specs.Classes.{is_ascii}
use Rattle.pieces.specs.Pieces.{Pieces, cursor, pieces}
use Rattle.pieces.specs.declared.Cursor.{Cursor}
use Rattle.pieces.specs.declared.Token.{Token}
use Rattle.lexer.specs.Numbered.{Part, part, spellings, spelling_of, index_of, on_found, identified, named, Outcome}
use Rattle.lexer.specs.Numbered.{then_identified, then_room, numbered_from, numbered}
use Rattle.lexer.specs.Read.{lexed_from}
use Rattle.lexer.proofs.Same.{length-spellings, FoundIn, index_of-found}
use Rattle.joined.specs.Runs.{Item, before, Run}
use Rattle.joined.specs.Names.{words_of, with_word, entered, In, Distinct}
use Rattle.joined.specs.Limits.{AllShort}
use Rattle.joined.proofs.Runs.{pieces-of-run}
use Rattle.joined.proofs.Names.{entered-grown, grown-few, in_more, distinct-rest, distinct_more}
use Rattle.joined.proofs.Numbering.{spellings_snoc}
use Rattle.joined.proofs.Parts.{pieces-at-end}
use Rattle.pieces.specs.declared.Identifier.{Identifier}

-- Words that are told apart. ---------------------------------------------------------------------------------------

-- a table without word k
without : List (List ℕ) → ℕ → List (List ℕ)
without [] k = []
without (u ∷ us) zero = us
without (u ∷ us) (suc k) = u ∷ without us k

without_length : (us : List (List ℕ)) (k : ℕ) → k < length us → suc (length (without us k)) ≡ length us
unfolding without
without_length [] k h = absurd (omega arith)
without_length (u ∷ us) zero h = refl
without_length (u ∷ us) (suc k) h = ap suc (without_length us k (omega arith))

without_in : (us : List (List ℕ)) (k i : ℕ) → i < length us → (i ≡ k → ⊥) → In (without us k) (get_or us i [])
unfolding without
without_in [] k i h n = absurd (omega arith)
without_in (u ∷ us) zero zero h n = absurd (n refl)
without_in (u ∷ us) zero (suc i) h n = (i, omega arith, refl)
without_in (u ∷ us) (suc k) zero h n = (zero, omega arith, refl)
without_in (u ∷ us) (suc k) (suc i) h n =
    in_more u (get_or us i []) (without us k) (without_in us k i (omega arith) (λ e. n (ap suc e)))

-- THE LAW: they are no more than the words of a table that has them all
pub no_more : (ws us : List (List ℕ)) → Distinct ws → ((k : ℕ) → k < length ws → In us (get_or ws k []))
    → length ws ≤ length us
no_more [] us d f = omega arith
no_more (w ∷ ws) us d f =
    let q = f zero (omega arith) in
    let other : (k : ℕ) → k < length ws → In (without us q.0) (get_or ws k []) = λ k h.
    let z = f (suc k) (omega arith) in
    let apart : z.0 ≡ q.0 → ⊥ = λ e.
    omega (
      arith,
      d zero (suc k) (omega arith) (omega arith)
          (sym q.2 ∙ ap (λ (i : ℕ). get_or us i []) (sym e) ∙ z.2),
    ) in
    let r = without_in us q.0 z.0 z.1 apart in
    (r.0, r.1, r.2 ∙ z.2) in
    omega (arith, no_more ws (without us q.0) (distinct-rest w ws d) other, without_length us q.0 q.1)

-- a word more, which the table hasn't
distinct_snoc : (ws : List (List ℕ)) (w : List ℕ) → (In ws w → ⊥) → Distinct ws → Distinct (ws ++ (w ∷ []))
distinct_snoc [] w n d = λ i j h g e. omega arith
distinct_snoc (v ∷ ws) w n d =
    distinct_more v (ws ++ (w ∷ [])) away
    (distinct_snoc ws w (λ q. n (in_more v w ws q)) (distinct-rest v ws d))
  where
    away : In (ws ++ (w ∷ [])) v → ⊥
    away q = by (ltb q.0 (length ws)) refl
      where
        by : (t : Bool) → ltb q.0 (length ws) ≡ t → ⊥
        by true e =
            let l = ltb-true q.0 (length ws) e in
            let same = sym (get_or-append ws (w ∷ []) [] q.0 l) ∙ q.2 in
            omega (arith, d zero (suc q.0) (omega arith) (omega arith) (sym same))
        by false e =
            let l : length ws ≡ q.0 = omega (arith, ltb-false q.0 (length ws) e, q.1, length-append ws (w ∷ [])) in
            n (zero, omega arith, sym q.2 ∙ get_or_at ws w [] [] q.0 l)

distinct_with : (ws : List (List ℕ)) (w : List ℕ) (f : Option Identifier) → FoundIn w ws 0 f → Distinct ws
    → Distinct (with_word ws w f)
distinct_with ws w (Some i) p d = d
distinct_with ws w None p d = distinct_snoc ws w (λ q. p q.0 q.1 q.2) d

-- words that are entered are told apart
pub entered-distinct : (ws a : List (List ℕ)) → Distinct ws → Distinct (entered ws a)
unfolding entered
entered-distinct ws [] d = d
entered-distinct ws (w ∷ a) d =
    entered-distinct (with_word ws w (index_of w ws 0)) a (distinct_with ws w (index_of w ws 0) (index_of-found w ws 0) d)

-- Numbering. -------------------------------------------------------------------------------------------------------

abbrev IsDone : Outcome → Type 0
IsDone (Outcome.done ts ns) = Unit
IsDone (Outcome.refused r) = ⊥
IsDone Outcome.cut = ⊥

done_as : (o : Outcome) → IsDone o → (ts : List Token) × (ns : List Part) × (o ≡ Outcome.done ts ns)
done_as (Outcome.done ts ns) h = (ts, ns, refl)
done_as (Outcome.refused r) h = absurd h
done_as Outcome.cut h = absurd h

room_is : (ts : List Token) (t : Token) (more : Outcome) → length ts < 4096 → IsDone more → IsDone (then_room ts t more)
unfolding then_room pick
room_is ts t more l h = rw (lt-ltb (length ts) 4096 l) h

-- 4,096 tokens with the end token, and 1,024 names
numbered-done : (s : List ℕ) (ts : List Token) (ns : List Part) (is : List Item) (c : Cursor) → AllShort is
    → length ts + length is < 4096 → length (entered (spellings s ns) (words_of s is)) ≤ 1024
    → IsDone (numbered_from s ts ns (before is (Pieces.end c)))
unfolding numbered_from before words_of entered identified then_identified pick
numbered-done s ts ns [] c h l n = room_is ts _ _ (omega arith) tt
numbered-done s ts ns (Item.plain t ∷ is) c h l n =
    room_is ts t _ (omega arith)
    (numbered-done s (ts ++ (t ∷ [])) ns is c h.1 (omega (arith, length-append ts (t ∷ []))) n)
numbered-done s ts ns (Item.spelled x ∷ is) c h l n =
    rw (le-ltb 64 x.len h.0)
    (by (λ t ms m. numbered-done s (ts ++ (t ∷ [])) ms is c h.1 (omega (arith, length-append ts (t ∷ []))) m)
    (index_of (spelling_of s x) (spellings s ns) 0) n)
  where
    by : ((t : Token) (ms : List Part) → length (entered (spellings s ms) (words_of s is)) ≤ 1024
        → IsDone (numbered_from s (ts ++ (t ∷ [])) ms (before is (Pieces.end c)))) → (f : Option Identifier)
        → length (entered (with_word (spellings s ns) (spelling_of s x) f) (words_of s is)) ≤ 1024
        → IsDone (then_identified ns x (on_found (length ns) x f) (λ i ms. then_room ts (named x i)
        (numbered_from s (ts ++ (named x i ∷ [])) ms (before is (Pieces.end c)))))
    by later (Some i) m = room_is ts (named x i) _ (omega arith) (later (named x i) ns m)
    by later None m =
        let ws = spellings s ns ++ (spelling_of s x ∷ []) in
        let few : length ns < 1024 =
        omega (
          arith,
          grown-few (entered-grown ws (words_of s is)),
          length-spellings s ns,
          length-append (spellings s ns) (spelling_of s x ∷ []),
        ) in
        let t = named x (record { 0 = length ns }) in
        rw (lt-ltb (length ns) 1024 few)
        (room_is ts t _ (omega arith)
        (later t (ns ++ (part x.place x.len ∷ [])) (rw (spellings_snoc s ns (part x.place x.len)) m)))

-- A TEXT WITHIN THE LIMITS IS ACCEPTED
pub run-done : (s : List ℕ) (line last : ℕ) (is : List Item) → Run s 0 line is (length s) last → AllShort is
    → is_ascii s ≡ true → length s ≤ 16384 → length is < 4096 → length (entered [] (words_of s is)) ≤ 1024
    → (ts : List Token) × (ns : List Part) × (lexed_from line s ≡ Outcome.done ts ns)
unfolding lexed_from numbered pick spellings
run-done s line last is r h a b l n =
    rw (le-ltb 16384 (length s) b, a, e)
    (done_as (numbered_from s [] [] (before is (Pieces.end (cursor (length s) last))))
    (numbered-done s [] [] is (cursor (length s) last) h (omega arith) n))
  where
    e : pieces s line ≡ before is (Pieces.end (cursor (length s) last))
    e =
        pieces-of-run (suc (length s)) (suc (length s)) r (omega arith) (omega arith) (omega arith)
        ∙ ap (before is) (pieces-at-end (length s) s last)
