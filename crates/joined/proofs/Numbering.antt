-- Numbering the items of a text: each token stands for its item by the table that numbering ends with.
use Rattle.std.specs.Prelude.{Option, Some, None, Result, Ok, Err}
use Prim.Native.Nat.{ℕ, ◌≤◌, ◌<◌}
use mathlib.Core.Path.{◌≡◌, refl, sym, ap, ◌∙◌}
use mathlib.Core.List.{List, [], ◌∷◌, ◌++◌, append-nil, append_assoc}
use native.Mathlib.Omega.{arith}
use lib.Dec.{ltb}
use lib.ListN.{length, get_or, length-append, get_or-append}
use lib.Seq.{get_or_at}
use Rattle.pieces.specs.Pieces.{Pieces, token}
use Rattle.pieces.specs.declared.Token.{Token}
use Rattle.pieces.specs.declared.TokenValue.TheVariants as T
use Rattle.pieces.specs.declared.Name.{Name}
use Rattle.lexer.specs.Numbered.{Part, part, spellings, spelling_of, index_of, identified, named, Outcome, then_identified}
use Rattle.lexer.specs.Numbered.{then_room, numbered_from}
use Rattle.lexer.specs.Sound.{Each, no_part, spelling}
use Rattle.lexer.specs.declared.Identified.{Identified}
use Rattle.lexer.specs.declared.Identified.TheVariants as I
use Rattle.pieces.proofs.Progress.{pick_either}
use Rattle.lexer.proofs.Same.{length-spellings, spelling-at, FoundIn, index_of-found}
use Rattle.lexer.proofs.Sound.{Fits, identified-fits}
use Rattle.joined.specs.Runs.{Item, before}
use Rattle.joined.specs.Names.{Both, Numbers, words_of, with_word, entered, In}
use Rattle.pieces.specs.declared.Refusal.{Refusal}
use Rattle.pieces.specs.declared.Identifier.{Identifier}

-- There was room, if it came to an end.
room-done : (ts : List Token) (t : Token) (more : Outcome) (ts' : List Token) (ns' : List Part)
    → then_room ts t more ≡ Outcome.done ts' ns' → more ≡ Outcome.done ts' ns'
unfolding then_room
room-done ts t more ts' ns' =
    pick_either (λ (o : Outcome). o ≡ Outcome.done ts' ns' → more ≡ Outcome.done ts' ns') (ltb (length ts) 4096) _ _
    (λ _ e. e) (λ _ e. absurd (let z : ◌≡◌ {A = ℕ} 0 1 = cc in omega arith))

-- a name of the table stays where it is when names are added
table_at : (s : List ℕ) (ns new : List Part) (k : ℕ) → k < length ns
    → (k < length (spellings s (ns ++ new))) × (get_or (spellings s (ns ++ new)) k [] ≡ spelling s (get_or ns k no_part))
table_at s ns new k h =
    let l = length-append ns new in
    let m : k < length (ns ++ new) = omega arith in (
      omega (arith, length-spellings s (ns ++ new)),
      spelling-at s (ns ++ new) k m ∙ ap (spelling s) (get_or-append ns new no_part k h),
    )

-- a word that the table has, and one that it hasn't
pub with_known : (ws : List (List ℕ)) (w : List ℕ) → In ws w → with_word ws w (index_of w ws 0) ≡ ws
with_known ws w h = by (index_of w ws 0) (index_of-found w ws 0)
  where
    by : (f : Option Identifier) → FoundIn w ws 0 f → with_word ws w f ≡ ws
    by (Some i) p = refl
    by None p = absurd (p h.0 h.1 h.2)

pub with_new : (ws : List (List ℕ)) (w : List ℕ) → (In ws w → ⊥) → with_word ws w (index_of w ws 0) ≡ ws ++ (w ∷ [])
with_new ws w h = by (index_of w ws 0) (index_of-found w ws 0)
  where
    by : (f : Option Identifier) → FoundIn w ws 0 f → with_word ws w f ≡ ws ++ (w ∷ [])
    by (Some i) p = absurd (h (p.0, p.2, p.3))
    by None p = refl

pub spellings_snoc : (s : List ℕ) (ns : List Part) (p : Part) → spellings s (ns ++ (p ∷ [])) ≡ spellings s ns ++
    (spelling s p ∷ [])
unfolding spellings
spellings_snoc s [] p = refl
spellings_snoc s (q ∷ ns) p = ap (λ (l : List (List ℕ)). spelling s q ∷ l) (spellings_snoc s ns p)

module _ (s : List ℕ) {ts : List Token} {ns : List Part} {rest : Pieces} {ts' : List Token} {ns' : List Part} where
  -- a token more
  plain_more : (t : Token) → Numbers s (ts ++ (t ∷ [])) ns rest ts' ns'
      → Numbers s ts ns (Pieces.plain t rest) ts' ns'
  unfolding before words_of
  plain_more t z =
      record {
        items = Item.plain t ∷ z.items;
        end = z.end;
        same = ap (Pieces.plain t) z.same;
        new = z.new;
        names = z.names;
        toks = t ∷ z.toks;
        tokens = z.tokens ∙ append_assoc ts (t ∷ []) _;
        stand = Both.more refl z.stand;
        table = z.table;
      }

  -- a name that the table has
  known_more : (n : Name) (k : ℕ) → n.len ≤ 64 → k < length ns → spelling s (get_or ns k no_part) ≡ spelling_of s n
      → Numbers s (ts ++ (named n (record { 0 = k }) ∷ [])) ns rest ts' ns'
      → Numbers s ts ns (Pieces.spelled n rest) ts' ns'
  unfolding before words_of entered
  known_more n k short h e z =
      let at = table_at s ns z.new k h in
      let l : k < length (spellings s ns') = rw z.names at.0 in
      let w : get_or (spellings s ns') k [] ≡ spelling_of s n = rw z.names (at.1 ∙ e) in
      let there : In (spellings s ns) (spelling_of s n) =
      (k, omega (arith, length-spellings s ns), spelling-at s ns k h ∙ e) in
      record {
        items = Item.spelled n ∷ z.items;
        end = z.end;
        same = ap (Pieces.spelled n) z.same;
        new = z.new;
        names = z.names;
        toks = named n (record { 0 = k }) ∷ z.toks;
        tokens = z.tokens ∙ append_assoc ts (named n (record { 0 = k }) ∷ []) _;
        stand = Both.more {x = Item.spelled n} {y = named n (record { 0 = k })} (k, l, w, short, refl) z.stand;
        table = z.table ∙ ap (λ (ws : List (List ℕ)). entered ws (words_of s z.items)) (sym (with_known _ _ there));
      }

  -- a name that is new to it
  new-more : (n : Name) (k : ℕ) → n.len ≤ 64 → k ≡ length ns
      → Each no_part (λ p. spelling s p ≡ spelling_of s n → ⊥) ns
      → Numbers s (ts ++ (named n (record { 0 = k }) ∷ [])) (ns ++ (part n.place n.len ∷ [])) rest ts' ns'
      → Numbers s ts ns (Pieces.spelled n rest) ts' ns'
  unfolding before words_of entered
  new-more n k short h absent z =
      let p = part n.place n.len in
      let m : k < length (ns ++ (p ∷ [])) = omega (arith, length-append ns (p ∷ [])) in
      let at = table_at s (ns ++ (p ∷ [])) z.new k m in
      let l : k < length (spellings s ns') = rw z.names at.0 in
      let w : get_or (spellings s ns') k [] ≡ spelling_of s n =
      rw z.names (at.1 ∙ ap (spelling s) (get_or_at ns p [] no_part k (sym h))) in
      let fresh : In (spellings s ns) (spelling_of s n) → ⊥ =
      λ q. absent q.0 (omega (arith, q.1, length-spellings s ns))
      (sym (spelling-at s ns q.0 (omega (arith, q.1, length-spellings s ns))) ∙ q.2) in
      record {
        items = Item.spelled n ∷ z.items;
        end = z.end;
        same = ap (Pieces.spelled n) z.same;
        new = p ∷ z.new;
        names = z.names ∙ append_assoc ns (p ∷ []) z.new;
        toks = named n (record { 0 = k }) ∷ z.toks;
        tokens = z.tokens ∙ append_assoc ts (named n (record { 0 = k }) ∷ []) _;
        stand = Both.more {x = Item.spelled n} {y = named n (record { 0 = k })} (k, l, w, short, refl) z.stand;
        table = z.table ∙ ap (λ (ws : List (List ℕ)). entered ws (words_of s z.items))
            (spellings_snoc s ns p ∙ sym (with_new (spellings s ns) (spelling_of s n) fresh));
      }

pub numbers_of_lem : (s : List ℕ) (ts : List Token) (ns : List Part) (ps : Pieces) (ts' : List Token) (ns' : List Part)
    → numbered_from s ts ns ps ≡ Outcome.done ts' ns' → Numbers s ts ns ps ts' ns'
unfolding numbered_from then_identified before words_of entered
numbers_of_lem s ts ns (Pieces.spelled n rest) ts' ns' e =
    on (λ us ms. numbers_of_lem s us ms rest ts' ns') (identified s ns n) (identified-fits s ns n) e
  where
    on : ((us : List Token) (ms : List Part) → numbered_from s us ms rest ≡ Outcome.done ts' ns'
        → Numbers s us ms rest ts' ns')
        → (i : Result Identified Refusal) → Fits s ns n i
        → then_identified ns n i (λ i ms. then_room ts (named n i) (numbered_from s (ts ++ (named n i ∷ [])) ms rest))
        ≡ Outcome.done ts' ns' → Numbers s ts ns (Pieces.spelled n rest) ts' ns'
    on later (Ok (I.Known i)) f e =
        known_more s n i.0 f.0 f.1 f.2
        (later (ts ++ (named n i ∷ [])) ns (room-done ts (named n i) _ ts' ns' e))
    on later (Ok (I.New i)) f e =
        new-more s n i.0 f.0 f.1 f.3
        (later (ts ++ (named n i ∷ [])) (ns ++ (part n.place n.len ∷ [])) (room-done ts (named n i) _ ts' ns' e))
    on later (Err r) f e = absurd (let z : ◌≡◌ {A = ℕ} 0 1 = cc in omega arith)
numbers_of_lem s ts ns (Pieces.plain t rest) ts' ns' e =
    plain_more s t (numbers_of_lem s (ts ++ (t ∷ [])) ns rest ts' ns' (room-done ts t _ ts' ns' e))
numbers_of_lem s ts ns (Pieces.end c) ts' ns' e =
    let t = token T.EndOfFile c.line c.place in
    let q : Outcome.done (ts ++ (t ∷ [])) ns ≡ Outcome.done ts' ns' = room-done ts t _ ts' ns' e in
    record {
      items = [];
      end = c;
      same = refl;
      new = [];
      names = (let z : ns' ≡ ns = cc in z ∙ sym (append-nil ns));
      toks = [];
      tokens = cc;
      stand = Both.none;
      table = (let z : ns' ≡ ns = cc in ap (spellings s) z);
    }
numbers_of_lem s ts ns (Pieces.refused r) ts' ns' e = absurd (let z : ◌≡◌ {A = ℕ} 0 1 = cc in omega arith)
numbers_of_lem s ts ns Pieces.cut ts' ns' e = absurd (let z : ◌≡◌ {A = ℕ} 0 1 = cc in omega arith)
