-- Laws of a body's items, for those who use the definition: what stands behind what.
use Rattle.std.specs.Prelude.{Err, Ok, Result}
use Prim.Native.Nat.{ℕ, zero, suc, ◌+◌, ◌≤◌, ◌<◌}
use mathlib.Core.Path.{◌≡◌, refl, sym}
use mathlib.Core.List.{List, [], ◌∷◌, ◌++◌}
use mathlib.Core.Bool.{Bool, true, false}
use native.Mathlib.Omega.{arith}
use borrow.Author.Tests.{eqb-false, leb-false}
use lib.Dec.{eqb, leb}
use lib.ListN.{length, length-append}
use Rattle.utils.specs.Bytes.{pick}
use Rattle.lexer.specs.Decoded.{Tok, token_at}
use Rattle.lexer.specs.declared.TokenAt.{TokenAt}
use Rattle.pieces.specs.declared.Identifier.{Identifier}
use Rattle.parser.specs.Step.{refusal, look, then_at, then_named}
use Rattle.parser.specs.Grammar.{consume_d, label_d, instruction_d}
use Rattle.parser.specs.Runs.{call_d}
use Rattle.parser.specs.Labels.{has, labelled_d}
use Rattle.body.specs.Body.{Item, label, plain, call, call_into, ItemAt, Body}
use Rattle.body.specs.Body.{after_label, after_operation, after_terminator, behind, closes, body_end}
use Rattle.body.specs.Body.{body_stop, body_then, then_item, called_item, parsed_item, item_d, body_d, labels_of, ret}
use Rattle.body.specs.Body.{lacks_ret, closed_from}
use Rattle.body.specs.Shapes.{shapes_of, names_in}
use Rattle.parser.specs.declared.Refusal.{Refusal}
use Rattle.parser.specs.declared.Parsed.{Parsed}
use Rattle.parser.specs.declared.Parsed.TheVariants as P
use Rattle.body.proofs.Cells.{lacks_operation}

abbrev pub is_label : Item → Bool
is_label (label w l) = true
is_label (plain o) = false
is_label (call w g xs) = false
is_label (call_into w v g xs) = false

-- what an item leaves standing before the next one
abbrev pub after : Item → ℕ
after (label w l) = after_label
after (plain o) = behind (plain o)
after (call w g xs) = after_operation
after (call_into w v g xs) = after_operation

never : true ≡ false → ⊥
never e = cc

-- Behind a terminator comes a label, or nothing.
unfoldable pub TerminatorsLast : ℕ → List Item → Type 0
TerminatorsLast before [] = Unit
TerminatorsLast before (i ∷ is) = (is_label i ≡ false → before ≡ after_terminator → ⊥) × TerminatorsLast (after i) is

-- Behind an operation that isn't a terminator comes an operation.
unfoldable pub BlocksEnded : ℕ → List Item → Type 0
BlocksEnded before [] = before ≡ after_operation → ⊥
BlocksEnded before (i ∷ is) = (is_label i ≡ true → before ≡ after_operation → ⊥) × BlocksEnded (after i) is

-- Behind a label comes an item: the last one is no label.
unfoldable pub LabelsFollowed : ℕ → List Item → Type 0
LabelsFollowed before [] = before ≡ after_label → ⊥
LabelsFollowed before (i ∷ is) = LabelsFollowed (after i) is

-- What holds of a body whatever its steps gave. -----------------------------------------------------------------------

module _ (Q : Body → Type 0) where
  looked : (t : TokenAt) (k : ℕ → ℕ → Body) → ((kind next : ℕ) → Q (k kind next)) → Q (look t k)
  unfolding look
  looked t k g = g t.kind t.next

  picked : (q : Bool) (x y : Body) → (q ≡ true → Q x) → (q ≡ false → Q y) → Q (pick q x y)
  unfolding pick
  picked true x y f g = f refl
  picked false x y f g = g refl

  -- with how it was read
  named-of : (c : Result (Identifier × ℕ) Refusal) (k : Identifier → ℕ → Body) → ((e : Refusal) → Q (body_stop e))
      → ((l : Identifier) (at : ℕ) → c ≡ Ok (l, at) → Q (k l at)) → Q (then_named body_stop c k)
  unfolding then_named
  named-of (Ok p) k f g = g p.0 p.1 refl
  named-of (Err e) k f g = f e

  item_of : (r : ItemAt) (k : Item → ℕ → Body) → ((e : Refusal) → Q (body_stop e))
      → ((i : Item) (at : ℕ) → r ≡ ItemAt.item i at → Q (k i at)) → Q (then_item body_stop r k)
  unfolding then_item
  item_of (ItemAt.item i at) k f g = g i at refl
  item_of (ItemAt.refused e) k f g = f e

-- What is read as an item is an operation, so that `behind` says what stands behind it.
abbrev pub Operates : Item → Type 0
Operates i = (is_label i ≡ false) × (behind i ≡ after i)

abbrev OperatesAt : ItemAt → Type 0
OperatesAt (ItemAt.item i at) = Operates i
OperatesAt (ItemAt.refused e) = Unit

ended-call : (c : Result ℕ Refusal) (i : Item) → Operates i
    → OperatesAt (then_at ItemAt.refused c (λ at. ItemAt.item i at))
unfolding then_at
ended-call (Ok at) i q = q
ended-call (Err e) i q = tt

parsed_operates : (ts : List Tok) (p : Result Parsed Refusal) → OperatesAt (parsed_item ts p)
unfolding parsed_item called_item behind pick
parsed_operates ts (Ok (P.Done o at)) = (refl, refl)
parsed_operates ts (Ok (P.Call w)) = ended-call (call_d ts w).arguments.end _ (refl, refl)
parsed_operates ts (Ok (P.CallInto v w)) = ended-call (call_d ts w).arguments.end _ (refl, refl)
parsed_operates ts (Err e) = tt

pub item_operates : (ts : List Tok) (from : ℕ) (i : Item) (at : ℕ) → item_d ts from ≡ ItemAt.item i at → Operates i
unfolding item_d
item_operates ts from i at e = rw e at (parsed_operates ts (instruction_d ts from))

-- Of an accepted body. ------------------------------------------------------------------------------------------------

abbrev Ordered : ℕ → Body → Type 0
Ordered before r =
    (next : ℕ) → r.end ≡ Ok next → TerminatorsLast before r.items × LabelsFollowed before r.items

stopped : (before : ℕ) (e : Refusal) → Ordered before (body_stop e)
stopped before e next h = absurd (cc)

-- the brace closes, and not behind a label
closed : (before kind next : ℕ) → closes before kind ≡ true → Ordered before (body_end (Ok next))
unfolding closes pick TerminatorsLast LabelsFollowed
closed before kind next q after h =
    (tt, λ e. let f : closes after_label kind ≡ true = rw e at q in never (sym f))

with_label : (before w : ℕ) (l : Identifier) (r : Body) → Ordered after_label r
    → Ordered before (body_then (label w l) r)
unfolding TerminatorsLast LabelsFollowed
with_label before w l r q next h =
    ((λ e. absurd (never e), (q next h).0), (q next h).1)

with_item : (before : ℕ) (i : Item) (r : Body) → Operates i → (before ≡ after_terminator → ⊥) → Ordered (behind i) r
    → Ordered before (body_then i r)
unfolding TerminatorsLast LabelsFollowed
with_item before i r o n q next h = let a = rw o.1 at (q next h) in ((λ _. n, a.0), a.1)

ordered : (ts : List Tok) (room : ℕ) (ls : List ℕ) (before at : ℕ) → Ordered before (body_d ts room ls before at)
unfolding body_d
ordered ts zero ls before at = stopped before _
ordered ts (suc room) ls before at =
    looked (Ordered before) (token_at ts at) _ (λ kind next.
    picked (Ordered before) (closes before kind) _ _ (closed before kind next) (λ _.
    picked (Ordered before) (eqb kind 3) _ _
    (λ _. named-of (Ordered before) (labelled_d ts ls at) _ (stopped before) (λ l at1 _.
    with_label before at l _ (ordered ts room (ls ++ (l.0 ∷ [])) after_label at1)))
    (λ _. item_of (Ordered before) (item_d ts at) _ (stopped before) (λ i at1 e.
    picked (Ordered before) (eqb before after_terminator) _ _ (λ _. stopped before _) (λ f.
    with_item before i _ (item_operates ts at i at1 e) (eqb-false before after_terminator f)
    (ordered ts room ls (behind i) at1))))))

-- In an accepted body a terminator stands only right before a label or at the end.
pub terminator_last : (ts : List Tok) (room : ℕ) (ls : List ℕ) (before at : ℕ) {next : ℕ}
    → (body_d ts room ls before at).end ≡ Ok next → TerminatorsLast before (body_d ts room ls before at).items
terminator_last ts room ls before at {next} h = (ordered ts room ls before at next h).0

-- In an accepted body an operation stands behind every label, or behind a run of them: no label is the last item.
pub labels_followed : (ts : List Tok) (room : ℕ) (ls : List ℕ) (before at : ℕ) {next : ℕ}
    → (body_d ts room ls before at).end ≡ Ok next → LabelsFollowed before (body_d ts room ls before at).items
labels_followed ts room ls before at {next} h = (ordered ts room ls before at next h).1

-- How many labels. ----------------------------------------------------------------------------------------------------

-- a label is read where there are fewer than 255 before it
abbrev Roomy : List ℕ → Result (Identifier × ℕ) Refusal → Type 0
Roomy ls (Ok p) = length ls < 255
Roomy ls (Err e) = Unit

labelled_roomy : (ts : List Tok) (ls : List ℕ) (at : ℕ) → Roomy ls (labelled_d ts ls at)
unfolding labelled_d then_named then_at pick
labelled_roomy ts ls at = read (label_d ts at)
  where
    tested : (l : Identifier) (at2 : ℕ) (full had : Bool) → leb 255 (length ls) ≡ full
        → Roomy ls (pick full (Err (refusal 38 at 0)) (pick had (Err (refusal 13 at 0)) (Ok (l, at2))))
    tested l at2 true had e = tt
    tested l at2 false true e = tt
    tested l at2 false false e = leb-false 255 (length ls) e

    coloned : (l : Identifier) (x : Result ℕ Refusal)
        → Roomy ls (then_at Err x (λ at2.
        pick (leb 255 (length ls)) (Err (refusal 38 at 0))
        (pick (has ls l.0) (Err (refusal 13 at 0)) (Ok (l, at2)))))
    coloned l (Ok at2) = tested l at2 (leb 255 (length ls)) (has ls l.0) refl
    coloned l (Err e) = tt

    read : (x : Result (Identifier × ℕ) Refusal)
        → Roomy ls (then_named Err x (λ l at1.
        then_at Err (consume_d ts at1 29) (λ at2.
        pick (leb 255 (length ls)) (Err (refusal 38 at 0))
        (pick (has ls l.0) (Err (refusal 13 at 0)) (Ok (l, at2))))))
    read (Ok p) = coloned p.0 (consume_d ts p.1 29)
    read (Err e) = tt

-- labels so far and labels read
abbrev FewIn : List ℕ → List Item → Type 0
FewIn ls is = length ls + length (labels_of is) ≤ 255

abbrev Few : List ℕ → Body → Type 0
Few ls r = FewIn ls r.items

few-none : (ls : List ℕ) → length ls ≤ 255 → FewIn ls []
unfolding labels_of
few-none ls h = omega arith

few-label : (ls : List ℕ) (w : ℕ) (l : Identifier) (is : List Item) → FewIn (ls ++ (l.0 ∷ [])) is → FewIn ls
    (label w l ∷ is)
unfolding labels_of
few-label ls w l is h = omega (arith, h, length-append ls (l.0 ∷ []))

few-item : (ls : List ℕ) (i : Item) (is : List Item) → is_label i ≡ false → FewIn ls is → FewIn ls (i ∷ is)
unfolding labels_of
few-item ls (label w l) is e h = absurd (never e)
few-item ls (plain o) is e h = h
few-item ls (call w g xs) is e h = h
few-item ls (call_into w v g xs) is e h = h

labels_from : (ts : List Tok) (room : ℕ) (ls : List ℕ) (before at : ℕ) → length ls ≤ 255
    → Few ls (body_d ts room ls before at)
unfolding body_d
labels_from ts zero ls before at h = few-none ls h
labels_from ts (suc room) ls before at h =
    looked (Few ls) (token_at ts at) _ (λ kind next.
    picked (Few ls) (closes before kind) _ _ (λ _. few-none ls h) (λ _.
    picked (Few ls) (eqb kind 3) _ _
    (λ _. named-of (Few ls) (labelled_d ts ls at) _ (λ e. few-none ls h) (λ l at1 e.
    let room-left : length ls < 255 = rw e at (labelled_roomy ts ls at) in
    few-label ls at l _
    (labels_from ts room (ls ++ (l.0 ∷ [])) after_label at1 (omega (arith, room-left, length-append ls (l.0 ∷ []))))))
    (λ _. item_of (Few ls) (item_d ts at) _ (λ e. few-none ls h) (λ i at1 e.
    picked (Few ls) (eqb before after_terminator) _ _ (λ _. few-none ls h) (λ f.
    few-item ls i _ (item_operates ts at i at1 e).0 (labels_from ts room ls (behind i) at1 h))))))

-- A body has at most 255 labels.
pub labels_few : (ts : List Tok) (room before at : ℕ) → length (labels_of (body_d ts room [] before at).items) ≤ 255
labels_few ts room before at = omega (arith, labels_from ts room [] before at (omega arith))

-- Of closed items. ----------------------------------------------------------------------------------------------------

-- what is shown with an added `ret` and without it
added : (Q : List Item → Type 0) (lacks : Bool) (last : ℕ) (is : List Item) → (lacks ≡ true → Q (ret last ∷ is))
    → (lacks ≡ false → Q is) → Q (pick lacks (ret last ∷ is) is)
unfolding pick
added Q true last is f g = f refl
added Q false last is f g = g refl

-- An added `ret` stands only right before a label or at the end, as every terminator does.
pub closed_terminator_last : (void : Bool) (before last : ℕ) (is : List Item) → TerminatorsLast before is
    → TerminatorsLast before (closed_from void before last is)
unfolding closed_from TerminatorsLast behind pick
closed_terminator_last void before last [] t =
    added (TerminatorsLast before) (lacks_ret void before) last []
    (λ q. ((λ _ e. omega (arith, lacks_operation void before q, e)), tt)) (λ _. tt)
closed_terminator_last void before last (label w l ∷ is) t =
    let more = closed_terminator_last void after_label last is t.1 in
    added (TerminatorsLast before) (lacks_ret void before) last (label w l ∷ closed_from void after_label last is)
    (λ q. ((λ _ e. omega (arith, lacks_operation void before q, e)), (λ e. absurd (never e), more)))
    (λ _. (t.0, more))
closed_terminator_last void before last (plain o ∷ is) t = (t.0, closed_terminator_last void _ _ is t.1)
closed_terminator_last void before last (call w g xs ∷ is) t = (t.0, closed_terminator_last void _ _ is t.1)
closed_terminator_last void before last (call_into w v g xs ∷ is) t = (t.0, closed_terminator_last void _ _ is t.1)

-- An added `ret` leaves an item behind every label.
pub closed-labels_followed : (void : Bool) (before last : ℕ) (is : List Item) → LabelsFollowed before is
    → LabelsFollowed before (closed_from void before last is)
unfolding closed_from LabelsFollowed behind pick
closed-labels_followed void before last [] t =
    added (LabelsFollowed before) (lacks_ret void before) last [] (λ q e. omega (arith, e)) (λ _. t)
closed-labels_followed void before last (label w l ∷ is) t =
    let more = closed-labels_followed void after_label last is t in
    added (LabelsFollowed before) (lacks_ret void before) last (label w l ∷ closed_from void after_label last is)
    (λ _. more) (λ _. more)
closed-labels_followed void before last (plain o ∷ is) t = closed-labels_followed void _ _ is t
closed-labels_followed void before last (call w g xs ∷ is) t = closed-labels_followed void _ _ is t
closed-labels_followed void before last (call_into w v g xs ∷ is) t = closed-labels_followed void _ _ is t

-- where a void function lacks no `ret`, no operation but a terminator stands before
lacks_none : (before : ℕ) → lacks_ret true before ≡ false → before ≡ after_operation → ⊥
unfolding lacks_ret pick
lacks_none before q = eqb-false before after_operation q

-- In a void function's closed items every block with an operation ends in a terminator.
pub closed-ends : (before last : ℕ) (is : List Item) → BlocksEnded before (closed_from true before last is)
unfolding closed_from BlocksEnded behind pick
closed-ends before last [] =
    added (BlocksEnded before) (lacks_ret true before) last []
    (λ _. ((λ e. absurd (never (sym e))), λ e. omega (arith, e)))
    (lacks_none before)
closed-ends before last (label w l ∷ is) =
    let more = closed-ends after_label last is in
    added (BlocksEnded before) (lacks_ret true before) last (label w l ∷ closed_from true after_label last is)
    (λ _. ((λ e. absurd (never (sym e))), ((λ _ e. omega (arith, e)), more)))
    (λ q. ((λ _. lacks_none before q), more))
closed-ends before last (plain o ∷ is) =
    ((λ e. absurd (never (sym e))), closed-ends _ _ is)
closed-ends before last (call w g xs ∷ is) =
    ((λ e. absurd (never (sym e))), closed-ends _ _ is)
closed-ends before last (call_into w v g xs ∷ is) =
    ((λ e. absurd (never (sym e))), closed-ends _ _ is)

-- The labels among the parts of closed items are the body's labels.
pub names-closed : (void : Bool) (before last : ℕ) (is : List Item)
    → names_in (shapes_of (closed_from void before last is)) ≡ labels_of is
unfolding closed_from shapes_of names_in labels_of
names-closed void before last [] =
    added (λ (js : List Item). names_in (shapes_of js) ≡ []) (lacks_ret void before) last [] (λ _. refl) (λ _. refl)
names-closed void before last (label w l ∷ is) =
    let more : names_in (shapes_of (label w l ∷ closed_from void after_label last is)) ≡ l.0 ∷ labels_of is =
    rw (names-closed void after_label last is) in
    added (λ (js : List Item). names_in (shapes_of js) ≡ l.0 ∷ labels_of is) (lacks_ret void before) last
    (label w l ∷ closed_from void after_label last is) (λ _. more) (λ _. more)
names-closed void before last (plain o ∷ is) = names-closed void _ _ is
names-closed void before last (call w g xs ∷ is) = names-closed void _ _ is
names-closed void before last (call_into w v g xs ∷ is) = names-closed void _ _ is
