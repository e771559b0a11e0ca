-- Progress: every step of the grammar takes a token and stays before the end token, so an item takes two tokens or more
-- and a call three besides its arguments. One lemma for each step helper, then one for each definition.
use Rattle.std.specs.Prelude.{Err, Ok, Result}
use Prim.Native.Nat.{ℕ, zero, suc, ◌+◌, ◌*◌, ◌≤◌, ◌<◌}
use mathlib.Core.Path.{◌≡◌, refl}
use mathlib.Core.Bool.{true, false}
use mathlib.Core.List.{List}
use mathlib.Core.Logic.{⊎_elim}
use native.Mathlib.Omega.{arith}
use native.Mathlib.Nat.{eq-or-lt_of_le}
use borrow.Author.Tests.{ne_eqb, eqb-true, eqb-false, leb-false}
use lib.Dec.{eqb, leb, ltb}
use lib.ListN.{length}
use Rattle.utils.specs.Bytes.{pick}
use Rattle.pieces.proofs.Progress.{pick_either}
use Rattle.pieces.specs.declared.Identifier.{Identifier}
use Rattle.lexer.specs.Decoded.{Tok, token_at}
use Rattle.lexer.specs.declared.TokenAt.{TokenAt}
use Rattle.parser.specs.Step.{look, then_at, then_named, then_type, then_defined}
use Rattle.parser.specs.Grammar.{consume_d, named_d, type_d, print_d, ret_d, jump_d, branch_d, nop_d, defined_d}
use Rattle.parser.specs.Grammar.{is_constant, const_d}
use Rattle.parser.specs.Grammar.{unary_d, binary_d, is_unary, is_binary, value_d, definition_d, instruction_d}
use Rattle.parser.specs.Runs.{Variables, Calling, arguments_d, call_d}
use Rattle.parser.specs.Labels.{has, labelled_d}
use Rattle.body.specs.Body.{Item, label, plain, call, call_into, operation_token, item_token, arguments_in}
use Rattle.body.specs.Body.{ItemAt, item, refused, called_item, parsed_item, item_d}
use Rattle.parser.specs.declared.Refusal.{Refusal}
use Rattle.parser.specs.declared.Ty.{Ty}
use Rattle.parser.specs.declared.Variable.{Variable}
use Rattle.parser.specs.declared.Parsed.{Parsed}
use Rattle.parser.specs.declared.Parsed.TheVariants as P

-- Where each answer goes on. ----------------------------------------------------------------------------------------

abbrev pub DefinedIn : ℕ → ℕ → Result (Variable × ℕ) Refusal → Type 0
DefinedIn from last (Ok p) = (from + 1 ≤ p.1) × (p.1 ≤ last)
DefinedIn from last (Err e) = Unit

abbrev pub ParsedIn : ℕ → ℕ → Result Parsed Refusal → Type 0
ParsedIn from last (Ok (P.Done o next)) = (from + 2 ≤ next) × (next ≤ last) × (operation_token o ≤ last)
ParsedIn from last (Ok (P.Call w)) = (from ≤ w) × (w ≤ last)
ParsedIn from last (Ok (P.CallInto v w)) = (from ≤ w) × (w ≤ last)
ParsedIn from last (Err e) = Unit

-- a run of n variables and its end
abbrev pub RunIn : ℕ → ℕ → ℕ → Result ℕ Refusal → Type 0
RunIn from n last (Ok next) = (from + n + 1 ≤ next) × (next ≤ last)
RunIn from n last (Err e) = Unit

pub record ArgumentsIn (from room last : ℕ) (r : Variables) : Type 0 where
  pub few : length r.list ≤ room
  pub on : RunIn from (length r.list) last r.end

abbrev pub LabelIn : ℕ → ℕ → ℕ → Result (Identifier × ℕ) Refusal → Type 0
LabelIn from last count (Ok p) = (from + 2 ≤ p.1) × (p.1 ≤ last) × (count < 255)
LabelIn from last count (Err e) = Unit

-- an item that is no label
abbrev pub Operates : Item → Type 0
Operates (label w l) = ⊥
Operates (plain o) = Unit
Operates (call w g xs) = Unit
Operates (call_into w v g xs) = Unit

pub record ItemOn (from last next : ℕ) (i : Item) : Type 0 where
  pub two : from + 2 ≤ next
  pub reached : next ≤ last
  pub token : item_token i ≤ last
  pub arguments : from * 16 + length (arguments_in i) * 19 ≤ next * 16
  pub operates : Operates i

abbrev pub ItemIn : ℕ → ℕ → ItemAt → Type 0
ItemIn from last (item i next) = ItemOn from last next i
ItemIn from last (refused e) = Unit

-- Steps. ------------------------------------------------------------------------------------------------------------

token-next : (ts : List Tok) (at : ℕ) → ((token_at ts at).kind ≡ 38 → ⊥) → (token_at ts at).next ≡ at + 1
unfolding token_at pick
token-next ts at =
    pick_either (λ (u : TokenAt). (u.kind ≡ 38 → ⊥) → u.next ≡ at + 1) (ltb at (length ts)) _ _
    (λ t h. rw (ne_eqb _ _ h)) (λ t h. absurd (h refl))

run_longer : (from n last : ℕ) (c : Result ℕ Refusal) → RunIn (from + 1) n last c → RunIn from (suc n) last c
run_longer from n last (Ok next) h = (omega (arith, h.0), h.1)
run_longer from n last (Err e) h = tt

module _ (ts : List Tok) (last : ℕ) (ends : (token_at ts last).kind ≡ 38) where
  pub moves : (at : ℕ) → at ≤ last → ((token_at ts at).kind ≡ 38 → ⊥)
      → ((token_at ts at).next ≡ at + 1) × (at + 1 ≤ last)
  moves at h n =
      (token-next ts at n, ⊎_elim (λ z. absurd (n (rw z ends))) (λ l. omega arith) (eq-or-lt_of_le h))

  pub moved : (at kind : ℕ) → at ≤ last → eqb kind 38 ≡ false → eqb (token_at ts at).kind kind ≡ true
      → ((token_at ts at).next ≡ at + 1) × (at + 1 ≤ last)
  moved at kind h n t =
      let k = eqb-true (token_at ts at).kind kind t in
      moves at h (λ z. eqb-false kind 38 n (rw k at z))

  pub consume_step : {A : Type 0} (Q : A → Type 0) (fail : Refusal → A) (k : ℕ → A) (at kind : ℕ) → at ≤ last
      → eqb kind 38 ≡ false → ((e : Refusal) → Q (fail e)) → (at + 1 ≤ last → Q (k (at + 1)))
      → Q (then_at fail (consume_d ts at kind) k)
  unfolding consume_d look then_at
  consume_step Q fail k at kind h n f g =
      pick_either (λ (c : Result ℕ Refusal). Q (then_at fail c k)) (eqb (token_at ts at).kind kind) _ _
      (λ t. let m = moved at kind h n t in rw m.0 (g m.1)) (λ t. f _)

  pub named_step : {A : Type 0} (Q : A → Type 0) (fail : Refusal → A) (k : Identifier → ℕ → A) (at kind number : ℕ)
      → at ≤ last → eqb kind 38 ≡ false → ((e : Refusal) → Q (fail e)) →
      ((x : Identifier) → at + 1 ≤ last → Q (k x (at + 1)))
      → Q (then_named fail (named_d ts at kind number) k)
  unfolding named_d then_named
  named_step Q fail k at kind number h n f g =
      pick_either (λ (c : Result (Identifier × ℕ) Refusal). Q (then_named fail c k))
      (eqb (token_at ts at).kind kind) _ _
      (λ t. let m = moved at kind h n t in rw m.0 (g _ m.1)) (λ t. f _)

  pub type_step : {A : Type 0} (Q : A → Type 0) (fail : Refusal → A) (k : Ty → ℕ → A) (at : ℕ) → at ≤ last
      → ((e : Refusal) → Q (fail e)) → ((t : Ty) → at + 1 ≤ last → Q (k t (at + 1)))
      → Q (then_type fail (type_d ts at) k)
  unfolding type_d look then_type
  type_step Q fail k at h f g =
      pick_either (λ (c : Result (Ty × ℕ) Refusal). Q (then_type fail c k)) (eqb (token_at ts at).kind 32) _ _
      (λ t. let m = moved at 32 h refl t in rw m.0 (g _ m.1))
      (λ s.
      pick_either (λ (c : Result (Ty × ℕ) Refusal). Q (then_type fail c k)) (eqb (token_at ts at).kind 33) _ _
      (λ t. let m = moved at 33 h refl t in rw m.0 (g _ m.1)) (λ t. f _))

  -- the end of an operation
  semicolon : (from at : ℕ) (k : ℕ → Result Parsed Refusal) → at ≤ last
      → (at + 1 ≤ last → ParsedIn from last (k (at + 1)))
      → ParsedIn from last (then_at Err (consume_d ts at 30) k)
  semicolon from at k h g = consume_step (ParsedIn from last) _ k at 30 h refl (λ e. tt) g

  -- Operations. -----------------------------------------------------------------------------------------------------

  module _ (from word : ℕ) (later : from ≤ word) (inside : word + 1 ≤ last) where
    print_in : ParsedIn from last (print_d ts word (word + 1))
    unfolding print_d
    print_in =
        named_step (ParsedIn from last) _ _ (word + 1) 1 6 inside refl (λ e. tt) (λ x h.
        semicolon from (word + 1 + 1) _ h (λ g. (omega arith, g, omega arith)))

    ret_in : ParsedIn from last (ret_d ts word (word + 1))
    unfolding ret_d look
    ret_in =
        pick_either (ParsedIn from last) (eqb (token_at ts (word + 1)).kind 30) _ _
        (λ t. let m = moved (word + 1) 30 inside refl t in rw m.0 (omega arith, m.1, omega arith))
        (λ t.
        named_step (ParsedIn from last) _ _ (word + 1) 1 6 inside refl (λ e. tt) (λ x h.
        semicolon from (word + 1 + 1) _ h (λ g. (omega arith, g, omega arith))))

    jump_in : ParsedIn from last (jump_d ts word (word + 1))
    unfolding jump_d
    jump_in =
        named_step (ParsedIn from last) _ _ (word + 1) 3 8 inside refl (λ e. tt) (λ x h.
        semicolon from (word + 1 + 1) _ h (λ g. (omega arith, g, omega arith)))

    branch_in : ParsedIn from last (branch_d ts word (word + 1))
    unfolding branch_d
    branch_in =
        named_step (ParsedIn from last) _ _ (word + 1) 1 6 inside refl (λ e. tt) (λ x h.
        named_step (ParsedIn from last) _ _ (word + 1 + 1) 3 8 h refl (λ e. tt) (λ l g.
        named_step (ParsedIn from last) _ _ (word + 1 + 1 + 1) 3 8 g refl (λ e. tt) (λ m f.
        semicolon from (word + 1 + 1 + 1 + 1) _ f (λ d. (omega arith, d, omega arith)))))

    nop_in : ParsedIn from last (nop_d ts word (word + 1))
    unfolding nop_d
    nop_in = semicolon from (word + 1) _ inside (λ g. (omega arith, g, omega arith))

    const_in : (v : Variable) → ParsedIn from last (const_d ts v word (word + 1))
    unfolding const_d look is_constant pick
    const_in v =
        pick_either (ParsedIn from last) (is_constant (token_at ts (word + 1)).kind) _ _
        (λ t.
        let m = moves (word + 1) inside (λ z. let f = rw z at t in cc) in
        rw m.0 (semicolon from (word + 1 + 1) _ m.1 (λ g. (omega arith, g, omega arith))))
        (λ t. tt)

    unary_in : (v : Variable) → ParsedIn from last (unary_d ts v word (word + 1))
    unfolding unary_d
    unary_in v =
        named_step (ParsedIn from last) _ _ (word + 1) 1 6 inside refl (λ e. tt) (λ x h.
        semicolon from (word + 1 + 1) _ h (λ g. (omega arith, g, omega arith)))

    binary_in : (v : Variable) → ParsedIn from last (binary_d ts v word (word + 1))
    unfolding binary_d
    binary_in v =
        named_step (ParsedIn from last) _ _ (word + 1) 1 6 inside refl (λ e. tt) (λ x h.
        named_step (ParsedIn from last) _ _ (word + 1 + 1) 1 6 h refl (λ e. tt) (λ y g.
        semicolon from (word + 1 + 1 + 1) _ g (λ f. (omega arith, f, omega arith))))

  not-unary : (k : ℕ) → is_unary k ≡ true → k ≡ 38 → ⊥
  unfolding is_unary pick
  not-unary k t z = let f = rw z at t in cc

  not-binary : (k : ℕ) → is_binary k ≡ true → k ≡ 38 → ⊥
  unfolding is_binary pick
  not-binary k t z = let f = rw z at t in cc

  value_in : (from at : ℕ) (v : Variable) → from ≤ at → at ≤ last → ParsedIn from last (value_d ts v at)
  unfolding value_d look
  value_in from at v l h =
      pick_either (ParsedIn from last) (eqb (token_at ts at).kind 22) _ _ (λ t. (l, h)) (λ t.
      pick_either (ParsedIn from last) (eqb (token_at ts at).kind 34) _ _
      (λ t. let m = moved at 34 h refl t in rw m.0 (const_in from at l m.1 v)) (λ t.
      pick_either (ParsedIn from last) (is_unary (token_at ts at).kind) _ _
      (λ t. let m = moves at h (not-unary _ t) in rw m.0 (unary_in from at l m.1 v)) (λ t.
      pick_either (ParsedIn from last) (is_binary (token_at ts at).kind) _ _
      (λ t. let m = moves at h (not-binary _ t) in rw m.0 (binary_in from at l m.1 v)) (λ t. tt))))

  defined_in : (at : ℕ) → at ≤ last → DefinedIn at last (defined_d ts at)
  unfolding defined_d
  defined_in at h =
      named_step (DefinedIn at last) _ _ at 1 6 h refl (λ e. tt) (λ x g.
      consume_step (DefinedIn at last) _ _ (at + 1) 29 g refl (λ e. tt) (λ f.
      type_step (DefinedIn at last) _ _ (at + 1 + 1) f (λ e. tt) (λ t d.
      consume_step (DefinedIn at last) _ _ (at + 1 + 1 + 1) 24 d refl (λ e. tt) (λ b. (omega arith, b)))))

  defined_then : (at : ℕ) (d : Result (Variable × ℕ) Refusal) → DefinedIn at last d
      → ParsedIn at last (then_defined Err d (λ v at1. value_d ts v at1))
  unfolding then_defined
  defined_then at (Ok p) h = value_in at p.1 p.0 (omega (arith, h.0)) h.1
  defined_then at (Err e) h = tt

  definition_in : (at : ℕ) → at ≤ last → ParsedIn at last (definition_d ts at)
  unfolding definition_d
  definition_in at h = defined_then at (defined_d ts at) (defined_in at h)

  pub instruction_in : (at : ℕ) → at ≤ last → ParsedIn at last (instruction_d ts at)
  unfolding instruction_d look
  instruction_in at h =
      let l : at ≤ at = omega arith in
      let k = (token_at ts at).kind in
      pick_either (ParsedIn at last) (eqb k 35) _ _
      (λ t. let m = moved at 35 h refl t in rw m.0 (print_in at at l m.1)) (λ t.
      pick_either (ParsedIn at last) (eqb k 23) _ _
      (λ t. let m = moved at 23 h refl t in rw m.0 (ret_in at at l m.1)) (λ t.
      pick_either (ParsedIn at last) (eqb k 20) _ _
      (λ t. let m = moved at 20 h refl t in rw m.0 (jump_in at at l m.1)) (λ t.
      pick_either (ParsedIn at last) (eqb k 21) _ _
      (λ t. let m = moved at 21 h refl t in rw m.0 (branch_in at at l m.1)) (λ t.
      pick_either (ParsedIn at last) (eqb k 36) _ _
      (λ t. let m = moved at 36 h refl t in rw m.0 (nop_in at at l m.1)) (λ t.
      pick_either (ParsedIn at last) (eqb k 22) _ _ (λ t. (l, h)) (λ t. definition_in at h))))))

  -- Calls, items, labels. -------------------------------------------------------------------------------------------

  arguments_in_lem : (room at : ℕ) → at ≤ last → ArgumentsIn at room last (arguments_d ts room at)
  unfolding arguments_d look
  arguments_in_lem zero at h =
      pick_either (ArgumentsIn at 0 last) (eqb (token_at ts at).kind 30) _ _
      (λ t.
      let m = moved at 30 h refl t in
      record { few = omega arith; on = rw m.0 (omega arith, m.1) })
      (λ t.
      named_step (ArgumentsIn at 0 last) _ _ at 1 6 h refl (λ e. record { few = omega arith; on = tt })
      (λ x g. record { few = omega arith; on = tt }))
  arguments_in_lem (suc room) at h =
      pick_either (ArgumentsIn at (suc room) last) (eqb (token_at ts at).kind 30) _ _
      (λ t.
      let m = moved at 30 h refl t in
      record { few = omega arith; on = rw m.0 (omega arith, m.1) })
      (λ t.
      named_step (ArgumentsIn at (suc room) last) _ _ at 1 6 h refl (λ e. record { few = omega arith; on = tt })
      (λ x g.
      let more = arguments_in_lem room (at + 1) g in
      record {
        few = omega (arith, more.few);
        on = run_longer at (length (arguments_d ts room (at + 1)).list) last
            (arguments_d ts room (at + 1)).end more.on;
      }))

  pub call_in : (word : ℕ) → word ≤ last → ArgumentsIn (word + 2) 16 last (call_d ts word).arguments
  unfolding call_d
  call_in word h =
      consume_step (λ (c : Calling). ArgumentsIn (word + 2) 16 last c.arguments) _ _ word 22 h refl
      (λ e. record { few = omega arith; on = tt })
      (λ g.
      named_step (λ (c : Calling). ArgumentsIn (word + 2) 16 last c.arguments) _ _ (word + 1) 2 7 g refl
      (λ e. record { few = omega arith; on = tt })
      (λ x f.
      let e : word + 2 ≡ word + 1 + 1 = omega arith in
      rw e (arguments_in_lem 16 (word + 1 + 1) f)))

  called_in : (from word : ℕ) (i : Item) (e : Result ℕ Refusal) → from ≤ word → item_token i ≤ last → Operates i
      → length (arguments_in i) ≤ 16 → RunIn (word + 2) (length (arguments_in i)) last e
      → ItemIn from last (then_at refused e (λ at. item i at))
  unfolding then_at
  called_in from word i (Ok next) l t o f h =
      record {
        two = omega (arith, h.0);
        reached = h.1;
        token = t;
        arguments = omega (arith, h.0);
        operates = o;
      }
  called_in from word i (Err e) l t o f h = tt

  parsed_in : (at : ℕ) (p : Result Parsed Refusal) → ParsedIn at last p → ItemIn at last (parsed_item ts p)
  unfolding parsed_item called_item
  parsed_in at (Ok (P.Done o next)) h =
      record {
        two = h.0;
        reached = h.1;
        token = h.2;
        arguments = omega (arith, h.0);
        operates = tt;
      }
  parsed_in at (Ok (P.Call w)) h =
      let c = call_in w h.1 in
      called_in at w (call w (call_d ts w).callee (call_d ts w).arguments.list) (call_d ts w).arguments.end h.0
      h.1 tt
      c.few c.on
  parsed_in at (Ok (P.CallInto v w)) h =
      let c = call_in w h.1 in
      called_in at w (call_into w v (call_d ts w).callee (call_d ts w).arguments.list) (call_d ts w).arguments.end
      h.0
      h.1 tt c.few c.on
  parsed_in at (Err e) h = tt

  pub item_in : (at : ℕ) → at ≤ last → ItemIn at last (item_d ts at)
  unfolding item_d
  item_in at h = parsed_in at (instruction_d ts at) (instruction_in at h)

  pub label_in : (ls : List ℕ) (at : ℕ) → at ≤ last → LabelIn at last (length ls) (labelled_d ts ls at)
  unfolding labelled_d
  label_in ls at h =
      named_step (LabelIn at last (length ls)) _ _ at 3 8 h refl (λ e. tt) (λ l g.
      consume_step (LabelIn at last (length ls)) _ _ (at + 1) 29 g refl (λ e. tt) (λ f.
      pick_either (LabelIn at last (length ls)) (leb 255 (length ls)) _ _ (λ t. tt) (λ t.
      pick_either (LabelIn at last (length ls)) (has ls l.0) _ _ (λ s. tt)
      (λ s. (omega arith, f, leb-false _ _ t)))))
