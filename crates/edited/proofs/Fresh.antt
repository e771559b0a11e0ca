-- The edited text, read afresh, against recheck's answer: it lexes; where the new function is refused alone, the text
-- is refused with the same number at the same line and place, and where it is accepted, so is the text.
use Prim.Native.Nat.{ℕ, ◌+◌, ◌-◌}
use mathlib.Core.Path.{◌≡◌, sym, ap, ◌∙◌}
use mathlib.Core.List.{List, ◌∷◌, ◌++◌}
use native.Mathlib.Omega.{arith}
use native.Mathlib.Nat.{zero-add}
use lib.ListN.{length}
use Rattle.pieces.specs.declared.Token.{Token}
use Rattle.lexer.specs.Numbered.{Part, Outcome}
use Rattle.lexer.specs.Read.{lexed_from, read_from, read_of}
use Rattle.lexer.specs.Decoded.{Tok}
use Rattle.parser.specs.declared.Refusal.{Refusal}
use Rattle.functions.specs.Functions.{Function}
use Rattle.unit.specs.Outcome.{checked, refused, unit_d}
use Rattle.checker.specs.Check.{Checking, checked_or, check_of}
use Rattle.recheck.specs.Recheck.{Verdict, refuses, accepts, retyped, verdict_as}
use Rattle.joined.specs.Readings.{Readings}
use Rattle.joined.proofs.Replaced.{edit_of, replaced}
use Rattle.related.specs.Alone.{RefusedAs, AcceptedAs, alone_among}
use Rattle.related.specs.Reading.{callee_spelt}
use Rattle.edited.specs.Demand3.{begins_at, edited_text, rechecked_as, Edits, SameRefusal}
use Rattle.edited.specs.Spelled.{tokens_in, inside_move}
use Rattle.edited.proofs.Answers.{checked_as}
use Rattle.edited.proofs.Accepted.{accepted-text}
use Rattle.edited.proofs.Lexing.{edited, alone_in}
use Rattle.edited.proofs.Decides.{spells_of, refused-fresh, accepted-fresh}
use Rattle.edited.proofs.Cutting.{Cutting, cutting}

-- the edited text's tokens and names
pub record Fresh {old : List ℕ} {k : ℕ} {new : List ℕ} (c : Cutting old k new) : Type 0 where
  pub tokens : List Token
  pub names : List Part
  pub lexed : lexed_from 1 (c.pre ++ (new ++ c.post)) ≡ Outcome.done tokens names
  pub readings : Readings c.pre c.part c.post new 1 c.first (edit_of c.lexing) tokens names

-- THE EDITED TEXT LEXES, inside the limits
pub fresh : {old : List ℕ} {k : ℕ} {new : List ℕ} (h : Edits old k new) → Fresh (cutting h)
unfolding read_of
fresh {old} {k} {new} h =
    let c = cutting h in
    let given : (n : ℕ) → (read_from 1 (c.pre ++ (new ++ c.post))).answer.number ≡ n
    → (read_of (edited_text old k new)).answer.number ≡ n =
    λ n e. ap (λ (t : List ℕ). (read_of t).answer.number) c.edited_is ∙ e in
    let z = replaced c.lexing (λ e. h.bytes_few (given 31 e)) (λ e. h.tokens_few (given 32 e))
    (λ e. h.names_few (given 33 e)) in
    record { tokens = z.0; names = z.1; lexed = z.2; readings = z.3 }

module _ {old : List ℕ} {k : ℕ} {new : List ℕ} (c : Cutting old k new) (z : Fresh c) where
  abbrev pub all : List Function
  all = c.before ++ (c.function ∷ c.behind)

  -- what the new function is alone
  abbrev pub alone : List Tok
  alone = tokens_in c.lexing.tokens_new

  abbrev pub verdict : Verdict
  verdict = alone_among alone (spells_of c.lexing) all

  lexed_edited : lexed_from 1 (edited_text old k new) ≡ Outcome.done z.tokens z.names
  lexed_edited = ap (lexed_from 1) c.edited_is ∙ z.lexed

  -- Refused. --------------------------------------------------------------------------------------------------------

  alone-is : (x : Refusal) → verdict ≡ refuses x → rechecked_as old k new
      ≡ verdict_as new (read_from c.first new) alone (λ y. callee_spelt (spells_of c.lexing y) all)
      c.function.head.type (refuses x)
  alone-is x e =
      c.answer
      ∙ ap (λ (v : Verdict). verdict_as new (read_from c.first new) alone
      (λ y. callee_spelt (spells_of c.lexing y) all) c.function.head.type v) e

  pub alone-refused : (x : Refusal) → verdict ≡ refuses x → (rechecked_as old k new).answer.number ≡ x.number
  alone-refused x e = ap (λ (r : Checking). r.answer.number) (alone-is x e)

  module _ (x : Refusal) (e : verdict ≡ refuses x) (one : x.number ≡ 40 → ⊥) where
    moved : RefusedAs (tokens_in z.tokens) alone (inside_move z.readings) (length c.lexing.tokens_new - 1) x
    moved =
        refused-fresh c.lexing z.readings z.lexed c.front c.before c.function c.behind c.typed
        c.stood c.closed c.keeps x e one

    fresh-is : check_of (edited_text old k new)
        ≡ checked_or (edited_text old k new) (read_from 1 (edited_text old k new)) (tokens_in z.tokens)
        (refused moved.refusal)
    fresh-is =
        checked_as (edited_text old k new) z.tokens z.names (refused moved.refusal) lexed_edited
        moved.refused_so

    pub same-refusal : SameRefusal (begins_at old k) (check_of (edited_text old k new)) (rechecked_as old k new)
    same-refusal =
        record {
          number =
              ap (λ (r : Checking). r.answer.number) fresh-is ∙ moved.number
              ∙ sym (alone-refused x e);
          line =
              ap (λ (r : Checking). r.answer.line) fresh-is ∙ moved.line ∙ zero-add _
              ∙ sym (ap (λ (r : Checking). r.answer.line) (alone-is x e));
          place =
              ap (λ (r : Checking). r.answer.place) fresh-is ∙ moved.place
              ∙ ap (λ (i : ℕ). length c.pre + i) (sym (ap (λ (r : Checking). r.answer.place) (alone-is x e)))
              ∙ ap (λ (i : ℕ). i + (rechecked_as old k new).answer.place) (sym c.begins);
        }

    -- so it isn't accepted
    pub not-accepted : (check_of (edited_text old k new)).answer.number ≡ 0 → ⊥
    not-accepted n =
        let a = accepted-text (edited_text old k new) n in
        let same : a.tokens ≡ z.tokens = cc (a.lexed, lexed_edited) in
        let typed : unit_d (tokens_in z.tokens) ≡ checked a.functions =
        ap (λ (l : List Token). unit_d (tokens_in l)) (sym same) ∙ a.typed in
        let one : ◌≡◌ {A = ℕ} 0 1 = cc (typed, moved.refused_so) in
        omega (arith, one)

  -- Accepted. -------------------------------------------------------------------------------------------------------

  module _ (g : Function) (table : List ℕ) (e : verdict ≡ accepts g table) where
    pub accepted_as : AcceptedAs (edited z.readings z.lexed c.lexing.new_opens_kind c.front)
        (alone_in z.readings z.lexed c.lexing.new_opens_kind c.front).inside
        (alone_in z.readings z.lexed c.lexing.new_opens_kind c.front).size alone c.before c.function
        c.behind (retyped c.function.head.type g)
    accepted_as =
        accepted-fresh c.lexing z.readings z.lexed c.front c.before c.function c.behind c.typed
        c.stood c.closed c.keeps g table e

    pub fresh-checked : check_of (edited_text old k new)
        ≡ checked_or (edited_text old k new) (read_from 1 (edited_text old k new)) (tokens_in z.tokens)
        (checked (accepted_as.before' ++ (accepted_as.f ∷ accepted_as.behind')))
    fresh-checked =
        checked_as (edited_text old k new) z.tokens z.names _ lexed_edited accepted_as.accepted_so

    pub alone-checked : rechecked_as old k new
        ≡ verdict_as new (read_from c.first new) alone (λ y. callee_spelt (spells_of c.lexing y) all)
        c.function.head.type (accepts g table)
    alone-checked =
        c.answer
        ∙ ap (λ (v : Verdict). verdict_as new (read_from c.first new) alone
        (λ y. callee_spelt (spells_of c.lexing y) all) c.function.head.type v) e

    pub fresh-zero : (check_of (edited_text old k new)).answer.number ≡ 0
    fresh-zero = ap (λ (r : Checking). r.answer.number) fresh-checked

    pub alone-zero : (rechecked_as old k new).answer.number ≡ 0
    alone-zero = ap (λ (r : Checking). r.answer.number) alone-checked
