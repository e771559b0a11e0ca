-- A FUNCTION RECHECKED BY ITS OWN TEXT IS ACCEPTED, and reads as it did: demand 3, where the edited text is the old
-- one.
use Prim.Native.Nat.{ℕ, ◌<◌}
use mathlib.Core.Path.{◌≡◌, sym, ap, ◌∙◌}
use mathlib.Core.List.{List}
use native.Mathlib.Omega.{arith}
use Rattle.lexer.specs.Numbered.{Outcome}
use Rattle.lexer.specs.Read.{read_from, reading_of as lexed_as}
use Rattle.checker.specs.Check.{check_of}
use Rattle.edited.specs.Reading.{reading_of}
use Rattle.edited.specs.Demand3.{line_of, rechecked_as, Edits}
use Rattle.edited.specs.Itself.{own_text, RechecksItself}
use Rattle.edited.proofs.Accepted.{accepted-text}
use Rattle.edited.proofs.Located.{edited_own, lexes-still}
use Rattle.edited.proofs.OwnTokens.{own-lexes}
use Rattle.edited.proofs.OwnKept.{own-low}
use Rattle.edited.proofs.Demand3.{demand_3}

module _ (old : List ℕ) (k : ℕ) (accepted : (check_of old).answer.number ≡ 0)
    (one : k < (check_of old).answer.functions) where
  -- the premises that are of the own text alone, and so all of them
  own_edits : (read_from (line_of old k) (own_text old k)).answer.number ≡ 0
      → ((rechecked_as old k (own_text old k)).answer.number ≡ 40 → ⊥)
      → ((rechecked_as old k (own_text old k)).answer.number ≡ 41 → ⊥) → Edits old k (own_text old k)
  own_edits lexes whole keeps =
      let still = lexes-still old k (accepted-text old accepted) one in
      record {
        accepted = accepted;
        one = one;
        lexes = lexes;
        whole = whole;
        keeps = keeps;
        bytes_few = λ e. omega (arith, still, e);
        tokens_few = λ e. omega (arith, still, e);
        names_few = λ e. omega (arith, still, e);
      }

  by_edits : Edits old k (own_text old k) → RechecksItself old k
  by_edits h =
      let d = demand_3 old k (own_text old k) h in
      let same = edited_own old k (accepted-text old accepted) one in
      let zero = ap (λ (t : List ℕ). (check_of t).answer.number) same ∙ accepted in
      record {
        accepted = d.fresh_accepts zero;
        reading = sym (d.new_reads zero) ∙ ap (λ (t : List ℕ). reading_of t (check_of t) k) same;
      }

-- THE THEOREM
pub own-accepted : (old : List ℕ) (k : ℕ) → (check_of old).answer.number ≡ 0 → k < (check_of old).answer.functions
    → RechecksItself old k
own-accepted old k accepted one =
    let a = accepted-text old accepted in
    let low = own-low old k a one in
    by_edits old k accepted one
    (own_edits old k accepted one (ap (λ (o : Outcome). (lexed_as o).answer.number) (own-lexes old k a one))
    (λ e. omega (arith, low, e)) (λ e. omega (arith, low, e)))
