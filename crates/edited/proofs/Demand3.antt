-- DEMAND 3, for every text, number and new text. The new function alone is refused or accepted; what it is, the edited
-- text is (Fresh.antt), and where both are accepted all functions read alike (Read.antt).
use Prim.Native.Nat.{ℕ, ◌<◌}
use mathlib.Core.Path.{◌≡◌, refl, sym, ap, ◌∙◌}
use mathlib.Core.List.{List}
use native.Mathlib.Omega.{arith}
use lib.ListN.{length}
use Rattle.parser.specs.declared.Refusal.{Refusal}
use Rattle.functions.specs.Functions.{Function}
use Rattle.checker.specs.Check.{Checking, check_of}
use Rattle.recheck.specs.Recheck.{Verdict, refuses, accepts}
use Rattle.edited.specs.Reading.{reading_of, moved_reading}
use Rattle.edited.specs.Demand3.{begins_at, edited_text, rechecked_as, Edits, Demand3}
use Rattle.edited.proofs.Accepted.{functions_are}
use Rattle.edited.proofs.Cutting.{Cutting, cutting}
use Rattle.edited.proofs.Fresh.{Fresh, fresh, all, verdict, alone-refused, same-refusal, not-accepted}
use Rattle.edited.proofs.Fresh.{accepted_as, fresh-zero, alone-zero}
use Rattle.edited.proofs.Read.{answer-is, text, old_text, accepted-new, accepted_old, new_reads, before-long}
use Rattle.edited.proofs.Read.{new_begins, as_many, others_read}

module _ {old : List ℕ} {k : ℕ} {new : List ℕ} (h : Edits old k new) where
  abbrev c : Cutting old k new
  c = cutting h

  abbrev z : Fresh c
  z = fresh h

  -- the new function is refused
  when_refused : (x : Refusal) → verdict c z ≡ refuses x → Demand3 old k new
  when_refused x e =
      let one : x.number ≡ 40 → ⊥ = λ n. h.whole (alone-refused c z x e ∙ n) in
      let no = not-accepted c z x e one in
      let same = same-refusal c z x e one in
      record {
        accepts_fresh = λ q. same.number ∙ q;
        fresh_accepts = λ q. absurd (no q);
        refuses = λ q. same;
        new_reads = λ q. absurd (no q);
        new_begins = λ q. absurd (no q);
        as_many = λ q. absurd (no q);
        others_read = λ q. absurd (no q);
      }

  module _ (g : Function) (table : List ℕ) (e : verdict c z ≡ accepts g table) where
    -- how many functions both texts have
    edited_many : (check_of (edited_text old k new)).answer.functions ≡ length (all c z)
    edited_many =
        ap (λ (t : List ℕ). (check_of t).answer.functions) c.edited_is
        ∙ functions_are (text c z g table e) (accepted-new c z g table e) ∙ as_many c z g table e

    old_many : (check_of old).answer.functions ≡ length (all c z)
    old_many =
        ap (λ (t : List ℕ). (check_of t).answer.functions) (sym c.old_is)
        ∙ functions_are (old_text c z g table e) (accepted_old c z g table e)

    new_one : reading_of (edited_text old k new) (check_of (edited_text old k new)) k
        ≡ reading_of new (rechecked_as old k new) 0
    new_one =
        let i : k ≡ length (accepted_as c z g table e).before' =
        omega (arith, before-long c z g table e, c.counted) in
        ap (λ (t : List ℕ). reading_of t (check_of t) k) c.edited_is
        ∙ ap (λ (j : ℕ). reading_of (text c z g table e) (check_of (text c z g table e)) j) i
        ∙ new_reads c z g table e ∙ ap (λ (r : Checking). reading_of new r 0) (sym (answer-is c z g table e))

    begins_there : begins_at (edited_text old k new) k ≡ begins_at old k
    begins_there =
        let i : k ≡ length (accepted_as c z g table e).before' =
        omega (arith, before-long c z g table e, c.counted) in
        ap (λ (t : List ℕ). begins_at t k) c.edited_is
        ∙ ap (λ (j : ℕ). begins_at (text c z g table e) j) i
        ∙ new_begins c z g table e ∙ sym c.begins

    other_ones : (j : ℕ) → j < (check_of old).answer.functions → (j ≡ k → ⊥)
        → moved_reading (edited_text old k new) (check_of (edited_text old k new)) j ≡ moved_reading old (check_of old) j
    other_ones j l other =
        ap (λ (t : List ℕ). moved_reading t (check_of t) j) c.edited_is
        ∙ others_read c z g table e j (omega (arith, l, old_many)) (λ q. other (q ∙ c.counted))
        ∙ ap (λ (t : List ℕ). moved_reading t (check_of t) j) c.old_is

    -- .. and accepted
    when_accepted : Demand3 old k new
    when_accepted =
        record {
          accepts_fresh = λ q. fresh-zero c z g table e;
          fresh_accepts = λ q. alone-zero c z g table e;
          refuses = λ q. absurd (q (fresh-zero c z g table e));
          new_reads = λ q. new_one;
          new_begins = λ q. begins_there;
          as_many = λ q. edited_many ∙ sym old_many;
          others_read = λ q. other_ones;
        }

  by_verdict : (v : Verdict) → verdict c z ≡ v → Demand3 old k new
  by_verdict (refuses x) e = when_refused x e
  by_verdict (accepts g table) e = when_accepted g table e

-- THE THEOREM
pub demand_3 : (old : List ℕ) (k : ℕ) (new : List ℕ) → Edits old k new → Demand3 old k new
demand_3 old k new h = by_verdict h (verdict (cutting h) (fresh h)) refl
