-- A header takes two tokens or more, its name and its brace, and stays before the end token.
use Rattle.std.specs.Prelude.{Err, Ok, Result}
use Rattle.parser.specs.declared.Refusal.{Refusal}
use Prim.Native.Nat.{ℕ, zero, suc, ◌+◌, ◌≤◌}
use mathlib.Core.Path.{◌≡◌, refl}
use mathlib.Core.Bool.{Bool, true, false}
use mathlib.Core.List.{List}
use native.Mathlib.Omega.{arith}
use lib.Dec.{eqb}
use Rattle.pieces.proofs.Progress.{pick_either}
use Rattle.pieces.specs.declared.Identifier.{Identifier}
use Rattle.lexer.specs.Decoded.{Tok, token_at}
use Rattle.parser.specs.Step.{look, then_at, then_defined, then_type}
use Rattle.parser.specs.Grammar.{consume_d, type_d}
use Rattle.parser.specs.Runs.{Variables, stopped, formal_d, formals_from_d, formals_d}
use Rattle.parser.specs.declared.Ty.{Ty}
use Rattle.parser.specs.declared.Variable.{Variable}
use Rattle.body.proofs.Progress.{DefinedIn, moved, consume_step, named_step, type_step}
use Rattle.functions.specs.Known.{Known}
use Rattle.functions.specs.Functions.{HeaderAt, header, no_header, then_formals, then_entered, optional_formals}
use Rattle.functions.specs.Functions.{optional_type, entered_d, signature_d, header_d}

abbrev pub HeaderIn : ℕ → ℕ → HeaderAt → Type 0
HeaderIn from last (header h next) = (from + 2 ≤ next) × (next ≤ last)
HeaderIn from last (no_header e) = Unit

abbrev EndIn : ℕ → ℕ → Result ℕ Refusal → Type 0
EndIn from last (Ok next) = (from ≤ next) × (next ≤ last)
EndIn from last (Err e) = Unit

abbrev TypeIn : ℕ → ℕ → Result (Ty × ℕ) Refusal → Type 0
TypeIn from last (Ok (t, next)) = (from ≤ next) × (next ≤ last)
TypeIn from last (Err e) = Unit

abbrev EnteredIn : ℕ → ℕ → Result (ℕ × ℕ) Refusal → Type 0
EnteredIn from last (Ok (type, next)) = (from + 1 ≤ next) × (next ≤ last)
EnteredIn from last (Err e) = Unit

wider : (from from' last : ℕ) (c : Result ℕ Refusal) → from' ≤ from → EndIn from last c → EndIn from' last c
wider from from' last (Ok next) h g = (omega (arith, g.0), g.1)
wider from from' last (Err e) h g = tt

module _ (ts : List Tok) (last : ℕ) (ends : (token_at ts last).kind ≡ 38) where
  consumed_in : (at kind : ℕ) → at ≤ last → eqb kind 38 ≡ false → EndIn at last (consume_d ts at kind)
  unfolding consume_d look
  consumed_in at kind h n =
      pick_either (EndIn at last) (eqb (token_at ts at).kind kind) _ _
      (λ t. let m = moved ts last ends at kind h n t in rw m.0 (omega arith, m.1)) (λ t. tt)

  formal_in : (full : Bool) (at : ℕ) → at ≤ last → DefinedIn at last (formal_d ts full at)
  unfolding formal_d
  formal_in full at h =
      named_step ts last ends (DefinedIn at last) _ _ at 1 6 h refl (λ e. tt) (λ x g.
      pick_either (DefinedIn at last) full _ _ (λ t. tt) (λ t.
      consume_step ts last ends (DefinedIn at last) _ _ (at + 1) 29 g refl (λ e. tt) (λ f.
      type_step ts last ends (DefinedIn at last) _ _ (at + 1 + 1) f (λ e. tt) (λ y k. (omega arith, k)))))

  -- what follows a formal
  after_formal : (at : ℕ) (d : Result (Variable × ℕ) Refusal) (k : Variable → ℕ → Variables) → DefinedIn at last d
      → ((v : Variable) (next : ℕ) → at ≤ next → next ≤ last → EndIn at last (k v next).end)
      → EndIn at last (then_defined stopped d k).end
  unfolding then_defined
  after_formal at (Ok (v, next)) k h g = g v next (omega (arith, h.0)) h.1
  after_formal at (Err e) k h g = tt

  formals_from_lem : (room at : ℕ) → at ≤ last → EndIn at last (formals_from_d ts room at).end
  unfolding formals_from_d look
  formals_from_lem zero at h = after_formal at (formal_d ts true at) _ (formal_in true at h) (λ v next f g. tt)
  formals_from_lem (suc room) at h =
      after_formal at (formal_d ts false at) _ (formal_in false at h) (λ v next f g.
      pick_either (λ (r : Variables). EndIn at last r.end) (eqb (token_at ts next).kind 31) _ _
      (λ t.
      let m = moved ts last ends next 31 g refl t in
      rw m.0
      (wider (next + 1) at last (formals_from_d ts room (next + 1)).end (omega arith) (formals_from_lem room (next + 1)
      m.1)))
      (λ t. wider next at last (consume_d ts next 26) f (consumed_in next 26 g refl)))

  optional_formals_lem : (at : ℕ) → at ≤ last → EndIn at last (optional_formals ts at).end
  unfolding optional_formals formals_d look
  optional_formals_lem at h =
      pick_either (λ (r : Variables). EndIn at last r.end) (eqb (token_at ts at).kind 25) _ _
      (λ t.
      let m = moved ts last ends at 25 h refl t in
      rw m.0
      (pick_either (λ (r : Variables). EndIn at last r.end) (eqb (token_at ts (at + 1)).kind 26) _ _
      (λ u. let n = moved ts last ends (at + 1) 26 m.1 refl u in rw n.0 (omega arith, n.1))
      (λ u. wider (at + 1) at last (formals_from_d ts 16 (at + 1)).end (omega arith) (formals_from_lem 16 (at + 1) m.1))))
      (λ t. (omega arith, h))

  typed_in_lem : (at : ℕ) → at ≤ last → TypeIn at last (type_d ts at)
  unfolding type_d look
  typed_in_lem at h =
      pick_either (TypeIn at last) (eqb (token_at ts at).kind 32) _ _
      (λ t. let m = moved ts last ends at 32 h refl t in rw m.0 (omega arith, m.1))
      (λ s.
      pick_either (TypeIn at last) (eqb (token_at ts at).kind 33) _ _
      (λ t. let m = moved ts last ends at 33 h refl t in rw m.0 (omega arith, m.1)) (λ t. tt))

  type_wider : (from from' : ℕ) (c : Result (Ty × ℕ) Refusal) → from' ≤ from → TypeIn from last c → TypeIn from' last c
  type_wider from from' (Ok (y, next)) h g = (omega (arith, g.0), g.1)
  type_wider from from' (Err e) h g = tt

  optional_type_lem : (at : ℕ) → at ≤ last → TypeIn at last (optional_type ts at)
  unfolding optional_type look
  optional_type_lem at h =
      pick_either (TypeIn at last) (eqb (token_at ts at).kind 29) _ _
      (λ t.
      let m = moved ts last ends at 29 h refl t in
      rw m.0 (type_wider (at + 1) at (type_d ts (at + 1)) (omega arith) (typed_in_lem (at + 1) m.1)))
      (λ t. (omega arith, h))

  entered_in : (known : List Known) (types token : ℕ) (name : Identifier) (signed : List ℕ) (at : ℕ) → at ≤ last
      → EnteredIn at last (entered_d ts known types token name signed at)
  unfolding entered_d
  entered_in known types token name signed at h =
      pick_either (EnteredIn at last) _ _ _
      (λ t. consume_step ts last ends (EnteredIn at last) _ _ at 27 h refl (λ e. tt) (λ g. (omega arith, g)))
      (λ t. tt)

  -- what follows the formals, the type, the entry
  after_formals : (from at : ℕ) (r : Variables) (k : List Variable → ℕ → HeaderAt) → EndIn at last r.end
      → ((vs : List Variable) (next : ℕ) → at ≤ next → next ≤ last → HeaderIn from last (k vs next))
      → HeaderIn from last (then_formals no_header r k)
  unfolding then_formals then_at
  after_formals from at r k h g = by r.end h
    where
      by : (c : Result ℕ Refusal) → EndIn at last c → HeaderIn from last (then_at no_header c (λ i. k r.list i))
      by (Ok next) f = g r.list next f.0 f.1
      by (Err e) f = tt

  after_type : (from at : ℕ) (c : Result (Ty × ℕ) Refusal) (k : Ty → ℕ → HeaderAt) → TypeIn at last c
      → ((y : Ty) (next : ℕ) → at ≤ next → next ≤ last → HeaderIn from last (k y next))
      → HeaderIn from last (then_type no_header c k)
  unfolding then_type
  after_type from at (Ok (y, next)) k h g = g y next h.0 h.1
  after_type from at (Err e) k h g = tt

  after_entry : (from at : ℕ) (c : Result (ℕ × ℕ) Refusal) (k : ℕ → ℕ → HeaderAt) → EnteredIn at last c
      → ((type next : ℕ) → at + 1 ≤ next → next ≤ last → HeaderIn from last (k type next))
      → HeaderIn from last (then_entered no_header c k)
  unfolding then_entered
  after_entry from at (Ok (type, next)) k h g = g type next h.0 h.1
  after_entry from at (Err e) k h g = tt

  pub header_in : (full : Bool) (known : List Known) (types at : ℕ) → at ≤ last
      → HeaderIn at last (header_d ts full known types at)
  unfolding header_d signature_d
  header_in full known types at h =
      named_step ts last ends (HeaderIn at last) _ _ at 2 7 h refl (λ e. tt) (λ g k.
      pick_either (HeaderIn at last) full _ _ (λ t. tt) (λ t.
      after_formals at (at + 1) (optional_formals ts (at + 1)) _ (optional_formals_lem (at + 1) k) (λ vs at1 f1 g1.
      after_type at at1 (optional_type ts at1) _ (optional_type_lem at1 g1) (λ y at2 f2 g2.
      after_entry at at2 (entered_d ts known types at g _ at2) _ (entered_in known types at g _ at2 g2)
      (λ type next f3 g3.
      (omega arith, g3))))))
