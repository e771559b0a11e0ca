-- How the check of a text ends, over plain variables.
use Rattle.std.specs.Prelude.{Err, Ok}
use Prim.Native.Nat.{ℕ, ◌*◌}
use mathlib.Core.Path.{◌≡◌, refl, sym, ap, subst, ◌∙◌}
use mathlib.Core.List.{List, []}
use mathlib.Core.Bool.{Bool, true, false}
use native.Mathlib.Omega.{arith}
use borrow.Author.Tests.{eq-eqb, ne_eqb}
use lib.ListN.{length, take}
use Rattle.utils.specs.Bytes.{pick, pad_to}
use Rattle.lexer.specs.Read.{Reading, read_from, read_of, ReadsInto}
use Rattle.lexer.specs.Decoded.{tokens_of, token_at}
use Rattle.lexer.specs.declared.TokenAt.{TokenAt}
use Rattle.messages.specs.Messages.{message_of}
use Rattle.lexer.proofs.Promise.{message_finished}
use Rattle.body.specs.Room.{Within}
use Rattle.lexer.specs.declared.ReadAnswer.{ReadAnswer}
use Rattle.parser.specs.declared.Refusal.{Refusal}
use Rattle.functions.specs.Answer.{Slices, slices, held, counts_from}
use Rattle.functions.specs.declared.Counts.{Counts}
use Rattle.functions.specs.declared.UnitSlices.{UnitSlices}
use Rattle.unit.specs.Outcome.{UnitOutcome, checked, refused, unit_d, unit_read, unit_slices, as_long, fronts, none}
use Rattle.unit.specs.Outcome.{UnitHeld}
use Rattle.checker.specs.Check.{Checking, accepted, check_refusal, refusing, refused_at, checked_or, check_of}
use Rattle.checker.specs.Promise.{checking, padded, sized, sized_unit, all_sized, check_def, Lexed}
use Rattle.checker.specs.Promise.{gated, Gives, Checks, ChecksInto, Finishes}
use Rattle.checker.specs.declared.CheckAnswer.{CheckAnswer}
use Rattle.checker.specs.Numbers.{Listed}
use Rattle.checker.proofs.Lexed.{within}
use Rattle.checker.proofs.Numbers.{IfRefused, unit-listed, listed_above}

-- answers and slices that are equal part by part
pub same-checking : {r r' : CheckAnswer} {m m' t t' n n' : List ℕ} {u u' : Slices}
    → r ≡ r' → m ≡ m' → t ≡ t' → n ≡ n' → u ≡ u'
    → checking r m t n u ≡ checking r' m' t' n' u'
same-checking e₁ e₂ e₃ e₄ e₅ = rw (e₁, e₂, e₃, e₄, e₅)

pub same-slices : {f i a b p f' i' a' b' p' : List ℕ} → f ≡ f' → i ≡ i' → a ≡ a' → b ≡ b' → p ≡ p'
    → slices f i a b p ≡ slices f' i' a' b' p'
same-slices e₁ e₂ e₃ e₄ e₅ = rw (e₁, e₂, e₃, e₄, e₅)

-- A text that is read; its first line has any number. ---------------------------------------------------------------

module _ {line : ℕ} {text t n : List ℕ} {r : ReadAnswer} (v : Lexed line text r t n) (m₀ m : List ℕ) where
  abbrev read : Reading
  read = read_from line text

  -- an acceptance, with so many records and these slices
  pub accepted_as : (k k' : Counts) (u w : Slices) → k ≡ k' → fronts k' u ≡ w
      → ChecksInto
      (checking (accepted read.answer.tokens read.answer.names k') [] read.tokens read.names w)
      m₀ (accepted r.tokens r.names k) m t n u
  unfolding pick
  accepted_as k k' u w e q =
      rw e (record {
        answer = rw v.answer;
        message = λ f. absurd (f refl);
        tokens = v.tokens;
        names = v.names;
        unit = q;
      })

-- a refusal: its answer and its message, whatever the slices hold
pub refused-into : (o : Checking) (m₀ m t n : List ℕ) (u : Slices) (number line place : ℕ) (message : List ℕ)
    → o ≡ refusing number line place message → (number ≡ 0 → ⊥) → m ≡ pad_to (length m₀) message
    → ChecksInto o m₀ (check_refusal number line place) m t n u
unfolding pick
refused-into o m₀ m t n u number line place message e some h =
    rw e (record {
      answer = refl;
      message = λ _. h;
      tokens = refl;
      names = refl;
      unit = rw (ne_eqb number 0 some);
    })

-- a refusal by parts of the slices, tk and nm, that are the cells in use
pub refuses-by-cells : (text m₀ : List ℕ) (e : Refusal) (tk nm tk' nm' : List ℕ) → tk ≡ tk' → nm ≡ nm'
    → (x : TokenAt) → x ≡ token_at (tokens_of tk) e.token
    → (res : CheckAnswer) (m : List ℕ) → res ≡ check_refusal e.number x.line.0 x.place
    → m ≡ pad_to (length m₀) (message_of text (tokens_of tk) nm e)
    → (res ≡ (refused_at text nm' (tokens_of tk') e).answer)
    × (m ≡ pad_to (length m₀) (refused_at text nm' (tokens_of tk') e).message)
refuses-by-cells text m₀ e tk nm tk' nm' p q x w res m a b =
    rw (← p, ← q) (a ∙ ap (λ (y : TokenAt). check_refusal e.number y.line.0 y.place) w, b)

-- its functions, by the cells in use
module _ {text t n : List ℕ} {r : ReadAnswer} (v : Lexed 1 text r t n) (m₀ m : List ℕ) (tk nm : List ℕ)
    (tk-is : tk ≡ (read_from 1 text).tokens) (nm-is : nm ≡ (read_from 1 text).names) where
  goes_on : check_of text ≡ checked_or text (read_from 1 text) (tokens_of tk) (unit_d (tokens_of tk))
  unfolding check_of read_of pick
  goes_on = rw (eq-eqb _ _ (sym (ap (λ (a : ReadAnswer). a.number) v.answer) ∙ v.fine), tk-is)

  accepts-by : (k : Counts) (u : Slices) (o : UnitOutcome) → Ok k ≡ unit_read o → UnitHeld (tokens_of tk) nm u o
      → ChecksInto (checked_or text (read_from 1 text) (tokens_of tk) o) m₀ (accepted r.tokens r.names k) m t n u
  accepts-by k u (checked fs) h e =
      let counts-are : k ≡ counts_from none fs = cc in
      accepted_as v m₀ m k (counts_from none fs) u (unit_slices (tokens_of tk) (read_from 1 text).names (checked fs))
      counts-are (e ∙ ap (λ (x : List ℕ). unit_slices (tokens_of tk) x (checked fs)) nm-is)
  accepts-by k u (refused e') h e = absurd (let z : ◌≡◌ {A = ℕ} 0 1 = cc in omega arith)

  pub ends-accepted : (k : Counts) (u : Slices) → Ok k ≡ unit_read (unit_d (tokens_of tk))
      → UnitHeld (tokens_of tk) nm u (unit_d (tokens_of tk))
      → ChecksInto (check_of text) m₀ (accepted r.tokens r.names k) m t n u
  ends-accepted k u h e = rw goes_on (accepts-by k u (unit_d (tokens_of tk)) h e)

  refuses-by : (e : Refusal) (o : UnitOutcome) → Err e ≡ unit_read o → IfRefused o
      → (checked_or text (read_from 1 text) (tokens_of tk) o ≡ refused_at text (read_from 1 text).names (tokens_of tk) e)
      × Listed e.number
  refuses-by e (checked fs) h g = absurd (let z : ◌≡◌ {A = ℕ} 0 1 = cc in omega arith)
  refuses-by e (refused e') h g =
      let same : e ≡ e' = cc in
      rw same (refl, g)

  pub ends-refused : (e : Refusal) (res : CheckAnswer) (u : Slices) → Err e ≡ unit_read (unit_d (tokens_of tk))
      → res ≡ (refused_at text (take (r.names * 2) n) (tokens_of (take (r.tokens * 4) t)) e).answer
      → m ≡ pad_to (length m₀) (refused_at text (take (r.names * 2) n) (tokens_of (take (r.tokens * 4) t)) e).message
      → ChecksInto (check_of text) m₀ res m t n u
  ends-refused e res u h a b =
      let k = refuses-by e (unit_d (tokens_of tk)) h
      (unit-listed (tokens_of tk) (subst (λ (x : List ℕ). Within (tokens_of x) 0) (sym tk-is) (within v))) in
      rw (a, v.tokens)
      (refused-into (check_of text) m₀ m t n u _ _ _ _
      (goes_on ∙ k.0 ∙ ap (λ (x : List ℕ). refused_at text (read_from 1 text).names (tokens_of x) e) tk-is)
      (λ z. omega (arith, z, listed_above _ k.1)) (rw (v.tokens, v.names) at b))

-- Once `read_into` is done. -----------------------------------------------------------------------------------------

module _ (line : ℕ) (text m₀ : List ℕ) (r : ReadAnswer) (t n m : List ℕ)
    (reads : ReadsInto (read_from line text) m₀ r t n m) where
  pub is-lexed : r.number ≡ 0 → Lexed line text r t n
  is-lexed z = record { answer = reads.answer; fine = z; tokens = reads.tokens; names = reads.names }

  abbrev unread_as : Checking
  unread_as =
      refusing (read_from line text).answer.number (read_from line text).answer.line
      (read_from line text).answer.place (read_from line text).message

  pub not-read : (r.number ≡ 0 → ⊥) → (read_from line text).answer.number ≡ 0 → ⊥
  not-read z q = z (ap (λ (a : ReadAnswer). a.number) reads.answer ∙ q)

  pub unread_into : (o : Checking) → o ≡ unread_as → (r.number ≡ 0 → ⊥) → (u : Slices)
      → ChecksInto o m₀ (check_refusal r.number r.line r.place) m t n u
  unread_into o e z u =
      refused-into o m₀ m t n u r.number r.line r.place (read_from line text).message
      (e ∙ rw reads.answer) z (reads.message z)

pub not-lexed : (text m₀ : List ℕ) (r : ReadAnswer) (t n m : List ℕ) → ReadsInto (read_from 1 text) m₀ r t n m
    → (r.number ≡ 0 → ⊥) → (u : Slices)
    → ChecksInto (check_of text) m₀ (check_refusal r.number r.line r.place) m t n u
unfolding check_of read_of pick
not-lexed text m₀ r t n m reads z u =
    unread_into 1 text m₀ r t n m reads (check_of text) (rw (ne_eqb _ _ (not-read 1 text m₀ r t n m reads z))) z u

-- a message's slice that was as long before
pub as_long-before : (o : Checking) (m₀ m₁ : List ℕ) (r : CheckAnswer) (m t n : List ℕ) (u : Slices)
    → length m₁ ≡ length m₀ → ChecksInto o m₁ r m t n u → ChecksInto o m₀ r m t n u
as_long-before o m₀ m₁ r m t n u l h =
    record {
      answer = h.answer;
      message = λ z. h.message z ∙ ap (λ (k : ℕ). pad_to k o.message) l;
      tokens = h.tokens;
      names = h.names;
      unit = h.unit;
    }

-- What is left is to clear what stands behind. ----------------------------------------------------------------------

-- slices of the same lengths
pub same-long : (s₁ s : Slices) → length s₁.functions ≡ length s.functions
    → length s₁.items ≡ length s.items → length s₁.arguments ≡ length s.arguments
    → length s₁.blocks ≡ length s.blocks → length s₁.predecessors ≡ length s.predecessors
    → (x : Slices) → as_long s₁ x ≡ as_long s x
same-long s₁ s k₁ k₂ k₃ k₄ k₅ x = rw (k₁, k₂, k₃, k₄, k₅)

pub finished : (o : Checking) (m₀ t₀ n₀ : List ℕ) (u₀ : Slices) (r : CheckAnswer) (m t n : List ℕ) (u : Slices)
    (m' t' n' : List ℕ) (u' : Slices) → (o.answer.number ≡ 0 → o.message ≡ []) → ChecksInto o m₀ r m t n u
    → length m ≡ length m₀ → length t ≡ length t₀ → length n ≡ length n₀
    → ((x : Slices) → as_long u x ≡ as_long u₀ x) → Finishes r m t n u m' t' n' u'
    → checking r m' t' n' u' ≡ padded m₀ t₀ n₀ u₀ o
finished o m₀ t₀ n₀ u₀ r m t n u m' t' n' u' silent h lm lt ln lu f =
    let number = ap (λ (a : CheckAnswer). a.number) h.answer in
    let message =
    message_finished r.number o.message m₀ m m' (λ z. silent (sym number ∙ z)) h.message lm f.message in
    same-checking h.answer message (f.tokens ∙ rw (lt, h.tokens)) (f.names ∙ rw (ln, h.names))
    (f.unit ∙ ap (as_long u) h.unit ∙ lu o.unit)

-- The gate. ---------------------------------------------------------------------------------------------------------

pub by_parts : {d : Checking} {r : CheckAnswer} {m t n : List ℕ} {u : Slices} → checking r m t n u ≡ d → Gives d r m t
    n u
by_parts e =
    record {
      answer = ap (λ (x : Checking). x.answer) e;
      message = ap (λ (x : Checking). x.message) e;
      tokens = ap (λ (x : Checking). x.tokens) e;
      names = ap (λ (x : Checking). x.names) e;
      unit = ap (λ (x : Checking). x.unit) e;
    }

-- the slices that were lent together, when each is the caller's again
pub given_back : {d : Checking} {r : CheckAnswer} {m t n f i a b p : List ℕ} (v : UnitSlices) → Gives d r m t n (held v)
    → f ≡ v.functions.now → i ≡ v.items.now → a ≡ v.arguments.now → b ≡ v.blocks.now → p ≡ v.predecessors.now
    → Gives d r m t n (slices f i a b p)
given_back v g e₁ e₂ e₃ e₄ e₅ = rw (e₁, e₂, e₃, e₄, e₅) g

pub as_whole : {d : Checking} {r : CheckAnswer} {m t n : List ℕ} {u : Slices} → Gives d r m t n u → checking r m t n u
    ≡ d
as_whole g = same-checking g.answer g.message g.tokens g.names g.unit

-- the gate before any answer o
module _ (o : Checking) (m t n : List ℕ) (u : Slices) (unit ok : Bool)
    (unit-is : unit ≡ sized_unit (length u.functions) (length u.items) (length u.arguments) (length u.blocks)
    (length u.predecessors)) (ok-is : ok ≡ sized (length m) (length t) (length n) unit) where
  sized-is : ok ≡ all_sized m t n u
  sized-is = ok-is ∙ ap (λ (b : Bool). sized (length m) (length t) (length n) b) unit-is

  pub works : ok ≡ true → (r : CheckAnswer) (m' t' n' : List ℕ) (u' : Slices)
      → checking r m' t' n' u' ≡ padded m t n u o → Gives (gated m t n u o) r m' t' n' u'
  unfolding pick
  works h r m' t' n' u' e = by_parts (e ∙ rw (← sized-is, h))

  pub shorts : ok ≡ false → (r : CheckAnswer) → r ≡ check_refusal 30 0 0 → Gives (gated m t n u o) r m t n u
  unfolding pick
  shorts h r e = by_parts (rw (← sized-is, h, e))

-- what one definition permits is equal
pub gives_equal : {d : Checking} {r r' : CheckAnswer} {m t n m' t' n' : List ℕ} {u u' : Slices}
    → Gives d r m t n u → Gives d r' m' t' n' u' → checking r m t n u ≡ checking r' m' t' n' u'
gives_equal a b = as_whole a ∙ sym (as_whole b)

-- TWO PERMITTED ANSWERS ARE EQUAL
pub permitted_equal : (text m₀ t₀ n₀ : List ℕ) (u₀ : Slices) {r r' : CheckAnswer} {m t n m' t' n' : List ℕ}
    {u u' : Slices}
    → Checks text m₀ t₀ n₀ u₀ r m t n u → Checks text m₀ t₀ n₀ u₀ r' m' t' n' u'
    → checking r m t n u ≡ checking r' m' t' n' u'
permitted_equal text m₀ t₀ n₀ u₀ a b = gives_equal a b

pub record SameLengths (m₀ t₀ n₀ : List ℕ) (u₀ : Slices) (m₁ t₁ n₁ : List ℕ) (u₁ : Slices) : Type 0 where
  pub message : length m₀ ≡ length m₁
  pub tokens : length t₀ ≡ length t₁
  pub names : length n₀ ≡ length n₁
  pub functions : length u₀.functions ≡ length u₁.functions
  pub items : length u₀.items ≡ length u₁.items
  pub arguments : length u₀.arguments ≡ length u₁.arguments
  pub blocks : length u₀.blocks ≡ length u₁.blocks
  pub predecessors : length u₀.predecessors ≡ length u₁.predecessors

-- slices of equal lengths that have their sizes, whatever they held before
pub same-gated : (o : Checking) {m₀ t₀ n₀ m₁ t₁ n₁ : List ℕ} {u₀ u₁ : Slices} {r r' : CheckAnswer}
    {m t n m' t' n' : List ℕ}
    {u u' : Slices}
    → all_sized m₀ t₀ n₀ u₀ ≡ true → SameLengths m₀ t₀ n₀ u₀ m₁ t₁ n₁ u₁
    → Gives (gated m₀ t₀ n₀ u₀ o) r m t n u → Gives (gated m₁ t₁ n₁ u₁ o) r' m' t' n' u'
    → checking r m t n u ≡ checking r' m' t' n' u'
unfolding pick
same-gated o s l a b =
    rw (
      as_whole a,
      as_whole b,
      ← l.message,
      ← l.tokens,
      ← l.names,
      ← l.functions,
      ← l.items,
      ← l.arguments,
      ← l.blocks,
      ← l.predecessors,
      s,
    )

-- EQUAL TEXTS AND LENGTHS GIVE EQUAL ANSWERS, whatever the slices held before
pub same_text : (text : List ℕ) {m₀ t₀ n₀ m₁ t₁ n₁ : List ℕ} {u₀ u₁ : Slices} {r r' : CheckAnswer}
    {m t n m' t' n' : List ℕ} {u u' : Slices}
    → all_sized m₀ t₀ n₀ u₀ ≡ true → SameLengths m₀ t₀ n₀ u₀ m₁ t₁ n₁ u₁
    → Checks text m₀ t₀ n₀ u₀ r m t n u → Checks text m₁ t₁ n₁ u₁ r' m' t' n' u'
    → checking r m t n u ≡ checking r' m' t' n' u'
unfolding check_def
same_text text s l a b = same-gated (check_of text) s l a b
