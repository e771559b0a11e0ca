-- Prints: names whose prints differ differ; what is kept of the names before stays when a name is added.
use Rattle.std.specs.Prelude.{Result, Ok, Err}
use Prim.Native.Nat.{ℕ, suc, ◌+◌, ◌*◌, ◌≤◌, ◌<◌}
use mathlib.Core.Path.{◌≡◌, refl, sym, ap, ◌∙◌}
use mathlib.Core.Bool.{Bool, true, false}
use mathlib.Core.List.{List, [], ◌∷◌}
use native.Mathlib.Omega.{arith}
use borrow.Author.Tests.{ltb-true, ltb-false}
use lib.Dec.{ltb}
use lib.ListN.{length, get_or, set, length-set}
use lib.Seq.{sets, get_or-set_same, get_or-set_other}
use Rattle.utils.specs.Bytes.{same_bytes}
use Rattle.pieces.specs.declared.Cursor.{Cursor}
use Rattle.pieces.specs.declared.Name.{Name}
use Rattle.pieces.specs.declared.Token.{Token}
use Rattle.pieces.specs.declared.Lexed.{Lexed}
use Rattle.pieces.specs.declared.Lexed.TheVariants as L
use Rattle.lexer.specs.Numbered.{Part, identified}
use Rattle.lexer.specs.Steps.{print_of, spelled_at, Prints, next_name, next_of}
use Rattle.lexer.specs.declared.Identified.{Identified}
use Rattle.lexer.specs.declared.Identified.TheVariants as I
use Rattle.lexer.specs.declared.Next.{Next}
use Rattle.lexer.specs.declared.Next.TheVariants as N
use Rattle.lexer.proofs.Same.{same_bytes-true}
use Rattle.pieces.specs.declared.Refusal.{Refusal}

pub other-print : (x w : List ℕ) → (print_of x ≡ print_of w → ⊥) → false ≡ same_bytes x w
other-print x w h = by (same_bytes x w) refl
  where
    by : (b : Bool) → same_bytes x w ≡ b → false ≡ b
    by true e = absurd (h (ap print_of (same_bytes-true x w e)))
    by false e = refl

-- none is kept yet
pub no_prints : (text cells prints : List ℕ) → 1024 ≤ length prints → Prints text cells 0 prints
no_prints text cells prints h = record { room = h; each = λ k l. absurd (omega arith) }

get_or-below : (vs l : List ℕ) (at i : ℕ) → i < at → get_or (sets l at vs) i 0 ≡ get_or l i 0
get_or-below [] l at i h = refl
get_or-below (v ∷ vs) l at i h =
    get_or-below vs (set l at v) (suc at) i (omega arith) ∙ get_or-set_other l at i v 0 (λ e. omega (arith, e))

-- cells stored behind the names leave them
pub prints_kept : {text cells prints : List ℕ} {count : ℕ} (vs cells' : List ℕ) → cells' ≡ sets cells (count * 2) vs
    → Prints text cells count prints → Prints text cells' count prints
prints_kept {text} {cells} {prints} {count} vs cells' e h =
    record {
      room = h.room;
      each = λ k l.
          let p : get_or cells' (k * 2) 0 ≡ get_or cells (k * 2) 0 =
          rw e (get_or-below vs cells (count * 2) (k * 2) (omega arith)) in
          let q : get_or cells' (k * 2 + 1) 0 ≡ get_or cells (k * 2 + 1) 0 =
          rw e (get_or-below vs cells (count * 2) (k * 2 + 1) (omega arith)) in
          h.each k l ∙ rw (p, q);
    }

-- one more
pub prints_more : {text cells prints : List ℕ} {count : ℕ} (then print : ℕ) (prints' : List ℕ)
    → count < then → then ≤ count + 1 → then ≤ 1024 → print ≡ print_of (spelled_at text cells count)
    → prints' ≡ set prints count print → Prints text cells count prints → Prints text cells then prints'
prints_more {text} {cells} {prints} {count} then print prints' more one few is e h =
    record { room = rw (e, length-set prints count print) h.room; each = λ k l. by k l (ltb k count) refl }
  where
    by : (k : ℕ) → k < then → (b : Bool) → ltb k count ≡ b → get_or prints' k 0 ≡ print_of (spelled_at text cells k)
    by k l true t =
        let below = ltb-true k count t in
        rw e (get_or-set_other prints count k print 0 (λ q. omega (arith, q, below))) ∙ h.each k below
    by k l false t =
        let same : k ≡ count = omega (arith, ltb-false k count t) in
        rw (same, e) (get_or-set_same prints count print 0 (omega (arith, h.room))) ∙ is ∙ rw same

pub prints_as : {text cells prints : List ℕ} {count : ℕ} (then : ℕ) → then ≤ count → Prints text cells count prints
    → Prints text cells then prints
prints_as then l h = record { room = h.room; each = λ k q. h.each k (omega arith) }

-- a token brings one name at most
known_by : (count : ℕ) (m : Name) (c c' : Cursor) (u : Token) (k : ℕ) (i : Result Identified Refusal)
    → next_name count m c i ≡ Ok (N.Token u c' k) → k ≤ count + 1
known_by count m c c' u k (Ok (I.Known i)) e = let q : count ≡ k = cc in omega arith
known_by count m c c' u k (Ok (I.New i)) e = let q : count + 1 ≡ k = cc in omega arith
known_by count m c c' u k (Err r) e = absurd (let z : ◌≡◌ {A = ℕ} 0 1 = cc in omega arith)

pub known_more : (s : List ℕ) (ps : List Part) (count : ℕ) (p : Result Lexed Refusal) {r : Result Next Refusal}
    {u : Token} {c : Cursor} {k : ℕ}
    → r ≡ next_of s ps count p → r ≡ Ok (N.Token u c k) → k ≤ count + 1
unfolding next_of
known_more s ps count (Ok (L.Skipped c)) e h = absurd (let z : ◌≡◌ {A = ℕ} 0 1 = cc in omega arith)
known_more s ps count (Ok (L.Name m c)) {u = u} {c = c'} {k = k} e h =
    known_by count m c c' u k (identified s ps m) (sym e ∙ h)
known_more s ps count (Ok (L.Token t c)) {k = k} e h = let q : count ≡ k = cc in omega arith
known_more s ps count (Ok (L.End c)) e h = absurd (let z : ◌≡◌ {A = ℕ} 0 1 = cc in omega arith)
known_more s ps count (Err r) e h = absurd (let z : ◌≡◌ {A = ℕ} 0 1 = cc in omega arith)
