-- A name of the new text is found by its spelling, and only that one: the names are distinct, and a number from their
-- count on has no spelling.
use Rattle.std.specs.Prelude.{Option, Some, None}
use Prim.Native.Nat.{ℕ, zero, suc, ◌+◌, ◌-◌, ◌*◌, ◌≤◌, ◌<◌}
use mathlib.Core.Path.{◌≡◌, refl, sym, ap, ◌∙◌}
use mathlib.Core.List.{List, [], ◌∷◌, ◌++◌}
use mathlib.Core.Bool.{Bool, true, false}
use native.Mathlib.Omega.{arith}
use borrow.Author.Tests.{ltb-true, ltb-false, le-leb, eqb-true, eq-eqb, ne_eqb}
use lib.Dec.{ltb, eqb}
use lib.ListN.{length, get_or, replicate, get_or-eq_default}
use lib.Seq.{slice_empty}
use Rattle.utils.specs.Bytes.{pick, pad_to, same_bytes}
use Rattle.pieces.proofs.Compare.{other_length}
use Rattle.pieces.proofs.Progress.{pick_either}
use Rattle.pieces.specs.declared.Identifier.{Identifier}
use Rattle.pieces.specs.declared.Token.{Token}
use Rattle.lexer.specs.Decoded.{name_of}
use Rattle.lexer.specs.Numbered.{Part, names_cells}
use Rattle.lexer.specs.Sound.{Sound}
use Rattle.lexer.proofs.Same.{same_bytes-true, same_bytes-false}
use Rattle.lexer.proofs.Cells.{length-names_cells, cells-name}
use Rattle.headers.specs.Spelled.{name_spelled, Named}

-- The search. --------------------------------------------------------------------------------------------------------

module _ (new names w : List ℕ) where
  abbrev FoundName : ℕ → ℕ → Option Identifier → Type 0
  FoundName n x (Some y) = (x ≤ y.0) × (y.0 < x + n) × (w ≡ name_of new names y.0)
  FoundName n x None = (z : ℕ) → x ≤ z → z < x + n → same_bytes w (name_of new names z) ≡ false

  none-later : (n x : ℕ) → same_bytes w (name_of new names x) ≡ false → FoundName n (x + 1) None
      → (z : ℕ) → x ≤ z → z < x + suc n → same_bytes w (name_of new names z) ≡ false
  none-later n x e h z l m = at (ltb x z) refl
    where
      at : (t : Bool) → ltb x z ≡ t → same_bytes w (name_of new names z) ≡ false
      at true q = h z (omega (arith, ltb-true x z q)) (omega arith)
      at false q =
          let k : z ≡ x = omega (arith, ltb-false x z q) in
          rw k e

  found-later : (n x : ℕ) (f : Option Identifier) → same_bytes w (name_of new names x) ≡ false → FoundName n (x + 1) f
      → FoundName (suc n) x f
  found-later n x (Some y) e h = (omega arith, omega arith, h.2)
  found-later n x None e h = none-later n x e h

  found_name : (n x : ℕ) → FoundName n x (name_spelled new names x n w)
  unfolding name_spelled
  found_name zero x = λ z l m. absurd (omega arith)
  found_name (suc n) x =
      let more = name_spelled new names (x + 1) n w in
      pick_either (FoundName (suc n) x) (same_bytes w (name_of new names x)) (Some record { 0 = x }) more
      (λ e. (omega arith, omega arith, same_bytes-true _ _ e))
      (λ e. found-later n x more e (found_name n (x + 1)))

-- What is found decides for every number. ----------------------------------------------------------------------------

-- whether each number is spelled so
abbrev pub Decides : List ℕ → List ℕ → List ℕ → Option Identifier → Type 0
Decides new names w (Some y) = (x : ℕ) → same_bytes w (name_of new names x) ≡ eqb y.0 x
Decides new names w None = (x : ℕ) → same_bytes w (name_of new names x) ≡ false

module _ (new names : List ℕ) (known : ℕ) (v : Named new names known) (w : List ℕ) (some : 1 ≤ length w) where
  -- a number that is spelled so is below the count
  below : (x : ℕ) → w ≡ name_of new names x → x < known
  below x e = at (ltb x known) refl
    where
      at : (t : Bool) → ltb x known ≡ t → x < known
      at true q = ltb-true x known q
      at false q =
          let n : length w ≡ 0 = ap length (e ∙ v.past x (ltb-false x known q)) in
          absurd (omega arith)

  one_number : (x y : ℕ) → w ≡ name_of new names x → w ≡ name_of new names y → x ≡ y
  one_number x y p q = at (ltb x y) (ltb y x) refl refl
    where
      at : (s t : Bool) → ltb x y ≡ s → ltb y x ≡ t → x ≡ y
      at true t e f = absurd (v.distinct x y (ltb-true x y e) (below y q) (sym p ∙ q))
      at false true e f = absurd (v.distinct y x (ltb-true y x f) (below x p) (sym q ∙ p))
      at false false e f = omega (arith, ltb-false x y e, ltb-false y x f)

  one_decides : (y x : ℕ) → w ≡ name_of new names y → same_bytes w (name_of new names x) ≡ eqb y x
  one_decides y x h = at (same_bytes w (name_of new names x)) refl
    where
      at : (t : Bool) → same_bytes w (name_of new names x) ≡ t → t ≡ eqb y x
      at true e = sym (eq-eqb y x (one_number y x h (same_bytes-true _ _ e)))
      at false e = sym (ne_eqb y x (λ q. same_bytes-false w (name_of new names x) e (rw q at h)))

  none_decides : FoundName new names w known 0 None → (x : ℕ) → same_bytes w (name_of new names x) ≡ false
  none_decides h x = at (ltb x known) refl
    where
      at : (t : Bool) → ltb x known ≡ t → same_bytes w (name_of new names x) ≡ false
      at true q = h x (omega arith) (omega (arith, ltb-true x known q))
      at false q = rw (v.past x (ltb-false x known q)) (other_length w [] (λ e. omega arith))

  decides : (f : Option Identifier) → FoundName new names w known 0 f → Decides new names w f
  decides (Some y) h = λ x. one_decides y.0 x h.2
  decides None h = none_decides h

  pub found_decides : Decides new names w (name_spelled new names 0 known w)
  found_decides = decides (name_spelled new names 0 known w) (found_name new names w known 0)

  -- a name that is spelled so is the one that is found
  pub spelled-found : (y : Identifier) → same_bytes w (name_of new names y.0) ≡ true
      → name_spelled new names 0 known w ≡ Some y
  spelled-found y e = from (name_spelled new names 0 known w) found_decides
    where
      from : (f : Option Identifier) → Decides new names w f → f ≡ Some y
      from (Some z) d = ap (λ (k : ℕ). Some record { 0 = k }) (eqb-true z.0 y.0 (sym (d y.0) ∙ e))
      from None d =
          let q : ◌≡◌ {A = Bool} false true = sym (d y.0) ∙ e in
          absurd (let z : ◌≡◌ {A = ℕ} 0 1 = cc in omega arith)

-- Names of an accepted reading. --------------------------------------------------------------------------------------

padded_cell : (l : List ℕ) (n i : ℕ) → get_or (l ++ replicate n 0) i 0 ≡ get_or l i 0
padded_cell [] zero i = refl
padded_cell [] (suc n) zero = refl
padded_cell [] (suc n) (suc i) = padded_cell [] n i
padded_cell (x ∷ l) n zero = refl
padded_cell (x ∷ l) n (suc i) = padded_cell l n i

-- zeros behind the cells are no matter
pub padded-name : (text names : List ℕ) (n x : ℕ) → name_of text (pad_to n names) x ≡ name_of text names x
unfolding name_of
padded-name text names n x =
    rw (padded_cell names (n - length names) (x * 2), padded_cell names (n - length names) (x * 2 + 1))

-- no record, no spelling
past_all : (text : List ℕ) (ns : List Part) (x : ℕ) → length ns ≤ x → name_of text (names_cells ns) x ≡ []
unfolding name_of pick
past_all text ns x h =
    let l : length (names_cells ns) ≡ length ns * 2 = length-names_cells ns in
    let place : get_or (names_cells ns) (x * 2) 0 ≡ 0 = get_or-eq_default (names_cells ns) 0 (omega arith) in
    let len : get_or (names_cells ns) (x * 2 + 1) 0 ≡ 0 = get_or-eq_default (names_cells ns) 0 (omega arith) in
    rw (place, len, le-leb 0 (length text) (omega arith)) (slice_empty 0 text)

pub accepted-named : (new : List ℕ) (line n : ℕ) (ts : List Token) (ns : List Part) → Sound new line ts ns
    → Named new (pad_to n (names_cells ns)) (length ns)
accepted-named new line n ts ns v =
    record {
      past = λ x h. padded-name new (names_cells ns) n x ∙ past_all new ns x h;
      distinct = λ x y l m e.
          let p = cells-name new n ns x (omega arith) v.within in
          let q = cells-name new n ns y m v.within in
          v.distinct x y l m (sym p ∙ e ∙ q);
    }
