-- What put_message asks of the names' cells holds of those of an accepted reading: no name is longer than 64 bytes.
use Prim.Native.Nat.{ℕ, zero, suc, ◌+◌, ◌-◌, ◌*◌, ◌≤◌}
use mathlib.Core.Path.{◌≡◌, refl}
use mathlib.Core.List.{List, [], ◌∷◌, ◌++◌}
use mathlib.Core.Bool.{Bool, true, false}
use native.Mathlib.Omega.{arith}
use borrow.Author.Tests.{leb-true}
use lib.Dec.{leb}
use lib.ListN.{length, get_or, replicate}
use lib.Seq.{slice, length-slice}
use Rattle.utils.specs.Bytes.{pick, pad_to}
use Rattle.lexer.specs.Decoded.{name_of}
use Rattle.lexer.specs.Numbered.{Part, names_cells}
use Rattle.lexer.specs.Sound.{Each, InText, no_part, Sound}
use Rattle.pieces.specs.declared.Token.{Token}
use Rattle.messages.specs.Messages.{ShortNames}

-- a name is as long as its record says, or empty
name_length : (s names : List ℕ) (i : ℕ) → length (name_of s names i) ≤ get_or names (i * 2 + 1) 0
unfolding name_of pick
name_length s names i = by_test (leb (place + len) (length s)) refl
  where
    place : ℕ
    place = get_or names (i * 2) 0

    len : ℕ
    len = get_or names (i * 2 + 1) 0

    by_test : (b : Bool) → leb (place + len) (length s) ≡ b
        → length (pick (leb (place + len) (length s)) (slice place (place + len) s) []) ≤ len
    by_test true e =
        rw e (omega (arith, length-slice place (place + len) s (leb-true _ _ e)))
    by_test false e = rw e (omega arith)

zeros : (m i : ℕ) → ◌≡◌ {A = ℕ} (get_or (replicate m 0) i 0) 0
zeros zero i = refl
zeros (suc m) zero = refl
zeros (suc m) (suc i) = zeros m i

cell_short : (s : List ℕ) (ns : List Part) (m : ℕ) → Each no_part (InText s) ns → (i : ℕ)
    → get_or (names_cells ns ++ replicate m 0) (i * 2 + 1) 0 ≤ 64
unfolding names_cells
cell_short s [] m w i = omega (arith, zeros m (i * 2 + 1))
cell_short s (p ∷ ps) m w zero = (w zero (omega arith)).1
cell_short s (p ∷ ps) m w (suc i) =
    let e : suc i * 2 + 1 ≡ suc (suc (i * 2 + 1)) = omega arith in
    rw e (cell_short s ps m (λ j h. w (suc j) (omega arith)) i)

pub short-names : (s : List ℕ) (line n : ℕ) (ts : List Token) (ns : List Part) → Sound s line ts ns
    → ShortNames s (pad_to n (names_cells ns))
short-names s line n ts ns w i =
    let names = pad_to n (names_cells ns) in
    omega (
      arith,
      name_length s names i,
      cell_short s ns (n - length (names_cells ns)) w.within i,
    )
