-- Bytes, choices and padded buffers: the words that the definitions of every crate are written in.
use Rattle.std.specs.Prelude.{ℕ, ◌-◌, List, [], ◌∷◌, ◌++◌, Bool, true, false, eqb, length, drop, replicate}
use Prim.Native.Char.{code}
use Prim.Native.String.{String}
use Prim.Native.String as Str

-- one of two, by a test
unfoldable pub pick : {A : Type 0} → Bool → A → A → A
pick true a b = a
pick false a b = b

-- the bytes of an ASCII text
abbrev pub bytes : String → List ℕ
bytes Str.[] = []
bytes (Str.◌∷◌ c s) = code c ∷ bytes s

-- a list, and zeros after it up to a length
abbrev pub pad_to : ℕ → List ℕ → List ℕ
pad_to n l = l ++ replicate (n - length l) 0

-- a list over the front of another: what it doesn't reach stays
abbrev pub over : List ℕ → List ℕ → List ℕ
over s l = l ++ drop (length l) s

-- whether two lists of bytes are the same
unfoldable pub same_bytes : List ℕ → List ℕ → Bool
same_bytes [] [] = true
same_bytes [] (y ∷ ys) = false
same_bytes (x ∷ xs) [] = false
same_bytes (x ∷ xs) (y ∷ ys) = let more = same_bytes xs ys in pick (eqb x y) more false
