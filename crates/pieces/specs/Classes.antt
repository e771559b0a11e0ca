-- The bytes of a text and their classes (document 01, "Text to tokens").
use Rattle.std.specs.Prelude.{ℕ, List, [], ◌∷◌, Bool, true, false, ltb, leb, eqb}
use Rattle.utils.specs.Bytes.{pick}

-- Blank: space, tab, CR. (Newline is blank too, and adds 1 to the line: `piece_at`.)
unfoldable pub is_blank : ℕ → Bool
is_blank b = pick (eqb b 32) true (pick (eqb b 9) true (eqb b 13))

unfoldable pub is_digit : ℕ → Bool
is_digit b = pick (leb 48 b) (leb b 57) false

unfoldable pub is_letter : ℕ → Bool
is_letter b = pick (leb 97 b) (leb b 122) (pick (leb 65 b) (leb b 90) false)

-- Then letters, digits, `_`.
unfoldable pub is_name_part : ℕ → Bool
is_name_part b = pick (is_letter b) true (pick (is_digit b) true (eqb b 95))

-- Only ASCII input is supported: no byte above 127.
unfoldable pub is_ascii : List ℕ → Bool
is_ascii [] = true
is_ascii (b ∷ r) = let more = is_ascii r in pick (ltb 127 b) false more
