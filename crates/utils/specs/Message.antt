-- The message form of utils/src/lib.rs (document 01, "Numbers the reader answers with"):
-- `[line N] Error ITEM: TEXT` and a newline.
use Rattle.std.specs.Prelude.{ℕ, zero, suc, ◌+◌, ◌/◌, ◌%◌, List, [], ◌∷◌, ◌++◌, ltb}
use Rattle.utils.specs.Bytes.{pick, bytes}

-- n in decimal, of at most as many digits as the first number says
unfoldable pub digits : ℕ → ℕ → List ℕ
digits zero n = []
digits (suc most) n =
    let front = digits most (n / 10) in
    pick (ltb n 10) ((48 + n) ∷ []) (front ++ ((48 + n % 10) ∷ []))

-- N: a line is a number of 32 bits, which has at most ten digits
abbrev pub decimal : ℕ → List ℕ
decimal n = digits 10 n

-- `[line N] Error ITEM: TEXT` and a newline
unfoldable pub reported : ℕ → List ℕ → List ℕ → List ℕ
reported line item text =
    bytes "[line " ++ (decimal line ++ (bytes "] Error " ++ (item ++ (bytes ": " ++ (text ++ (10 ∷ []))))))
