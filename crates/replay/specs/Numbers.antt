-- A number is decimal, with any other bytes before and behind it; `#` begins a comment that runs to the line's end.
-- A byte follows every number of a good file. So a place that is the file's length says that the file is malformed.
use Rattle.std.specs.Prelude.{ℕ, ◌+◌, ◌-◌, ◌*◌, ◌%◌, Bool, false, not, ◌&&◌, ◌||◌, List, [], ◌∷◌, length, drop, ◌==◌, if◌then◌else◌}
use Rattle.std.specs.Char.{is_ascii_digit}
use Rattle.replay.specs.declared.Number.{Number}

abbrev pub number : ℕ → ℕ → Number
number value next = record { value = value; next = next }

-- whether a byte stands in a comment, by whether the byte before it did
abbrev pub in_comment : Bool → ℕ → Bool
in_comment before b = not (b == 10) && (b == 35 || before)

-- what is left of the file from the next digit on that stands in no comment
unfoldable pub to_digit : Bool → List ℕ → List ℕ
to_digit before [] = []
to_digit before (b ∷ r) =
    let comment = in_comment before b in
    let more = to_digit comment r in
    if is_ascii_digit b && not comment then b ∷ r else more

-- the digits that stand first
unfoldable pub digits_of : List ℕ → List ℕ
digits_of [] = []
digits_of (b ∷ r) = let more = digits_of r in if is_ascii_digit b then b ∷ more else []

-- the number that digits spell, behind those that spell n
unfoldable pub decimal : ℕ → List ℕ → ℕ
decimal n [] = n
decimal n (b ∷ r) = decimal (n * 10 + (b - 48)) r

-- The number at a place or next behind it, to 32 bits, and the place behind its digits. Where no byte follows, it is 0.
unfoldable pub number_at : List ℕ → ℕ → Number
number_at s from =
    let left = to_digit false (drop from s) in
    let digits = digits_of left in
    let next = length s - length left + length digits in
    if next == length s then number 0 (length s) else number (decimal 0 digits % 4294967296) next
