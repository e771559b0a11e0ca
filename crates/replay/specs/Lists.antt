-- A list begins with how many runs it has. A run is TIMES, WIDTH, and WIDTH values, which stand once; where TIMES is
-- above 1, WIDTH steps follow, and the values stand TIMES times, each time larger by the steps than the time before.
-- The values of a list of bytes stand between quotes, behind a blank.
use Rattle.std.specs.Prelude.{◌≡◌, ℕ, zero, suc, ◌+◌, ◌-◌, ◌*◌, ◌%◌, min, List, [], ◌∷◌, ◌++◌, length, ◌==◌, nat_le, nat_lt, if◌then◌else◌, slice_index}
use Rattle.std.proofs.lemmas.List.Edits.{sets}
use Rattle.std.specs.Char.{is_ascii_digit}
use Rattle.replay.specs.Numbers.{number, number_at}
use Rattle.replay.specs.declared.Number.{Number}
use Rattle.replay.specs.declared.Loaded.{Loaded}
use Rattle.replay.specs.declared.lists.Kind.{Kind}
use Rattle.replay.specs.declared.lists.Kind.TheVariants.{Numbers, Bytes}

-- what was read, and the place behind it
pub record Values : Type 0 where
  pub cells : List ℕ
  pub next : ℕ

abbrev pub values : List ℕ → ℕ → Values
values cells next = record { cells = cells; next = next }

-- The value of a hexadecimal digit. The low four bits of a letter, large or small, are its place in the alphabet.
unfoldable pub hex_of : ℕ → ℕ
hex_of b = if is_ascii_digit b then b - 48 else (b + 9) % 16

-- `\` and two hexadecimal digits
unfoldable pub escaped_at : List ℕ → ℕ → Number
escaped_at s at =
    if nat_le (at + 3) (length s)
    then number (hex_of (slice_index s (at + 1)) * 16 + hex_of (slice_index s (at + 2))) (at + 3)
    else number 0 (length s)

-- a byte between quotes: as itself, or escaped
unfoldable pub byte_at : List ℕ → ℕ → Number
byte_at s at =
    if nat_le (length s) at
    then number 0 (length s)
    else (if slice_index s at == 92 then escaped_at s at else number (slice_index s at) (at + 1))

abbrev pub value_at : Kind → List ℕ → ℕ → Number
value_at Numbers s at = number_at s at
value_at Bytes s at = byte_at s at

-- so many values, one behind the other
unfoldable pub values_at : Kind → List ℕ → ℕ → ℕ → Values
values_at kind s zero at = values [] at
values_at kind s (suc n) at =
    let one = value_at kind s at in
    let more = values_at kind s n one.next in
    values (one.value ∷ more.cells) more.next

-- each value larger by its step, to 32 bits
unfoldable pub stepped : List ℕ → List ℕ → List ℕ
stepped [] steps = []
stepped (x ∷ xs) [] = []
stepped (x ∷ xs) (d ∷ ds) = (x + d) % 4294967296 ∷ stepped xs ds

-- the values so many times, each time larger by the steps than the time before
unfoldable pub repeated : ℕ → List ℕ → List ℕ → List ℕ
repeated zero xs steps = []
repeated (suc n) xs steps = xs ++ repeated n (stepped xs steps) steps

-- where values begin behind their WIDTH
abbrev pub behind_quote : Kind → List ℕ → ℕ → ℕ
behind_quote Numbers s at = at
behind_quote Bytes s at = min (at + 2) (length s)

unfoldable pub run_at : Kind → List ℕ → ℕ → Values
run_at kind s at =
    let times = number_at s at in
    let width = number_at s times.next in
    let once = values_at kind s width.value (behind_quote kind s width.next) in
    let steps = values_at Numbers s width.value once.next in
    if nat_lt 1 times.value then values (repeated times.value once.cells steps.cells) steps.next else once

-- so many cells a list of a file has at the most
abbrev pub room : ℕ
room = 24592

-- A run for which a slice has no room makes the file malformed.
unfoldable pub fitting : ℕ → ℕ → Values → Values
fitting most end run = if nat_le (length run.cells) most then run else values [] end

-- so many runs, one behind the other
unfoldable pub runs_at : Kind → List ℕ → ℕ → ℕ → ℕ → Values
runs_at kind s most zero at = values [] at
runs_at kind s most (suc n) at =
    let run = fitting most (length s) (run_at kind s at) in
    let more = runs_at kind s (most - length run.cells) n run.next in
    values (run.cells ++ more.cells) more.next

-- The list at a place, for a slice with so much room.
unfoldable pub list_at : Kind → List ℕ → ℕ → ℕ → Values
list_at kind s most from = let runs = number_at s from in runs_at kind s most runs.value runs.next

-- What was read stands first in the slice, and its other cells are as before.
pub record Stored (read : Values) (before : List ℕ) (r : Loaded) (after : List ℕ) : Type 0 where
  pub count : r.count ≡ length read.cells
  pub next : r.next ≡ read.next
  pub cells : after ≡ sets before 0 read.cells

-- cells as bytes
unfoldable pub low_bytes : List ℕ → List ℕ
low_bytes [] = []
low_bytes (x ∷ xs) = x % 256 ∷ low_bytes xs

-- The text at a place, for a slice of cells and a text with so much room.
unfoldable pub text_at : List ℕ → ℕ → ℕ → ℕ → Values
text_at s cells most from =
    let list = fitting most (length s) (list_at Bytes s cells from) in
    values (low_bytes list.cells) list.next
