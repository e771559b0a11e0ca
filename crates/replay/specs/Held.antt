-- Behind the cells and bytes that a case lists, a slice must hold zeros; after the answer 30 it must hold what it held
-- before the call.
use Rattle.std.specs.Prelude.{ℕ, ◌-◌, Bool, List, ◌++◌, length, replicate, fold, Some, None, ◌==◌, if◌then◌else◌}
use Rattle.std.specs.Option.{option_or}
use Rattle.std.specs.Str.{bytes_eq}
use Rattle.replay.specs.Numbers.{number_at}
use Rattle.replay.specs.Lists.{Values}
use Rattle.replay.specs.declared.Outcome.{Outcome}
use Rattle.replay.specs.declared.parts.Part.{Part}

-- a list, and behind it `rest` alone up to a length; a longer list stays as it is, and equals no slice of that length
abbrev pub filled : ℕ → ℕ → List ℕ → List ℕ
filled rest n list = list ++ replicate (n - length list) rest

-- what every lent cell and byte holds before a call
abbrev pub old_cell : ℕ
old_cell = 2863311530

abbrev pub old_byte : ℕ
old_byte = 170

abbrev pub rest_of : ℕ → ℕ → ℕ
rest_of answer old = if answer == 30 then old else 0

-- One thing more held to the file, and the place behind it. The first part that differs stays.
abbrev pub keeping : Outcome → Part → Bool → ℕ → Outcome
keeping seen part same next =
    let differs = if same then None else Some part in
    record { part = option_or seen.part differs; number = seen.number; next = next }

-- before an answer is held to the file: its first number, which says what the slices must hold
abbrev pub unseen : List ℕ → ℕ → Outcome
unseen s from = record { part = None; number = (number_at s from).value; next = from }

-- one number of an answer more, with its part
abbrev pub number_held : List ℕ → Outcome → Part × ℕ → Outcome
number_held s seen got =
    let wanted = number_at s seen.next in
    keeping seen got.0 (got.1 == wanted.value) wanted.next

-- the numbers of an answer, one behind the other, held to those at a place
abbrev pub answer_held : List ℕ → ℕ → List (Part × ℕ) → Outcome
answer_held s from got = fold (number_held s) (unseen s from) got

-- A slice with this part, held to a list and behind it to what it must hold. `old` is what it held before.
abbrev pub holding : Outcome → Part → List ℕ → Values → ℕ → Outcome
holding seen part got list old =
    keeping seen part (bytes_eq got (filled (rest_of seen.number old) (length got) list.cells)) list.next
