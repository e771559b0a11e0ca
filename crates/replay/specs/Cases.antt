-- The file has lists of cases, each behind its count, and ends with the count of all of them.
use Rattle.std.specs.Prelude.{◌≡◌, ℕ, ◌+◌, ◌-◌, ◌%◌, ◌<◌, Bool, not, ◌&&◌, List, length, is_none, ◌==◌, nat_lt, if◌then◌else◌}
use Rattle.std.specs.Fn.{Shared, FnReturns}
use Rattle.std.specs.Borrow.{Bor}
use Rattle.replay.specs.Numbers.{number_at}
use Rattle.replay.specs.declared.Tally.{Tally}
use Rattle.replay.specs.declared.Outcome.{Outcome}

-- a list of which nothing is replayed yet, behind so many cases
abbrev pub begun : List ℕ → ℕ → ℕ → Tally
begun s from index =
    let cases = number_at s from in
    record { count = cases.value; right = 0; left = cases.value; index = index; next = cases.next }

-- One case more, which is right where no part of it differs. Where the file is malformed, no case is left.
abbrev pub one_more : List ℕ → Tally → Outcome → Tally
one_more s list case =
    record {
      count = list.count;
      right = (list.right + (if is_none case.part then 1 else 0)) % 4294967296;
      left = (if nat_lt case.next (length s) then list.left - 1 else 0);
      index = (list.index + 1) % 18446744073709551616;
      next = case.next;
    }

-- What replays a case gives this outcome, from a place of the file.
pub record Gives {F : Type 0} (g : Shared F (Bor (List ℕ) × (ℕ × Unit {0})) Outcome) (run : F) (s : List ℕ) (at : ℕ)
    (case : Outcome) : Type 0 where
  pub file : Bor (List ℕ)
  pub shows : file.now ≡ s
  pub says : FnReturns g run (file, (at, tt)) case

-- A list behind some of its cases, each of which was replayed at its place: the list as it was first, or one case more.
pub data Replayed (s : List ℕ) (gives : ℕ → Outcome → Type 0) (first : Tally) : Tally → Type 0 where
  no_case : Replayed s gives first first
  a_case : (list : Tally) (case : Outcome) → Replayed s gives first list → 0 < list.left → gives list.next case
      → Replayed s gives first (one_more s list case)

-- whether the file is whole: no place before was malformed, and the mark at its end is the count of all cases
abbrev pub whole_with : List ℕ → Tally → Bool
whole_with s last =
    let end = number_at s last.next in
    not (end.next == length s) && end.value == last.index
