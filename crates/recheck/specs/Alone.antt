-- What the inner functions say of the new function: how much it takes of each slice, and what the slices hold.
use Rattle.functions.specs.declared.Counts.{Counts}
use Rattle.parser.specs.declared.Refusal.{Refusal}
use Rattle.std.specs.Prelude.{ℕ, ◌≤◌, ◌≡◌, List, [], ◌∷◌, get_or, set, Err, Ok, Result}
use Rattle.std.proofs.lemmas.List.Edits.{sets}
use Rattle.lexer.specs.Decoded.{Tok}
use Rattle.functions.specs.Functions.{FunctionAt, function, no_function}
use Rattle.functions.specs.Columns.{row_at, type_at, row_width}
use Rattle.functions.specs.Answer.{Slices, counts_from}
use Rattle.utils.specs.Limits.{most_functions}
use Rattle.unit.specs.Outcome.{none, fronts}
use Rattle.recheck.specs.Recheck.{Verdict, refuses, accepts, verdict_slices}
use Rattle.headers.specs.Brought.{cells_from, brought, brought_from, headers_brought}
use Rattle.headers.specs.declared.Placed.{Placed}

-- a function that is parsed, and nothing behind it
abbrev pub alone_read : FunctionAt → Result Counts Refusal
alone_read (function f) = Ok (counts_from none (f ∷ []))
alone_read (no_function e) = Err e

-- .. and typed
abbrev pub verdict_read : Verdict → Result Counts Refusal
verdict_read (accepts f table) = Ok (counts_from none (f ∷ []))
verdict_read (refuses e) = Err e

-- The records stand in front; of what stands behind nothing is said, and nothing of a refusal's slices.
abbrev pub VerdictHeld : List Tok → List ℕ → (ℕ → ℕ) → ℕ → Slices → Verdict → Type 0
VerdictHeld ts names callees type s (accepts f table) =
    fronts (counts_from none (f ∷ [])) s ≡ verdict_slices ts names callees type (accepts f table)
VerdictHeld ts names callees type s (refuses e) = Unit

-- The new function's row has the replaced one's function type; among the old headers, in a table that held out₀, it
-- stands in the replaced one's place.
pub record Places (old rows new names : List ℕ) (known number : ℕ) (out₀ functions₀ : List ℕ) (r : Placed)
    (out functions : List ℕ) : Type 0
  where
    pub row : functions ≡ set (set functions₀ 0 1) (type_at 0) (get_or rows (type_at number) 0)
    pub table : out
        ≡ sets (headers_brought old rows new names known out₀).cells (row_at r.place) (cells_from functions (row_at 0)
        row_width)
    pub count : r.count ≡ (headers_brought old rows new names known out₀).count
    pub place : r.place ≡ (brought_from old rows new names known 0 number (brought out₀ 0)).count
    pub few : r.count ≤ most_functions
