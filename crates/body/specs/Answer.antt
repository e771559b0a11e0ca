-- A body's answer, and what its cells hold.
use Rattle.std.specs.Prelude.{ℕ, ◌*◌, ◌≤◌, ◌≡◌, List, [], Bool, true, length, Result, Ok, Err}
use Rattle.body.specs.declared.Closed.{Closed}
use Rattle.parser.specs.declared.Refusal.{Refusal}
use Rattle.std.proofs.lemmas.List.Edits.{sets}
use Rattle.lexer.specs.Decoded.{Tok}
use Rattle.parser.specs.Step.{then_at}
use Rattle.utils.specs.Limits.{most_tokens, most_labels}
use Rattle.body.specs.Body.{Item, Body, after_brace, body_d, labels_of, closed_items}
use Rattle.body.specs.Shapes.{shapes_of}
use Rattle.body.specs.Records.{items_cells, arguments_cells, arguments_count}
use Rattle.body.specs.Room.{Within, Bounds, filled}

-- a function's body, from after its opening brace
abbrev pub function_body : List Tok → ℕ → Body
function_body ts at = body_d ts most_tokens [] after_brace at

-- where to go on, and how many items, arguments and labels there are; or the refusal
unfoldable pub body_read : Bool → Body → Result Closed Refusal
body_read void r =
    then_at Err r.end (λ next.
    Ok (record {
      next = next;
      items = length (closed_items void r.items);
      arguments = arguments_count r.items;
      labels = length (labels_of r.items);
    }))

-- The items stand from the record `first` on, the arguments from `used` on, the labels at the front; every other cell
-- is as it was. A refusal says nothing of them: the caller clears them.
pub record Stored (ts : List Tok) (void : Bool) (is : List Item) (at first used next : ℕ)
    (items₀ items arguments₀ arguments labels₀ labels : List ℕ) : Type 0 where
  pub items_are : items ≡ sets items₀ (first * 8) (items_cells used (closed_items void is))
  pub arguments_are : arguments ≡ sets arguments₀ (used * 2) (arguments_cells is)
  pub labels_are : labels ≡ sets labels₀ 0 (labels_of is)
  pub few-labels : length (labels_of is) ≤ most_labels
  pub on : Within ts next
  pub bounds : Bounds at next (length (closed_items void is)) (arguments_count is)
      (filled true (shapes_of (closed_items void is)))

abbrev pub Held : (ts : List Tok) (void : Bool) (is : List Item) (at first used : ℕ)
    (items₀ items arguments₀ arguments labels₀ labels : List ℕ) → Result ℕ Refusal → Type 0
Held ts void is at first used items₀ items arguments₀ arguments labels₀ labels (Ok next) =
    Stored ts void is at first used next items₀ items arguments₀ arguments labels₀ labels
Held ts void is at first used items₀ items arguments₀ arguments labels₀ labels (Err e) = Unit
