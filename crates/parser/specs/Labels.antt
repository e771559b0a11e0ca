-- A label in a body (document 01: "38 once the label's colon is read and before 13"): its name, its colon, then the
-- limit of 255 label definitions a function, then whether this function has it already. Labels are compared by
-- equality alone.
use Rattle.std.specs.Prelude.{Err, Ok, Result, ℕ, List, [], ◌∷◌, Bool, true, false, leb, eqb, length}
use Rattle.pieces.specs.declared.Identifier.{Identifier}
use Rattle.parser.specs.declared.Refusal.{Refusal}
use Rattle.utils.specs.Bytes.{pick}
use Rattle.lexer.specs.Decoded.{Tok}
use Rattle.pieces.specs.Kinds as T
use Rattle.utils.specs.Limits.{most_labels}
use Rattle.parser.specs.Step.{refusal, then_at, then_named}
use Rattle.parser.specs.Grammar.{consume_d, label_d}

-- the numbers of the labels so far hold this one
unfoldable pub has : List ℕ → ℕ → Bool
has [] x = false
has (y ∷ ys) x = let more = has ys x in pick (eqb y x) true more

unfoldable pub labelled_d : List Tok → List ℕ → ℕ → Result (Identifier × ℕ) Refusal
labelled_d ts labels at =
    then_named Err (label_d ts at) (λ l at1.
    then_at Err (consume_d ts at1 T.colon) (λ at2.
    pick (leb most_labels (length labels)) (Err (refusal 38 at 0))
    (pick (has labels l.0) (Err (refusal 13 at 0))
    (Ok (l, at2)))))
