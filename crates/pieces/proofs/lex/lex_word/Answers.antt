-- The word runs from `at` to its end, which lies in the text.
use Rattle.std.specs.Prelude.{Some, None}
use native.Mathlib.Omega.{arith}
use Prim.Native.Nat.{ℕ, ◌+◌, ◌<◌, ◌≤◌}
use mathlib.Core.Path.{◌≡◌, sym, ◌∙◌}
use mathlib.Core.List.{List}
use lib.ListN.{length, drop}
use lib.Seq.{slice}
use Rattle.pieces.specs.Tokens.{keyword}
use Rattle.pieces.proofs.Compare.{part-between}
use Rattle.pieces.proofs.Progress.{left-from, name_end-from, name_end-to}
use Rattle.pieces.specs.Pieces.{name_at, name_end, word_at, then_value}
use Rattle.pieces.proofs.lex.lex_word.Goals as goal

-- the word's end, once the scan has found it
ended : (text : List ℕ) (at e : ℕ) → at < length text → e ≡ name_end (drop (at + 1) text) (at + 1)
    → (at ≤ e) × (e ≤ length text)
ended text at e inside is =
    let from = name_end-from (drop (at + 1) text) (at + 1) in
    let to = name_end-to (drop (at + 1) text) (at + 1) in
    let left = left-from text (at + 1) (omega arith) in
    (omega (arith, is), omega (arith, is))

pub slice_bounds-get_keyword-count : goal.slice_bounds-get_keyword-count
slice_bounds-get_keyword-count c = (ended c.args.text.now c.args.at.place _ c.requires c.name_end-end.ensures).0

pub slice_bounds-get_keyword-start : goal.slice_bounds-get_keyword-start
slice_bounds-get_keyword-start c =
    omega (arith, ended c.args.text.now c.args.at.place _ c.requires c.name_end-end.ensures)

pub slice_bounds-get_keyword-end : goal.slice_bounds-get_keyword-end
slice_bounds-get_keyword-end c =
    omega (arith, ended c.args.text.now c.args.at.place _ c.requires c.name_end-end.ensures)

pub name_to-requires : goal.name_to-requires
name_to-requires c = (ended c.args.text.now c.args.at.place _ c.requires c.name_end-end.ensures).0

pub returns-in-Some : goal.returns-in-Some
unfolding word_at then_value
returns-in-Some c =
    let a = c.args in
    let within = ended a.text.now a.at.place _ c.requires c.name_end-end.ensures in
    let part = part-between a.at.place c.name_end-end.result a.text.now within.0 in
    let k : keyword (slice a.at.place c.name_end-end.result a.text.now) ≡ Some c.in-Some.value =
    sym (rw part at c.get_keyword.ensures) ∙ c.in-Some.is in
    rw (← c.name_end-end.ensures, k, c.token_to.ensures)

pub returns-in-None : goal.returns-in-None
unfolding word_at then_value name_at
returns-in-None c =
    let a = c.args in
    let within = ended a.text.now a.at.place _ c.requires c.name_end-end.ensures in
    let part = part-between a.at.place c.name_end-end.result a.text.now within.0 in
    let k : keyword (slice a.at.place c.name_end-end.result a.text.now) ≡ None =
    sym (rw part at c.get_keyword.ensures) ∙ c.in-None.is in
    rw (← c.name_end-end.ensures, k, c.name_to.ensures)
