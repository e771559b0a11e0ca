-- A piece's name lies in the text (`piece_past`).
use native.Mathlib.Omega.{arith}
use mathlib.Core.Path.{sym, ◌∙◌}
use Rattle.pieces.proofs.Progress.{piece_past}
use Rattle.lexing.proofs.next_token.Goals as goal

pub number_name-requires : goal.number_name-requires
number_name-requires c =
    let piece = sym c.lex_at.ensures ∙ c.in_ok-next.was in
    let past =
    rw (piece, c.in-Name.is) at
    (piece_past c.args.text.now c.args.at.place c.args.at.line c.requires.2) in
    (c.requires.0, c.requires.1, omega (arith, past.name_end_lem, past.within))
