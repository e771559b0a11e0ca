-- No word has fewer bytes than two or more than five, and of the text's first byte only those words are left that begin
-- with it.
use native.Mathlib.Omega.{arith}
use Rattle.pieces.proofs.Words.{no_word, no_letter}
use Rattle.pieces.proofs.tokens.get_keyword.Goals as goal

pub returns-then-part-lt-SHORTEST : goal.returns-then-part-lt-SHORTEST
returns-then-part-lt-SHORTEST c =
    no_word c.args.part.now (λ n low high e. omega arith)

pub returns-in_default : goal.returns-in_default
returns-in_default c = search no_letter depth 9
