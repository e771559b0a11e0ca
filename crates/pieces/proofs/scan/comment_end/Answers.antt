-- The scan from `i` on, with or without a star before it, gives what the scan from `at` on gives.
use Rattle.pieces.specs.Pieces.{comment_end}
use Rattle.pieces.proofs.Picked.{picked, with_byte, with_end}
use Rattle.pieces.proofs.scan.comment_end.Goals as goal

pub loop-i-preserved : goal.loop-i-preserved
unfolding comment_end
loop-i-preserved c =
    rw c.star_after-star.ensures (search (picked, with_byte comment_end))

pub returns-then-closes_comment : goal.returns-then-closes_comment
unfolding comment_end
returns-then-closes_comment c = search (picked, with_byte comment_end)

pub returns : goal.returns
unfolding comment_end
returns c = search (with_end comment_end)
