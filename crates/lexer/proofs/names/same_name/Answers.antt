-- Names of two lengths differ; of others the bytes decide.
use Rattle.pieces.proofs.Compare.{other-part, same-part}
use Rattle.lexer.proofs.names.same_name.Goals as goal

pub returns-then-m-n : goal.returns-then-m-n
returns-then-m-n c = search other-part

pub returns : goal.returns
returns c = search same-part
