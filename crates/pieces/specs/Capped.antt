-- The code counts a number no higher than 2147483649, one more than the largest number that a minus may stand before.
-- That no answer depends on it is `capped-leb` and `capped_small` of the proofs.
use Rattle.std.specs.Prelude.{ℕ, leb}
use Rattle.utils.specs.Bytes.{pick}
use Rattle.pieces.specs.Pieces.{number}
use Rattle.pieces.specs.declared.Number.{Number}

unfoldable pub capped : ℕ → ℕ
capped n = pick (leb n 2147483649) n 2147483649

abbrev pub capped_number : Number → Number
capped_number n = number (capped n.value) n.end
