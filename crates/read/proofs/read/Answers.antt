-- The gate's test is `sized`; behind it the reading is padded to each slice's length.
use mathlib.Core.Path.{sym, ◌∙◌}
use Rattle.lexer.proofs.Promise.{by_parts, finished}
use Rattle.lexer.specs.Read.{read_def, read_of}
use Rattle.utils.specs.Bytes.{pick}
use Rattle.read.proofs.read.Goals as goal

pub returns-then-fits : goal.returns-then-fits
unfolding read_def read_of pick
returns-then-fits c =
    let a = c.args in
    let read = c.read_into-r in
    by_parts (rw (sym c.fits.ensures.0 ∙ c.if-fits.true)
    (finished 1 a.text.now a.tokens.now a.names.now a.message.now _ _ _ read.result
    _ _ _ read.ensures read.auto.tokens read.auto.names read.auto.message
    c.finish.ensures))

pub returns : goal.returns
unfolding read_def pick
returns c = by_parts (rw (sym c.fits.ensures.0 ∙ c.if-fits.false, c.refuse_at.ensures))
