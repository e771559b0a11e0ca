-- Names whose prints differ differ (`other-print`); of others the bytes decide.
use mathlib.Core.Path.{sym, ◌∙◌}
use Rattle.lexer.specs.Steps.{spelled_at}
use Rattle.lexer.proofs.Prints.{other-print}
use Rattle.lexer.proofs.names.Known.is_name.Goals as goal

pub returns-then-self-k : goal.returns-then-self-k
returns-then-self-k c =
    other-print (spelled_at c.args.self.text.now c.args.self.names.now c.args.k) _
    (λ e. c.if-self-k.true (c.requires.2.each c.args.k c.requires.0 ∙ e ∙ sym c.requires.5))
