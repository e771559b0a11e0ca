-- The library's look-up is the definition's.
use lib.ListN.{take}
use mathlib.Core.Path.{◌∙◌}
use Rattle.parser.proofs.Turning.{any_is_has}
use Rattle.parser.proofs.labels.has_label.Goals as goal

pub returns : goal.returns
returns c = c.contains.ensures.value ∙ any_is_has (take c.args.count c.args.labels.now) c.args.name.0
