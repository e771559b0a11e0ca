-- What is put one after the other is the whole.
use mathlib.Core.Path.{◌∙◌}
use mathlib.Core.List.{append_assoc}
use Rattle.messages.proofs.texts.put_missing.Goals as goal

pub returns-clause-value : goal.returns-clause-value
returns-clause-value c =
    c.put-2.ensures.value ∙ rw (
      c.put_quoted.ensures.value,
      c.put.ensures.value,
    ) (simp append_assoc)
