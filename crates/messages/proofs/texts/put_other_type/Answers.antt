-- What is put one after the other is the whole.
use mathlib.Core.Path.{◌∙◌}
use mathlib.Core.List.{append_assoc}
use Rattle.messages.proofs.texts.put_other_type.Goals as goal

pub returns-clause-value : goal.returns-clause-value
returns-clause-value c =
    c.put-2.ensures.value ∙ rw (
      c.put_quoted-2.ensures.value,
      c.put.ensures.value,
      c.put_quoted.ensures.value,
      c.type_word.ensures.value,
      c.type_word-2.ensures.value,
    ) (simp append_assoc)
