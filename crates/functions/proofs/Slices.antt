-- Lent slices stay the ones that were lent, from one call to the next.
use mathlib.Core.Path.{refl, ◌∙◌}
use Rattle.functions.specs.declared.UnitSlices.{UnitSlices}
use Rattle.functions.specs.Answer.{SameSlices}

pub same : (u : UnitSlices) → SameSlices u u
same u =
    record {
      functions = refl;
      items = refl;
      arguments = refl;
      blocks = refl;
      predecessors = refl;
      functions_long = refl;
      items_long = refl;
      arguments_long = refl;
      blocks_long = refl;
      predecessors_long = refl;
    }

pub then_same : (u v w : UnitSlices) → SameSlices u v → SameSlices v w → SameSlices u w
then_same u v w h k =
    record {
      functions = h.functions ∙ k.functions;
      items = h.items ∙ k.items;
      arguments = h.arguments ∙ k.arguments;
      blocks = h.blocks ∙ k.blocks;
      predecessors = h.predecessors ∙ k.predecessors;
      functions_long = k.functions_long ∙ h.functions_long;
      items_long = k.items_long ∙ h.items_long;
      arguments_long = k.arguments_long ∙ h.arguments_long;
      blocks_long = k.blocks_long ∙ h.blocks_long;
      predecessors_long = k.predecessors_long ∙ h.predecessors_long;
    }
