-- For callers: the part that an answer shows otherwise is one of those that were handed in, so what holds of each of these
-- holds of it. The first that differs stays, and no other comes in.
use mathlib.Core.Bool.{Bool, true, false}
use mathlib.Core.List.{List, [], ◌∷◌}
use Rattle.std.specs.Prelude.{ℕ, Option, Some, None, ◌==◌, fold, if◌then◌else◌}
use Rattle.std.specs.List.{All}
use Rattle.std.specs.Option.{IfSome, option_or}
use Rattle.std.proofs.lemmas.List.Elements.{All-head, All-tail}
use Rattle.replay.specs.Numbers.{number_at}
use Rattle.replay.specs.Lists.{Values}
use Rattle.replay.specs.Held.{keeping, number_held, answer_held, unseen, holding}
use Rattle.replay.specs.declared.Outcome.{Outcome}
use Rattle.replay.specs.declared.parts.Part.{Part}

module _ (Q : Part → Type 0) where
  abbrev pub Handed : Part × ℕ → Type 0
  Handed got = Q got.0

  first_handed : (first : Option Part) (part : Part) (same : Bool) → IfSome first Q → Q part
      → IfSome (option_or first (if same then None else Some part)) Q
  first_handed (Some first) part same f h = f
  first_handed None part true f h = tt
  first_handed None part false f h = h

  -- .. of what was seen before and one thing more
  pub keeping_handed : (seen : Outcome) (part : Part) (same : Bool) (next : ℕ) → IfSome seen.part Q → Q part
      → IfSome (keeping seen part same next).part Q
  keeping_handed seen part same next f h = first_handed seen.part part same f h

  -- .. of what was seen before and the parts of numbers
  pub numbers_handed : (s : List ℕ) (seen : Outcome) (got : List (Part × ℕ)) → IfSome seen.part Q → All Handed got
      → IfSome (fold (number_held s) seen got).part Q
  numbers_handed s seen [] f a = f
  numbers_handed s seen (g ∷ gs) f a =
      let wanted = number_at s seen.next in
      numbers_handed s (number_held s seen g) gs
      (keeping_handed seen g.0 (g.1 == wanted.value) wanted.next f (All-head Handed g gs a)) (All-tail Handed g gs a)

  -- .. of the parts of an answer's numbers
  pub answer_handed : (s : List ℕ) (from : ℕ) (got : List (Part × ℕ)) → All Handed got
      → IfSome (answer_held s from got).part Q
  answer_handed s from got a = numbers_handed s (unseen s from) got tt a

  -- .. of what was seen before and a slice's part
  pub holding_handed : (seen : Outcome) (part : Part) (got : List ℕ) (list : Values) (old : ℕ) → IfSome seen.part Q
      → Q part → IfSome (holding seen part got list old).part Q
  holding_handed seen part got list old f h = keeping_handed seen part _ list.next f h
