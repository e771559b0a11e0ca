-- The words stand in the order of their kinds, and there are no others.
use native.Mathlib.Omega.{arith}
use mathlib.Core.List.{[]}
use mathlib.Core.Path.{refl, sym}
use lib.ListN.{get_or-eq_default}
use Rattle.messages.specs.Messages.{words}
use Rattle.messages.proofs.Table.{behind, word-short}
use Rattle.messages.proofs.words.word_of.Goals as goal

pub returns-then-kind-gt-END_OF_FILE-clause-value : goal.returns-then-kind-gt-END_OF_FILE-clause-value
unfolding words
returns-then-kind-gt-END_OF_FILE-clause-value c =
    sym (get_or-eq_default words [] {n = c.args.kind} (omega (arith, c.if-kind-gt-END_OF_FILE.true)))

pub returns-clause-value : goal.returns-clause-value
unfolding words
returns-clause-value c = rw (behind _ c.args.kind) refl

pub returns-clause-short : goal.returns-clause-short
unfolding words
returns-clause-short c = rw (behind _ c.args.kind) (word-short c.args.kind)
