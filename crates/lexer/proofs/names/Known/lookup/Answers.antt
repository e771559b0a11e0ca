-- The names from `k` on hold the first match if any name does; each lies in the text.
use borrow.Author.Rules.{rules}
use native.Mathlib.Omega.{arith}
use Prim.Native.Nat.{◌*◌, ◌≤◌}
use mathlib.Core.Path.{refl}
use lib.ListN.{length, take, length-take, drop_of_length-le}
use Rattle.lexer.proofs.Parts.{name-within, names-within, name-here, name-later}
use Rattle.lexer.specs.Steps.{parts_of}
use Rattle.lexer.specs.Numbered.{index_of, spellings}
use Rattle.lexer.proofs.names.Known.lookup.Goals as goal

pub loop-k-init : goal.loop-k-init
loop-k-init c =
    (refl, c.requires.0.within)

pub is_name-requires : goal.is_name-requires
is_name-requires c =
    (search rules, c.requires.0, c.requires.1, search name-within, c.requires.2, c.requires.3)

pub loop-k-preserved : goal.loop-k-preserved
loop-k-preserved c = (search name-later, search names-within)

pub returns : goal.returns
unfolding index_of spellings parts_of
returns c =
    let cells = take (c.args.self.count * 2) c.args.self.names.now in
    let z : length cells ≤ c.loop-k.k * 2 = rw length-take (omega arith) in
    rw (← c.loop-k.invariant.0, drop_of_length-le cells z)

pub returns-then-is_name : goal.returns-then-is_name
returns-then-is_name c = search name-here
