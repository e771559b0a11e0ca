-- What each turn of a loop keeps.
use Prim.Native.Nat.{◌+◌, ◌*◌}
use mathlib.Core.Path.{◌≡◌}
use lib.ListN.{length, drop, take}
use lib.Seq.{slice}
use Rattle.lexer.specs.Steps.{parts_of, Within}
use Rattle.lexer.specs.Numbered.{index_of, spellings}
use Rattle.lexer.proofs.names.Known.lookup.Given as goal

abbrev pub invariant-loop-k : goal.invariant-loop-k
invariant-loop-k l =
    let text = l.self.text.now in
    let word = slice l.place (l.place + l.len) text in
    let names = take (l.self.count * 2) l.self.names.now in
    (index_of word (spellings text (parts_of (drop (l.k * 2) names))) l.k
    ≡ index_of word (spellings text (parts_of names)) 0)
    × Within (length text) (parts_of (drop (l.k * 2) names))
