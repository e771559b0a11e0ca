-- What check writes for each function of an accepted edited text: the new function as it is written alone, all others
-- as before.
use Rattle.std.specs.Prelude.{ℕ, ◌+◌, List, [], ◌∷◌, ◌++◌, Bool}
use Rattle.utils.specs.Bytes.{pick}
use Rattle.lexer.specs.Decoded.{Tok}
use Rattle.parser.specs.Moved.{Move, Each}
use Rattle.functions.specs.Functions.{Function}
use Rattle.parser.specs.Types as Types
use Rattle.functions.specs.declared.Counts.{Counts}
use Rattle.sema.specs.Program.{globals_of}
use Rattle.elaborate.specs.Types.{callee_in}
use Rattle.unit.specs.Outcome.{none}
use Rattle.related.specs.Edited.{Edited}
use Rattle.related.specs.Alone.{Alone, global_spelt, AcceptedAs}
use Rattle.related.specs.Written.{Written, written_of, SimWritten, SameLengths}

-- names are as long in each reading
pub record Lengths {old new : List Tok} (e : Edited old new) {alone : List Tok} (a : Alone e alone)
    (old_names new_names rest-names own-names : List ℕ) : Type 0
  where
    pub front : SameLengths e.front new_names old_names
    pub old_back : SameLengths e.old_back old_names rest-names
    pub new_back : SameLengths e.new_back new_names rest-names
    pub inside : SameLengths a.inside new_names own-names

-- a callee's type, by its spelling among the old headers
unfoldable pub callee_spelt : (ℕ → Bool) → List Function → ℕ
callee_spelt is [] = 0
callee_spelt is (f ∷ fs) =
    let more = callee_spelt is fs in
    pick (is f.head.name.0) (f.head.type + Types.function) more

-- a function of a whole text, written behind those that are counted
abbrev pub written_in : List Tok → List ℕ → List Function → Counts → Function → Written
written_in ts names all n f = written_of ts names (globals_of all) (callee_in all) n f

-- a function alone, its callees by spelling
abbrev pub written_alone : List Tok → List ℕ → (ℕ → ℕ → Bool) → List Function → Function → Written
written_alone ts names spells all f =
    written_of ts names (λ x. global_spelt (spells x) all) (λ x. callee_spelt (spells x) all) none f

-- a function behind the replaced one, in its own tokens, its callees by the old text's numbers
abbrev pub written_own : List Tok → List ℕ → Move → List Function → Function → Written
written_own ts names m all f = written_of ts names (λ z. globals_of all (m.name z)) (λ z. callee_in all (m.name z)) none f

-- all functions of the new text, wherever they are written
pub record WrittenAs {old new : List Tok} {e : Edited old new} {alone : List Tok} (a : Alone e alone)
    (old_names new_names rest-names own-names : List ℕ) {before behind : List Function} {replaced f' : Function}
    (x : AcceptedAs e a.inside a.size alone before replaced behind f') : Type 0
  where
    -- the new function is written as alone
    pub new-function : (n : Counts)
        → SimWritten a.inside n (written_in new new_names (x.before' ++ (x.f ∷ x.behind')) n x.f)
        (written_alone alone own-names a.spells (before ++ (replaced ∷ behind)) f')
    -- those before it as before
    pub before_it : Each (λ g' g. (n : Counts)
        → SimWritten e.front n (written_in new new_names (x.before' ++ (x.f ∷ x.behind')) n g')
        (written_in old old_names (before ++ (replaced ∷ behind)) none g)) x.before' before
    -- those behind it as in their own tokens, in both texts
    pub behind_old : Each (λ g o. (n : Counts)
        → SimWritten e.old_back n (written_in old old_names (before ++ (replaced ∷ behind)) n g)
        (written_own e.rest rest-names e.old_back (before ++ (replaced ∷ behind)) o)) behind x.own
    pub behind_new : Each (λ g' o. (n : Counts)
        → SimWritten e.new_back n (written_in new new_names (x.before' ++ (x.f ∷ x.behind')) n g')
        (written_own e.rest rest-names e.old_back (before ++ (replaced ∷ behind)) o)) x.behind' x.own
