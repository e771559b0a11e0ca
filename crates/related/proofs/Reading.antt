-- What check writes for each function of an accepted edited text.
use Prim.Native.Nat.{ℕ}
use mathlib.Core.Path.{◌≡◌, refl, sym}
use mathlib.Core.List.{List, ◌∷◌, ◌++◌}
use mathlib.Core.Bool.{Bool}
use lib.Dec.{eqb}
use Rattle.lexer.specs.Decoded.{Tok}
use Rattle.parser.specs.Moved.{Each}
use Rattle.functions.specs.Functions.{Function}
use Rattle.sema.specs.Program.{globals_of}
use Rattle.elaborate.specs.Types.{callee_in}
use Rattle.related.specs.Tables.{SameGlobals, SameHead}
use Rattle.related.specs.Records.{SameCallees}
use Rattle.related.specs.Edited.{Edited}
use Rattle.related.specs.Alone.{Alone, global_spelt, AcceptedAs}
use Rattle.related.specs.Reading.{Lengths, callee_spelt, WrittenAs}
use Rattle.related.proofs.SimProgram.{each_map}
use Rattle.related.proofs.SimRecords.{callee_in_s}
use Rattle.related.proofs.Edited.{untyped_s, heads_before, heads_behind, each_append, front_globals, old_globals}
use Rattle.related.proofs.Edited.{new_globals}
use Rattle.related.proofs.Alone.{spelt_global}
use Rattle.related.proofs.Written.{written_s}

module _ {old new : List Tok} (e : Edited old new) {all all' : List Function}
    (heads : Each (SameHead e.Spelt) all all') where
  front_callees : SameCallees e.front (callee_in all') (callee_in all)
  front_callees = record { same = λ x h. sym (callee_in_s e.apart heads (e.early x h)) }

  old_callees : SameCallees e.old_back (callee_in all) (λ z. callee_in all (e.old_back.name z))
  old_callees = record { same = λ z h. refl }

  new_callees : SameCallees e.new_back (callee_in all') (λ z. callee_in all (e.old_back.name z))
  new_callees = record { same = λ z h. sym (callee_in_s e.apart heads (e.late z (rw (← e.as_many) h))) }

spelt_callee : {old new : List Tok} (e : Edited old new) {fs fs' : List Function} (is : ℕ → Bool) (y : ℕ)
    → ((x x' : ℕ) → e.Spelt x x' → is x ≡ eqb x' y) → Each (SameHead e.Spelt) fs fs'
    → callee_in fs' y ≡ callee_spelt is fs
unfolding callee_in callee_spelt
spelt_callee e is y h Each.none = refl
spelt_callee e is y h (Each.more {x = f} {x' = f'} q r) =
    rw (h f.head.name.0 f'.head.name.0 q.name, q.type, spelt_callee e is y h r) refl

-- THE THEOREM: of an accepted edited text check writes the new function as alone, and all others as before.
module _ {old new : List Tok} {e : Edited old new} {alone : List Tok} (a : Alone e alone)
    {old_names new_names rest-names own-names : List ℕ} (l : Lengths e a old_names new_names rest-names own-names)
    {before behind : List Function} {replaced f' : Function}
    (x : AcceptedAs e a.inside a.size alone before replaced behind f') where
  heads : Each (SameHead e.Spelt) (before ++ (replaced ∷ behind)) (x.before' ++ (x.f ∷ x.behind'))
  heads =
      each_append (heads_before e x.read-before) (Each.more x.head (heads_behind e x.read_old x.read-new))

  own_globals_lem : SameGlobals a.inside (globals_of (x.before' ++ (x.f ∷ x.behind')))
      (λ z. global_spelt (a.spells z) (before ++ (replaced ∷ behind)))
  own_globals_lem =
      record { same = λ z h. spelt_global e (a.spells z) (a.inside.name z) (λ y y' p. a.spelling z y y' h p) heads }

  own_callees : SameCallees a.inside (callee_in (x.before' ++ (x.f ∷ x.behind')))
      (λ z. callee_spelt (a.spells z) (before ++ (replaced ∷ behind)))
  own_callees =
      record { same = λ z h. spelt_callee e (a.spells z) (a.inside.name z) (λ y y' p. a.spelling z y y' h p) heads }

  pub written : WrittenAs a old_names new_names rest-names own-names x
  written =
      record {
        new-function = λ n. written_s a.tokens l.inside n own_globals_lem own_callees (untyped_s a.fits) x.same;
        before_it = each_map (λ g' g q n.
            written_s e.before l.front n (front_globals e heads) (front_callees e heads) (untyped_s e.front_fits)
            q)
            x.read-before;
        behind_old = each_map (λ g o q n.
            written_s e.behind_old l.old_back n (old_globals e heads) (old_callees e heads)
            (untyped_s e.old_fits) q)
            x.read_old;
        behind_new = each_map (λ g' o q n.
            written_s e.behind_new l.new_back n (new_globals e heads) (new_callees e heads)
            (untyped_s e.new_fits) q)
            x.read-new;
      }
