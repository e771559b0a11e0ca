-- What one read more gave stands behind what had come (`filled-more`).
use Rattle.std.proofs.Common.{◌≡◌, ℕ, ◌+◌, ◌-◌, ◌≤◌, List, ◌++◌, length, take, sym, ap, ◌∙◌, subst, le_refl, drop_at, length-take-le, drop, rules}
use Rattle.std.proofs.lemmas.Slice.{take-put_mid_below}
use Rattle.std.specs.Io.KnownBytes.{Consumes}
use Rattle.std.proofs.KnownBytes.{Consumes-trans}
use borrow.Rule.Slice.PartMut.{put_mid, post_of}
use lib.Seq.{take-add, take-append-le}
use Rattle.replay.proofs.input.read_full.Goals as goal

-- the front of a list that got `ys` from place `a` on
filled-more : (a k n : ℕ) (xs ys : List ℕ) → a ≤ length xs → n ≤ length ys
    → take a xs ++ take n ys ≡ take (a + n) (put_mid a k xs ys)
filled-more a k n xs ys within fits =
    let after = post_of a k xs in
    sym (take-add a n (put_mid a k xs ys)
    ∙ ap (λ l. l ++ take n (drop a (put_mid a k xs ys))) (take-put_mid_below a k xs ys a (le_refl a) within)
    ∙ ap (λ l. take a xs ++ l) (ap (take n) (drop_at (take a xs) (ys ++ after) a (length-take-le a xs within)) ∙
    take-append-le n ys after fits))

pub loop-count-preserved : goal.loop-count-preserved
loop-count-preserved g c =
    let at = c.loop-count.count in
    let rest = length c.loop-count.room - at in
    let joined = filled-more at rest c.in_ok-got.got c.loop-count.room c.read.new.buf c.loop-count.invariant.within
    c.in_ok-got.ensures.bound.0 in
    record {
      within = search rules;
      bytes = subst (Consumes _ _) joined (Consumes-trans _ _ _ _ _ c.loop-count.invariant.bytes
          c.in_ok-got.ensures.bytes.0);
    }
