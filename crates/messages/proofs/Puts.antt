-- What is put goes behind what was put before.
use Prim.Native.Nat.{ℕ, ◌+◌, ◌≤◌}
use mathlib.Core.List.{List, ◌++◌}
use mathlib.Core.Path.{◌≡◌, ap, ◌∙◌}
use native.Mathlib.Omega.{arith}
use lib.ListN.{length, take, drop, length-append, length-take}
use lib.Seq.{sets, sets-eq, take_at}

put_front : (b xs : List ℕ) (at : ℕ) → at + length xs ≤ length b → take (at + length xs) (sets b at xs) ≡ take at b ++ xs
put_front b xs at h =
    let long : length (take at b ++ xs) ≡ at + length xs = omega (arith, length-append (take at b) xs, length-take at b) in
    rw (sets-eq xs b at h) (take_at (take at b ++ xs) (drop (at + length xs) b) (at + length xs) long)

-- for a part of which `now` was put
pub put_behind : (b b' xs now : List ℕ) (count r : ℕ) → take count b ≡ now → count ≤ 91 → length b ≡ 91
    → length now + length xs ≤ 91 → r ≡ count + length xs → b' ≡ sets b count xs → take r b' ≡ now ++ xs
put_behind b b' xs now count r v i l h p q =
    let n : length now ≡ count = omega (arith, ap length v, length-take count b) in
    rw (p, q) (put_front b xs count (omega arith) ∙ ap (λ (l : List ℕ). l ++ xs) v)
