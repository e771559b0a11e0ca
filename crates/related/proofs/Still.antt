-- The same tokens in both readings are related: nothing moves.
use Prim.Native.Nat.{ℕ, ◌+◌, ◌≤◌, ◌<◌}
use mathlib.Core.Path.{◌≡◌, refl, sym, ap, ◌∙◌}
use mathlib.Core.List.{List}
use mathlib.Core.Bool.{Bool, true, false}
use native.Mathlib.Omega.{arith}
use Rattle.utils.specs.Bytes.{pick}
use Rattle.lexer.specs.Decoded.{Tok, is_name, token_at}
use Rattle.lexer.specs.declared.TokenAt.{TokenAt}
use Rattle.parser.specs.Moved.{Move, move_t, Sim}

abbrev pub still : ℕ → Move
still names = record { by = 0; down = 0; on = 0; names = names; name = λ x. x; apart = λ x y h g e. e }

either_way : (b : Bool) (v : ℕ) → pick b v v ≡ v
unfolding pick
either_way true v = refl
either_way false v = refl

abbrev token-of : ℕ → ℕ → ℕ → ℕ → ℕ → ℕ → TokenAt
token-of k x i l p n =
    record { kind = k; name = record { 0 = x }; integer = i; line = record { 0 = l }; place = p; next = n }

token-same : (k i : ℕ) {x x' l l' p p' n n' : ℕ} → x ≡ x' → l ≡ l' → p ≡ p' → n ≡ n'
    → token-of k x i l p n ≡ token-of k x' i l' p' n'
token-same k i a b c d = rw (a, b, c, d) refl

unmoved : (names : ℕ) (t : TokenAt) → t ≡ move_t (still names) t
unmoved names t =
    let line : t.line.0 ≡ 0 + t.line.0 = omega arith in
    let place : t.place ≡ 0 + t.place = omega arith in
    let next : t.next ≡ 0 + t.next = omega arith in
    token-same t.kind t.integer (sym (either_way (is_name t.kind) t.name.0)) line place next

-- equal tokens are related, as the front of two texts is
pub still_sim : {names n : ℕ} {ts ts' : List Tok} → ((i : ℕ) → i < n → token_at ts i ≡ token_at ts' i)
    → ((i : ℕ) → i < n → is_name (token_at ts' i).kind ≡ true → (token_at ts' i).name.0 < names)
    → ((i : ℕ) → i < n → (token_at ts' i).next ≤ n)
    → ((i : ℕ) → i < n → ((token_at ts' i).kind ≡ 28 → ⊥) → (token_at ts' i).next < n)
    → Sim (still names) n ts ts'
still_sim {names} {ts = ts} {ts'} q fit near inner =
    record {
      same = λ i h.
          let z : 0 + i ≡ i = omega arith in
          ap (λ (k : ℕ). token_at ts k) z ∙ (q i h ∙ unmoved names (token_at ts' i));
      fit = fit;
      near = near;
      inner = inner;
    }
