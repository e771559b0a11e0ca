-- What recheck says of the new function alone, the whole edited text is: refused with the same number at the same line,
-- `length pre` bytes further on; or accepted. Over a text in parts, as lexing cuts it.
use Prim.Native.Nat.{ℕ, ◌+◌, ◌-◌}
use mathlib.Core.Path.{◌≡◌, subst}
use mathlib.Core.Bool.{Bool}
use mathlib.Core.List.{List, ◌∷◌, ◌++◌}
use lib.ListN.{length, get_or}
use Rattle.pieces.specs.Tokens.{kind_of}
use Rattle.pieces.specs.declared.Token.{Token}
use Rattle.lexer.specs.Numbered.{Part, Outcome, names_cells}
use Rattle.lexer.specs.Read.{lexed_from}
use Rattle.lexer.specs.Decoded.{Tok}
use Rattle.lexer.specs.Sound.{no_token}
use Rattle.parser.specs.declared.Refusal.{Refusal}
use Rattle.functions.specs.Functions.{Function}
use Rattle.unit.specs.Outcome.{checked, unit_d}
use Rattle.recheck.specs.Recheck.{Verdict, refuses, accepts, retyped}
use Rattle.joined.specs.Edits.{Replaced}
use Rattle.joined.specs.Readings.{Readings}
use Rattle.joined.proofs.Replaced.{edit_of}
use Rattle.related.specs.Edited as related
use Rattle.related.specs.Alone.{Keeps, RefusedAs, AcceptedAs, Follows, alone_among}
use Rattle.related.proofs.Alone.{verdict}
use Rattle.edited.specs.Spelled.{spelled_alike, tokens_in, inside_move}
use Rattle.edited.proofs.Lexing.{edited, alone_in}

-- whether name x of the new text is spelled as name y of the old one
abbrev pub spells_of : {pre f post new : List ℕ} {first : ℕ} → Replaced pre f post new 1 first → ℕ → ℕ → Bool
spells_of {pre} {f} {post} {new} p =
    spelled_alike (pre ++ (f ++ post)) (names_cells p.old_names) new (names_cells p.new_names)

module _ {pre f post new : List ℕ} {first : ℕ} (p : Replaced pre f post new 1 first) {ts : List Token} {ns : List Part}
    (rd : Readings pre f post new 1 first (edit_of p) ts ns)
    (lexed : lexed_from 1 (pre ++ (new ++ post)) ≡ Outcome.done ts ns)
    (brace : (i : ℕ) → i + 1 ≡ p.opening → kind_of (get_or p.old_tokens i no_token).value ≡ 28)
    (before : List Function) (r : Function) (behind : List Function)
    (typed : unit_d (tokens_in p.old_tokens) ≡ checked (before ++ (r ∷ behind)))
    (stood : r.token ≡ p.opening) (closed : r.next ≡ p.closing + 1) where
  abbrev spells : ℕ → ℕ → Bool
  spells = spells_of p

  abbrev alone : List Tok
  alone = tokens_in p.tokens_new

  abbrev all : List Function
  all = before ++ (r ∷ behind)

  replaced_there : related.Replaced (edited rd lexed p.new_opens_kind brace) before r behind
  unfolding edited
  replaced_there = record { accepted = typed; stood = stood; closed = closed }

  module _ (keeps : Keeps spells r alone) where
    pub follows : Follows (edited rd lexed p.new_opens_kind brace) before r behind alone
        (alone_in rd lexed p.new_opens_kind brace) (alone_among alone spells all)
    unfolding edited alone_in
    follows = verdict replaced_there (alone_in rd lexed p.new_opens_kind brace) keeps

    -- refused alone
    pub refused-fresh : (x : Refusal) → alone_among alone spells all ≡ refuses x → (x.number ≡ 40 → ⊥)
        → RefusedAs (tokens_in ts) alone (inside_move rd) (length p.tokens_new - 1) x
    unfolding edited alone_in
    refused-fresh x e n =
        subst
        (λ (v : Verdict). Follows (edited rd lexed p.new_opens_kind brace) before r behind alone
        (alone_in rd lexed p.new_opens_kind brace) v) e follows n

    -- accepted alone
    pub accepted-fresh : (g : Function) (table : List ℕ) → alone_among alone spells all ≡ accepts g table
        → AcceptedAs (edited rd lexed p.new_opens_kind brace)
        (alone_in rd lexed p.new_opens_kind brace).inside (alone_in rd lexed p.new_opens_kind brace).size alone
        before r behind (retyped r.head.type g)
    accepted-fresh g table e =
        subst
        (λ (v : Verdict). Follows (edited rd lexed p.new_opens_kind brace) before r behind alone
        (alone_in rd lexed p.new_opens_kind brace) v) e follows
