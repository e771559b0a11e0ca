-- What demand 3 leaves open (docs/DECISIONS.md): texts outside its premises, which recheck and a fresh check answer
-- differently, and messages, which it doesn't compare. A table with one claim, shown by computation.
use Rattle.std.specs.Prelude.{ℕ, ◌≡◌, refl, List, [], ◌∷◌, ◌++◌, Bool, true, false, replicate}
use Prim.Native.String.{String}
use Rattle.utils.specs.Bytes.{pick, bytes, same_bytes}
use Rattle.checker.specs.Check.{Checking, check_of}
use Rattle.recheck.specs.Cases as whole
use Rattle.edited.specs.Demand3.{edited_text, rechecked_as}

pub record Case : Type 0 where
  pub alone : Checking
  pub fresh : Checking
  -- number and message of each; no message where it is accepted
  pub alone_number : ℕ
  pub alone_says : String
  pub fresh_number : ℕ
  pub fresh_says : String

-- function k of the old text becomes the new one
abbrev becomes : List ℕ → ℕ → String → ℕ → String → ℕ → String → Case
becomes old k new n m n' m' =
    record {
      alone = rechecked_as old k (bytes new);
      fresh = check_of (edited_text old k (bytes new));
      alone_number = n;
      alone_says = m;
      fresh_number = n';
      fresh_says = m';
    }

unfoldable cases : List Case
cases =
    -- the new text lexes alone, the edited text is over the limit on bytes
    becomes (bytes "@f{ret;}#" ++ replicate 16375 120) 0 "@f{nop;ret;}" 0 "" 31 "[line 0] Error : too many bytes."
    -- the new text doesn't lex alone, what stands behind the function ends its comment
    ∷ becomes (bytes "@f{ret;}/* */") 0 "@f{ret;}/*" 2 "[line 1] Error : Multiline comment no closed." 0 ""
    -- the new text has a byte behind its brace, holds a second function, has another header
    ∷ becomes (bytes "@f{ret;}") 0 "@f{ret;} " 40 "[line 1] Error : not one function." 0 ""
    ∷ becomes (bytes "@f{ret;}") 0 "@f{ret;}@g{ret;}" 40 "[line 1] Error : not one function." 0 ""
    ∷ becomes (bytes "@f{ret;}") 0 "@g{ret;}" 41 "[line 1] Error : header changed." 0 ""
    -- inside the premises: the same refusal, but the message has the name's number, among the names of the new text and
    -- among those of the whole one
    ∷ becomes (bytes "@g(a: int){ret;}@f{ret;}") 1 "@f{x y;}" 5 "[line 1] Error at 'local_2': ':' expected." 5
    "[line 1] Error at 'local_4': ':' expected."
    ∷ []

right : List Case → Bool
right [] = true
right (c ∷ cs) =
    let more = right cs in
    pick (same_bytes (c.alone.answer.number ∷ c.fresh.answer.number ∷ []) (c.alone_number ∷ c.fresh_number ∷ []))
    (pick (same_bytes c.alone.message (whole.line (bytes c.alone_says)))
    (pick (same_bytes c.fresh.message (whole.line (bytes c.fresh_says))) more false) false) false

-- THE CLAIM
all_right : right cases ≡ true
unfolding whole.opened cases right
all_right = refl
