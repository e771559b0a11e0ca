-- The new text held against the replaced function's header, before it is parsed.
use Rattle.std.specs.Prelude.{ℕ, ◌+◌, ◌-◌, List, Bool, true, false, eqb, length}
use Rattle.utils.specs.Bytes.{pick, same_bytes}
use Rattle.lexer.specs.Decoded.{Tok, token_at, name_of}
use Rattle.pieces.specs.Kinds as T
use Rattle.parser.specs.Step.{then_named, then_type}
use Rattle.parser.specs.Grammar.{global_d}
use Rattle.pieces.specs.declared.Identifier.{Identifier}
use Rattle.functions.specs.Known.{signature}
use Rattle.functions.specs.Functions.{then_formals, optional_formals, optional_type}

-- "40 if its first byte doesn't begin a global or its last byte isn't a `}` token": the first token, and the last
-- before the end token.
unfoldable pub is_whole : List ℕ → List Tok → Bool
is_whole new ts =
    let first = token_at ts 0 in
    let last = token_at ts (length ts - 2) in
    pick (eqb first.kind T.global)
    (pick (eqb first.place 0)
    (pick (eqb last.kind T.right_brace) (eqb (last.place + 1) (length new)) false) false) false

-- "with 41 where the name would be entered, if name or type differ": whether it is kept. What is refused before the
-- name would be entered is no matter here.
unfoldable pub keeps_behind : (List ℕ → Bool) → List ℕ → List ℕ → List ℕ → List Tok → Identifier → ℕ → Bool
keeps_behind named signed new names ts g at =
    then_formals (λ e. true) (optional_formals ts at) (λ formals at1.
    then_type (λ e. true) (optional_type ts at1) (λ ret at2.
    pick (named (name_of new names g.0)) (same_bytes signed (signature ret formals)) false))

unfoldable pub keeps : (List ℕ → Bool) → List ℕ → List ℕ → List ℕ → List Tok → Bool
keeps named signed new names ts =
    then_named (λ e. true) (global_d ts 0) (λ g at. keeps_behind named signed new names ts g at)
