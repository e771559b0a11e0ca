-- Where the new text begins and ends as one function, `recheck_whole` answers; where not, 40 is the answer.
use native.Mathlib.Omega.{arith}
use Prim.Native.Nat.{ℕ}
use mathlib.Core.Path.{◌≡◌, sym, ap, subst, ◌∙◌}
use mathlib.Core.Bool.{true}
use mathlib.Core.List.{List}
use Rattle.lexer.specs.Decoded.{tokens_of}
use Rattle.headers.specs.Kept.{is_whole}
use Rattle.checker.proofs.Lexed.{used_tokens, used_names, tokens_few}
use Rattle.recheck.specs.Recheck.{refused_with}
use Rattle.rechecker.proofs.Ends.{not-whole, refused_with_lem}
use Rattle.rechecker.proofs.recheck_lexed.Goals as goal

pub recheck_whole-requires : goal.recheck_whole-requires
recheck_whole-requires c = (
  c.requires.0,
  c.requires.1,
  subst (λ (x : List ℕ). is_whole c.args.new.now (tokens_of x) ≡ true) (used_tokens c.requires.1)
      (sym c.is_whole.ensures ∙ c.if-is_whole.true),
  c.requires.2,
)

pub returns-then-is_whole : goal.returns-then-is_whole
returns-then-is_whole c =
    c.recheck_whole.ensures

pub returns-clause-checks : goal.returns-clause-checks
returns-clause-checks c =
    let ends = not-whole c.args.old.now c.args.table.now c.args.number c.args.new.now c.args.message.now
    c.args.message.now c.args.tokens.now c.args.names.now c.args.r c.requires.0 c.requires.1 _ _ (used_tokens
    c.requires.1)
    (used_names c.requires.1) (sym c.is_whole.ensures ∙ c.if-is_whole.false) in
    refused_with_lem _ 40 _ _ c.args.message.now _ _ _ _
    (ends ∙ ap (λ (k : ℕ). refused_with 40 k 0) (sym c.cell_at.ensures)) (λ z. omega (arith, z))
    c.refuse_plain.ensures.0 c.refuse_plain.ensures.1

pub slice_bounds-is_whole-end : goal.slice_bounds-is_whole-end
slice_bounds-is_whole-end c =
    omega (arith, tokens_few c.requires.1, c.requires.2.tokens_long)
