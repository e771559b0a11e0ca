-- The record at `at * 4` is the token at `at` of the decoded list.
use borrow.Author.Tests.{lt-ltb, le-ltb}
use Rattle.lexer.proofs.Records.{tokens-count, token_record}
use Rattle.lexer.specs.Decoded.{is_name, name_in, integer_in, token_at}
use Rattle.utils.specs.Bytes.{pick}
use Rattle.lexer.proofs.token_at.Goals as goal

pub returns-then-at-tokens : goal.returns-then-at-tokens
unfolding token_at pick
returns-then-at-tokens c =
    simp (
      c.name_in.ensures,
      c.integer_in.ensures,
      c.index_behind.ensures,
      tokens-count,
      lt-ltb _ _ c.if-at-tokens.true,
      token_record c.args.tokens.now c.args.at c.if-at-tokens.true,
    )

pub returns : goal.returns
unfolding token_at is_name name_in integer_in pick
returns c = simp (tokens-count, le-ltb _ _ c.if-at-tokens.false)
