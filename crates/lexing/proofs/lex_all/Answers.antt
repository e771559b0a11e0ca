-- The loop's state is `Lexing`; lexer/proofs/Turns.antt says what each answer of next_token makes of it.
use native.Mathlib.Omega.{arith}
use Prim.Native.Nat.{◌*◌}
use mathlib.Core.Path.{refl, ◌∙◌, ap}
use lib.ListN.{take}
use Rattle.std.specs.Prelude.{Ok}
use Rattle.std.proofs.lemmas.Result.{err_from_is_err_and}
use Rattle.lexer.proofs.Turns.{start, ready, tokens-room, skipped, skipped_less}
use Rattle.lexer.proofs.Turns.{refused, refused-held, token_full, token_full_held, end_full, end_full_held, end-held}
use Rattle.lexer.proofs.Turns.{count_fits, more-fits, known-fits}
use Rattle.lexer.proofs.Turns.{token_place, token-less, token-more, end-place, end-done}
use Rattle.pieces.specs.Pieces.{piece_at}
use Rattle.lexer.specs.Steps.{parts_of, added_by}
use Rattle.lexer.specs.declared.Next.{Next}
use Rattle.lexer.proofs.Prints.{no_prints, prints_kept, known_more}
use Rattle.lexing.proofs.lex_all.Goals as goal

pub loop-next-init : goal.loop-next-init
loop-next-init c = (
  start c.args.text.now c.args.line c.args.tokens.now c.args.names.now (omega (arith, c.requires))
      (omega (arith, c.requires)) (omega (arith, c.requires)) (omega (arith, c.requires)),
  no_prints c.args.text.now c.args.names.now _ (omega arith),
  refl,
)

pub next_token-requires : goal.next_token-requires
next_token-requires c =
    let may = ready c.loop-next.invariant.0 in
    (may.0, c.loop-next.invariant.1, may.1, may.2)

pub returns-in_err-next : goal.returns-in_err-next
returns-in_err-next c =
    let v = c.loop-next.invariant.0 in
    let turn = c.next_token.ensures in
    let p = err_from_is_err_and c.from_residual.result c.from_residual.ensures.1 in
    record {
      value = rw (p.1, p.2) (refused v turn.value turn.names_after c.in_err-next.was);
      held = refused-held v turn.value turn.names_after _ _ _ _ c.in_err-next.was;
    }

pub loop-next-preserved-in-Skipped : goal.loop-next-preserved-in-Skipped
loop-next-preserved-in-Skipped c =
    let turn = c.next_token.ensures in (
      skipped c.loop-next.invariant.0 turn.value turn.names_after c.in_ok-next.was c.in-Skipped.is,
      prints_kept ((added_by c.args.text.now (parts_of (take (c.loop-next.known * 2)
          c.loop-next.names)) (piece_at c.args.text.now c.loop-next.at.place c.loop-next.at.line))) _
          turn.names_after c.loop-next.invariant.1,
      c.loop-next.invariant.2,
    )

pub loop-next-smaller-in-Skipped : goal.loop-next-smaller-in-Skipped
loop-next-smaller-in-Skipped c =
    let turn = c.next_token.ensures in
    skipped_less c.loop-next.invariant.0 turn.value turn.names_after c.in_ok-next.was c.in-Skipped.is

pub push_token-requires : goal.push_token-requires
push_token-requires c =
    let v = c.loop-next.invariant.0 in
    let turn = c.next_token.ensures in
    (tokens-room v, token_place v turn.value turn.names_after c.in_ok-next.was c.in-Token.is)

pub returns-in_err-push_token-in-Token : goal.returns-in_err-push_token-in-Token
returns-in_err-push_token-in-Token c =
    let v = c.loop-next.invariant.0 in
    let turn = c.next_token.ensures in
    let p = err_from_is_err_and c.from_residual-in_err-push_token-in-Token.result
    c.from_residual-in_err-push_token-in-Token.ensures.1 in
    let full = c.in_err-push_token-in-Token.was in
    record {
      value = rw (p.1, p.2) (token_full v turn.value turn.names_after c.in_ok-next.was c.in-Token.is
          c.push_token.ensures.value full);
      held = token_full_held v turn.value turn.names_after c.in_ok-next.was c.in-Token.is
          c.push_token.ensures.value _ _ _ _ full;
    }

pub keep_print-requires : goal.keep_print-requires
keep_print-requires c =
    let turn = c.next_token.ensures in
    let more =
    token-more c.loop-next.invariant.0 turn.value turn.names_after c.in_ok-next.was c.in-Token.is
    c.push_token.ensures.value c.in_ok-push_token-in-Token.was c.push_token.ensures.cells_after in (
      (ready more).0,
      prints_kept ((added_by c.args.text.now (parts_of (take (c.loop-next.known * 2)
          c.loop-next.names)) (piece_at c.args.text.now c.loop-next.at.place c.loop-next.at.line))) _
          turn.names_after c.loop-next.invariant.1,
      known_more _ _ c.loop-next.known _
          turn.value (c.in_ok-next.was ∙ ap (λ (n : Next). Ok n) c.in-Token.is),
    )

pub loop-next-preserved : goal.loop-next-preserved
loop-next-preserved c =
    let turn = c.next_token.ensures in (
      token-more c.loop-next.invariant.0 turn.value turn.names_after c.in_ok-next.was c.in-Token.is
          c.push_token.ensures.value c.in_ok-push_token-in-Token.was c.push_token.ensures.cells_after,
      c.keep_print.ensures,
      c.keep_print.auto.prints ∙ c.loop-next.invariant.2,
    )

pub loop-next-smaller : goal.loop-next-smaller
loop-next-smaller c =
    let turn = c.next_token.ensures in
    token-less c.loop-next.invariant.0 turn.value turn.names_after c.in_ok-next.was c.in-Token.is

pub push_token-requires-in-End : goal.push_token-requires-in-End
push_token-requires-in-End c =
    let v = c.loop-next.invariant.0 in
    let turn = c.next_token.ensures in
    (tokens-room v, end-place v turn.value turn.names_after c.in_ok-next.was c.in-End.is)

pub returns-in_err-push_token-in-End : goal.returns-in_err-push_token-in-End
returns-in_err-push_token-in-End c =
    let v = c.loop-next.invariant.0 in
    let turn = c.next_token.ensures in
    let p = err_from_is_err_and c.from_residual-in_err-push_token-in-End.result
    c.from_residual-in_err-push_token-in-End.ensures.1 in
    let full = c.in_err-push_token-in-End.was in
    record {
      value = rw (p.1, p.2) (end_full v turn.value turn.names_after c.in_ok-next.was c.in-End.is
          c.push_token-in-End.ensures.value full);
      held = end_full_held v turn.value turn.names_after c.in_ok-next.was c.in-End.is
          c.push_token-in-End.ensures.value _ _ _ _ full;
    }

pub returns-in-End : goal.returns-in-End
returns-in-End c =
    let v = c.loop-next.invariant.0 in
    let turn = c.next_token.ensures in
    let push = c.push_token-in-End.ensures in
    let stored = c.in_ok-push_token-in-End.was in
    record {
      value = end-done v turn.value turn.names_after c.in_ok-next.was c.in-End.is push.value stored push.cells_after;
      held = end-held v turn.value turn.names_after c.in_ok-next.was c.in-End.is push.value stored push.cells_after;
    }

pub overflow_cast-result : goal.overflow_cast-result
overflow_cast-result c = search count_fits

pub overflow_add-result : goal.overflow_add-result
overflow_add-result c = search more-fits

pub overflow_cast-result-in-End : goal.overflow_cast-result-in-End
overflow_cast-result-in-End c = search known-fits
