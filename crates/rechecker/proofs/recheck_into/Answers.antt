-- A bad table is 42; else the new text is read, and what is read is held against the table.
use native.Mathlib.Omega.{arith}
use Prim.Native.Nat.{ℕ}
use mathlib.Core.Path.{sym, subst, ◌∙◌}
use Rattle.checker.specs.Promise.{Lexed}
use Rattle.checker.proofs.Ends.{is-lexed, as_long-before}
use Rattle.recheck.specs.Recheck.{recheck_of}
use Rattle.rechecker.proofs.Ends.{bad_table, line_small, not-lexed, refused_with_lem}
use Rattle.rechecker.proofs.recheck_into.Goals as goal

pub returns-then-not-is_table-clause-checks : goal.returns-then-not-is_table-clause-checks
returns-then-not-is_table-clause-checks c =
    refused_with_lem _ 42 0 _ c.args.message.now _ _ _ _
    (bad_table c.args.old.now c.args.table.now c.args.number c.args.new.now
    (sym c.is_table.ensures ∙ c.if-not-is_table.true))
    (λ z. omega (arith, z)) c.refuse_plain.ensures.0 c.refuse_plain.ensures.1

pub read_into-r-requires : goal.read_into-r-requires
read_into-r-requires c = (
  omega (
    arith,
    line_small c.args.old.now c.args.table.now c.args.number
        (sym c.is_table.ensures ∙ c.if-not-is_table.false) _ c.cell_at-line.ensures,
  ),
  c.requires.tokens_long,
  c.requires.names_long,
  c.requires.message_long,
)

pub recheck_lexed-requires : goal.recheck_lexed-requires
recheck_lexed-requires c =
    let lexed = is-lexed _ c.args.new.now c.args.message.now c.read_into-r.result _ _ _ c.read_into-r.ensures
    c.if-r-eq-ACCEPTED.true in (
      sym c.is_table.ensures ∙ c.if-not-is_table.false,
      subst (λ (k : ℕ). Lexed k c.args.new.now c.read_into-r.result c.read_into-r.new.tokens
          c.read_into-r.new.names) c.cell_at-line.ensures lexed,
      record {
        message_long = omega (arith, c.requires.message_long, c.read_into-r.auto.message);
        tokens_long = omega (arith, c.requires.tokens_long, c.read_into-r.auto.tokens);
        names_long = omega (arith, c.requires.names_long, c.read_into-r.auto.names);
        functions_long = c.requires.functions_long;
        long = c.requires.long;
      },
    )

pub returns-then-r-eq-ACCEPTED-clause-checks : goal.returns-then-r-eq-ACCEPTED-clause-checks
returns-then-r-eq-ACCEPTED-clause-checks c =
    as_long-before (recheck_of c.args.old.now c.args.table.now c.args.number c.args.new.now) c.args.message.now _ _ _
    _ _ _
    c.read_into-r.auto.message c.recheck_lexed.ensures.checks

pub returns-clause-checks : goal.returns-clause-checks
returns-clause-checks c =
    rw c.refused.ensures
    (not-lexed _ c.args.new.now c.args.message.now c.read_into-r.result _ _ _ c.read_into-r.ensures
    c.args.old.now c.args.table.now c.args.number
    (sym c.is_table.ensures ∙ c.if-not-is_table.false) c.cell_at-line.ensures
    c.if-r-eq-ACCEPTED.false _)
