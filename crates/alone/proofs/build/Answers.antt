-- The header is kept or 41 is answered; what parsing leaves, with the row in its place among the old headers, is what
-- typing asks; and each return is the verdict: the first refusal, or the function with its types.
use native.Mathlib.Omega.{arith}
use Rattle.std.proofs.lemmas.Result.{err_from_is_err_and}
use Prim.Native.Nat.{◌≤◌}
use Rattle.std.proofs.Common.{rules}
use mathlib.Core.Path.{sym, ◌∙◌}
use lib.ListN.{length}
use Rattle.lexer.specs.Decoded.{tokens_of}
use Rattle.functions.specs.Answer.{held}
use Rattle.headers.proofs.Ranges.{table_in_range}
use Rattle.alone.proofs.Building.{parsed_is, header_changed, parse_refused, typing_asks, types-refused, types-fine}
use Rattle.alone.proofs.build.Goals as goal

pub keeps-requires : goal.keeps-requires
keeps-requires c =
    let t = table_in_range c.args.old.now c.args.rows.now c.args.number c.requires.0 in
    (omega (arith, t.there, t.in_range.count), c.requires.5)

pub returns-then-not-keeps : goal.returns-then-not-keeps
returns-then-not-keeps c =
    let w = header_changed c.args.old.now c.args.rows.now c.args.number c.args.new.now (tokens_of c.args.tokens.now)
    c.args.names.now c.args.unit.now.functions.now c.args.unit.now.items.now c.args.unit.now.arguments.now
    c.args.unit.now.blocks.now
    c.args.unit.now.predecessors.now
    c.refuse.result c.refuse.ensures (sym c.keeps.ensures ∙ c.if-not-keeps.true) _ in
    record { value = w.0; verdict_held = w.1.0; counted = w.1.1; same = search rules }

pub place_alone-at-requires : goal.place_alone-at-requires
place_alone-at-requires c =
    let t = table_in_range c.args.old.now c.args.rows.now c.args.number c.requires.0 in (
      t.there,
      t.in_range.count,
      omega (arith, c.requires.3, c.parse_alone.ensures.same.functions_long),
      omega (arith, c.requires.5, c.keeps.auto.local),
    )

pub type_rows-requires : goal.type_rows-requires
type_rows-requires c =
    let kept = sym c.keeps.ensures ∙ c.if-not-keeps.false in
    let parsed =
    parsed_is (tokens_of c.args.tokens.now) c.args.names.now c.in_ok-n.n
    (held c.args.unit.now)
    (held c.parse_alone.new.unit)
    (sym c.in_ok-n.was ∙ c.parse_alone.ensures.value) c.parse_alone.ensures.function_held in
    let room : 2881 ≤ length c.keeps.new.local =
    omega (arith, c.requires.5, c.keeps.auto.local) in
    typing_asks c.args.old.now c.args.rows.now c.args.number c.args.new.now (tokens_of c.args.tokens.now)
    c.args.names.now c.args.unit.now.functions.now c.args.unit.now.items.now c.args.unit.now.arguments.now
    c.args.unit.now.blocks.now
    c.args.unit.now.predecessors.now
    kept c.requires.0 c.args.known c.requires.1 c.requires.3 c.requires.4 c.in_ok-n.n
    c.parse_alone.new.unit.functions.now c.parse_alone.new.unit.items.now c.parse_alone.new.unit.arguments.now
    c.parse_alone.new.unit.blocks.now
    c.parse_alone.new.unit.predecessors.now parsed
    c.keeps.new.local c.place_alone-at.new.local c.place_alone-at.new.functions c.place_alone-at.result room
    c.place_alone-at.ensures (omega (arith, room, c.place_alone-at.auto.local))

pub returns-in_err-n : goal.returns-in_err-n
returns-in_err-n c =
    let kept = sym c.keeps.ensures ∙ c.if-not-keeps.false in
    let w = parse_refused c.args.old.now c.args.rows.now c.args.number c.args.new.now (tokens_of c.args.tokens.now)
    c.args.names.now c.args.unit.now.functions.now c.args.unit.now.items.now c.args.unit.now.arguments.now
    c.args.unit.now.blocks.now
    c.args.unit.now.predecessors.now
    kept _ (sym c.in_err-n.was ∙ c.parse_alone.ensures.value) _ in
    let p = err_from_is_err_and c.from_residual.result c.from_residual.ensures.1 in
    record { value = rw (p.1, p.2) w.0; verdict_held = w.1.0; counted = rw p.1 tt; same = search rules }

pub returns-in_err-type_rows : goal.returns-in_err-type_rows
returns-in_err-type_rows c =
    let kept = sym c.keeps.ensures ∙ c.if-not-keeps.false in
    let parsed =
    parsed_is (tokens_of c.args.tokens.now) c.args.names.now c.in_ok-n.n
    (held c.args.unit.now)
    (held c.parse_alone.new.unit)
    (sym c.in_ok-n.was ∙ c.parse_alone.ensures.value) c.parse_alone.ensures.function_held in
    let room : 2881 ≤ length c.keeps.new.local =
    omega (arith, c.requires.5, c.keeps.auto.local) in
    let w = types-refused c.args.old.now c.args.rows.now c.args.number c.args.new.now (tokens_of c.args.tokens.now)
    c.args.names.now c.args.unit.now.functions.now c.args.unit.now.items.now c.args.unit.now.arguments.now
    c.args.unit.now.blocks.now
    c.args.unit.now.predecessors.now
    kept c.requires.0 c.args.known c.requires.1 c.requires.3 c.requires.4 c.in_ok-n.n
    c.parse_alone.new.unit.functions.now c.parse_alone.new.unit.items.now c.parse_alone.new.unit.arguments.now
    c.parse_alone.new.unit.blocks.now
    c.parse_alone.new.unit.predecessors.now parsed
    c.keeps.new.local c.place_alone-at.new.local c.place_alone-at.new.functions c.place_alone-at.result room
    c.place_alone-at.ensures
    c.type_rows.result c.type_rows.new.items c.type_rows.new.arguments c.type_rows.ensures _
    c.in_err-type_rows.was _ in
    let p = err_from_is_err_and c.from_residual-in_err-type_rows.result c.from_residual-in_err-type_rows.ensures.1 in
    record { value = rw (p.1, p.2) w.0; verdict_held = w.1.0; counted = rw p.1 tt; same = search rules }

pub returns : goal.returns
returns c =
    let kept = sym c.keeps.ensures ∙ c.if-not-keeps.false in
    let parsed =
    parsed_is (tokens_of c.args.tokens.now) c.args.names.now c.in_ok-n.n
    (held c.args.unit.now)
    (held c.parse_alone.new.unit)
    (sym c.in_ok-n.was ∙ c.parse_alone.ensures.value) c.parse_alone.ensures.function_held in
    let room : 2881 ≤ length c.keeps.new.local =
    omega (arith, c.requires.5, c.keeps.auto.local) in
    let w = types-fine c.args.old.now c.args.rows.now c.args.number c.args.new.now (tokens_of c.args.tokens.now)
    c.args.names.now c.args.unit.now.functions.now c.args.unit.now.items.now c.args.unit.now.arguments.now
    c.args.unit.now.blocks.now
    c.args.unit.now.predecessors.now
    kept c.requires.0 c.args.known c.requires.1 c.requires.3 c.requires.4 c.in_ok-n.n
    c.parse_alone.new.unit.functions.now c.parse_alone.new.unit.items.now c.parse_alone.new.unit.arguments.now
    c.parse_alone.new.unit.blocks.now
    c.parse_alone.new.unit.predecessors.now parsed
    c.keeps.new.local c.place_alone-at.new.local c.place_alone-at.new.functions c.place_alone-at.result room
    c.place_alone-at.ensures
    c.type_rows.result c.type_rows.new.items c.type_rows.new.arguments c.type_rows.ensures c.in_ok-type_rows.was in
    record { value = w.0; verdict_held = w.1.0; counted = w.1.1; same = search rules }
