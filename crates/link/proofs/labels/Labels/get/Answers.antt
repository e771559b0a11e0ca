-- The place among the labels tells the block.
use Rattle.std.proofs.Common.{◌≡◌, eqb, rules, tests}
use Rattle.std.specs.Prelude.{position}
use Rattle.std.proofs.lemmas.Iterator.{YieldsList-from_slice}
use Rattle.std.proofs.lemmas.Iterator.Search.{position_from_yields_List}
use Rattle.link.proofs.Scanning.{label_placed}
use Rattle.link.proofs.labels.Labels.get.Goals as goal

pub returns-in_err-i : goal.returns-in_err-i
returns-in_err-i c =
    let xs = c.args.self.names.now in
    let e : c.position.result ≡ position (λ x. eqb x c.args.name.0) xs =
    position_from_yields_List (λ x. eqb x c.args.name.0) _ _ c.position.result c.position.ensures.ran
    (YieldsList-from_slice xs cc) (λ x b q k. search (rules, tests)) in
    rw (c.from_residual.ensures, label_placed c.args.self.leading c.args.name.0 xs, ← e, c.in_err-i.was)

pub returns : goal.returns
returns c =
    let xs = c.args.self.names.now in
    let e : c.position.result ≡ position (λ x. eqb x c.args.name.0) xs =
    position_from_yields_List (λ x. eqb x c.args.name.0) _ _ c.position.result c.position.ensures.ran
    (YieldsList-from_slice xs cc) (λ x b q k. search (rules, tests)) in
    rw (label_placed c.args.self.leading c.args.name.0 xs, ← e, c.in_ok-i.was, c.block_of.ensures)
