-- The list is held to what stands in front, and `rest` to each thing behind it (`split`).
use Rattle.std.proofs.Common.{ℕ, eqb, length, take, drop, sym, ◌∙◌, rules, tests}
use Rattle.std.proofs.lemmas.Iterator.{YieldsList-from_slice, YieldsList-from_zip}
use Rattle.std.proofs.lemmas.Iterator.Consumers.{YieldsList-at}
use Rattle.std.proofs.lemmas.Iterator.Search.{all_from_yields_List}
use Rattle.std.proofs.lemmas.Bool.{and_left}
use Rattle.replay.proofs.Filled.{split, too_short}
use Rattle.replay.proofs.held.same.Goals as goal

pub returns-then-got-list : goal.returns-then-got-list
returns-then-got-list g c = too_short g.T.Lent.value c.args.rest c.args.got.now c.args.list.now c.if-got-list.true

pub returns-then-all : goal.returns-then-all
returns-then-all g c =
    let list = c.args.list.now in
    let n = length list in
    let got = c.args.got.now in
    let value = g.T.Lent.value in
    let first = all_from_yields_List (λ (p : g.row.T.Denot × ℕ). eqb (value p.0) p.1) c.all.new.self tt c.all.result
    c.all.ensures.ran
    (YieldsList-from_zip
    (YieldsList-at c.zip.ensures.first
    (YieldsList-from_slice (take n got) (c.iter.ensures.rest ∙ c.split_at.ensures.front)))
    (YieldsList-from_slice list (search rules)))
    (λ x b q k. search (rules, tests)) in
    let second = all_from_yields_List (λ (x : g.row.T.Denot). eqb (value x) c.args.rest) c.all-then-all.new.self _
    c.all-then-all.result c.all-then-all.ensures.ran
    (YieldsList-from_slice (drop n got) (c.iter-then-all.ensures.rest ∙ c.split_at.ensures.back))
    (λ x b q k. search (rules, tests)) in
    second ∙ sym (rw (sym first ∙ c.if-all.true) at (split value c.args.rest got list c.if-got-list.false))

pub returns-else-all : goal.returns-else-all
returns-else-all g c =
    let list = c.args.list.now in
    let n = length list in
    let got = c.args.got.now in
    let value = g.T.Lent.value in
    let first = all_from_yields_List (λ (p : g.row.T.Denot × ℕ). eqb (value p.0) p.1) c.all.new.self tt c.all.result
    c.all.ensures.ran
    (YieldsList-from_zip
    (YieldsList-at c.zip.ensures.first
    (YieldsList-from_slice (take n got) (c.iter.ensures.rest ∙ c.split_at.ensures.front)))
    (YieldsList-from_slice list (search rules)))
    (λ x b q k. search (rules, tests)) in
    let both = split value c.args.rest got list c.if-got-list.false in
    c.if-all.false ∙ sym (both ∙ and_left _ _ (sym first ∙ c.if-all.false))
