-- A known end is the least; no cut is before the span; and some place in it is one.
use Rattle.std.proofs.Common.{drop, arith}
use Rattle.spec_grammar.proofs.DerivationLemmas.{derives_all_within}
use Rattle.first_tree.proofs.ChoosingLemmas.{no_cut_before, last_cut, next_derives, known_cut}
use Rattle.first_tree.proofs.choosing.least_cut.Goals as goal

pub known_end-requires : goal.known_end-requires
known_end-requires g c =
    let rest = c.args.rest in
    next_derives (c.args.bin.now).rules (c.args.chart.now).kinds (c.args.rule.now).items c.items_behind-behind.result.now rest.place
    c.next_item-item.result rest.first rest.end c.next_item-item.ensures.item c.items_behind-behind.ensures c.requires.derives

pub returns-in-Some : goal.returns-in-Some
returns-in-Some g c =
    let rest = c.args.rest in
    known_cut (c.args.bin.now).rules (c.args.chart.now).kinds (c.args.rule.now).items c.items_behind-behind.result.now rest.place
    c.next_item-item.result rest.first rest.end c.next_item-item.ensures.item c.items_behind-behind.ensures c.requires.derives
    c.in-Some.place c.requires.item c.in-Some.ensures

pub loop-place-init : goal.loop-place-init
loop-place-init g c = λ k before cut.
    let rest = c.args.rest in
    no_cut_before (c.args.bin.now).rules (c.args.chart.now).kinds (drop rest.place (c.args.rule.now).items) rest.first rest.end k
    before cut

pub is_cut-requires-clause-within : goal.is_cut-requires-clause-within
is_cut-requires-clause-within g c κs loop =
    let rest = c.args.rest in
    (derives_all_within (c.args.bin.now).rules (c.args.chart.now).kinds (drop rest.place (c.args.rule.now).items) rest.first rest.end
    c.requires.derives).1

pub returns : goal.returns
returns g c =
    let rest = c.args.rest in
    last_cut (c.args.bin.now).rules (c.args.chart.now).kinds (c.args.rule.now).items rest.place rest.first rest.end
    c.loop-place.place c.requires.item c.requires.derives (omega (arith, c.loop-place-test.false)) c.loop-place.invariant
