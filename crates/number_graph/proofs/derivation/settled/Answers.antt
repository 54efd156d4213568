use Rattle.std.proofs.Common.{◌≡◌, ◌<◌, ◌+◌, arith}
use Rattle.number_graph.proofs.DerivationLemmas.{blank_under_way, settles_none, settles_more, all_settled, below_or_last}
use Rattle.number_graph.proofs.derivation.settled.Goals as goal

pub loop-implication-init : goal.loop-implication-init
loop-implication-init c =
    let blank = c.in_ok-search.search in
    settles_none c.args.premises.now c.args.conclusions.now (λ i. i < 0) blank
    (blank_under_way c.args.premises.now c.args.conclusions.now c.args.numbers blank c.in_ok-search.ensures)
    (λ i below. omega (arith, below))

pub loop-implication-preserved : goal.loop-implication-preserved
loop-implication-preserved c =
    let place = c.loop-implication.implication in
    settles_more c.args.premises.now c.args.conclusions.now (λ i. i < place) (λ i. i ≡ place) (λ i. i < place + 1)
    c.in_ok-search.search c.loop-implication.search c.settle.new.self
    c.loop-implication.invariant c.in_ok-settle.ensures (λ i below. below_or_last i place below)

pub returns : goal.returns
returns c =
    all_settled c.args.premises.now c.args.conclusions.now c.args.numbers c.loop-implication.implication
    c.in_ok-search.search c.loop-implication.search
    c.in_ok-search.ensures c.loop-implication-test.false c.loop-implication.invariant
