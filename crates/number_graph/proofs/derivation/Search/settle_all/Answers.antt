use Rattle.std.proofs.Common.{ℕ, ◌≡◌, ◌+◌, take, slice_index_or}
use Rattle.std.specs.List.{Contains}
use Rattle.number_graph.proofs.LinkLemmas.{stands_at}
use Rattle.number_graph.proofs.DerivationLemmas.{front_or_last, settles_more}
use Rattle.number_graph.proofs.derivation.Search.settle_all.Goals as goal

pub settle-requires-clause-implication : goal.settle-requires-clause-implication
settle-requires-clause-implication c =
    let implications = c.args.implications.now in
    let place = c.loop-implication.implication-index in
    c.requires.implications (slice_index_or implications place 0)
    (stands_at implications place c.loop-implication-test.true)

pub loop-implication-preserved : goal.loop-implication-preserved
loop-implication-preserved c =
    let implications = c.args.implications.now in
    let place = c.loop-implication.implication-index in
    let one : ℕ = slice_index_or implications place 0 in
    settles_more c.args.premises.now c.args.conclusions.now (Contains (take place implications)) (λ i. i ≡ one)
    (Contains (take (place + 1) implications)) c.args.self.now c.loop-implication.self c.settle.new.self
    c.loop-implication.invariant c.in_ok-settle.ensures (front_or_last implications place c.loop-implication-test.true)
