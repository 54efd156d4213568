use Rattle.std.proofs.Common.{below_more, sym, ◌∙◌, arith}
use Rattle.std.proofs.lemmas.Bool.{false≢true}
use Rattle.number_graph.specs.Graphs.{IsOnCycle}
use Rattle.number_graph.proofs.HeightLemmas.{none_on_cycle}
use Rattle.number_graph.proofs.cycle.least_on_cycle.Goals as goal

pub loop-number-preserved : goal.loop-number-preserved
loop-number-preserved c =
    let links = c.args.links.now in
    below_more (λ n. IsOnCycle links n → ⊥) c.loop-number.number c.loop-number.invariant
    (λ on. false≢true (sym c.if-branch.false ∙ c.in_ok-is_on_cycle.ensures.1 on))

pub returns : goal.returns
returns c =
    none_on_cycle c.args.links.now c.loop-number.number
    (omega (arith, c.loop-number-test.false, c.count-number-end.ensures)) c.loop-number.invariant
