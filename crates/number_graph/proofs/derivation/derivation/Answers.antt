use Rattle.std.proofs.Common.{arith}
use Rattle.number_graph.proofs.DerivationLemmas.{search_found}
use Rattle.number_graph.proofs.derivation.derivation.Goals as goal

pub returns : goal.returns
returns c =
    search_found c.args.premises.now c.args.conclusions.now c.args.numbers c.loop-next.next c.loop-next.search
    c.loop-next.invariant (omega (arith, c.loop-next-test.false, c.len.ensures, c.loop-next.search.order.ok.0))
