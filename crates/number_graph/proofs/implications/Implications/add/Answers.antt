use Rattle.std.proofs.Common.{subst}
use Rattle.number_graph.specs.Implications.{ImplicationList, AddsImplication}
use Rattle.number_graph.proofs.ImplicationLemmas.{adds_implication}
use Rattle.number_graph.proofs.implications.Implications.add.Goals as goal

pub returns-clause-ok : goal.returns-clause-ok
returns-clause-ok c =
    let inside = c.self.inside in
    let new : ImplicationList =
    record { premises = c.push.new.self; conclusions = c.push_reserved.new.self.items } in
    let AddsTo : ImplicationList → Type 0 =
    λ old. AddsImplication old new c.args.premises.now c.args.conclusion in
    subst AddsTo c.self.view_is (rw (c.push_reserved.ensures.items, c.in_ok-reserve.ensures.items)
    (adds_implication inside.premises c.push.new.self inside.conclusions.items c.args.premises.now
    c.args.conclusion c.self.invariant c.in_ok-push.ensures.ok))
