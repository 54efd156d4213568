use Rattle.std.proofs.Common.{sym, subst}
use Rattle.number_graph.specs.Graphs.{AreFlagsOf}
use Rattle.number_graph.specs.Implications.{ImplicationList, AreImplicationsWithin, Follows}
use Rattle.number_graph.proofs.ImplicationLemmas.{searchable, found_flags}
use Rattle.number_graph.proofs.implications.consequences.Goals as goal

pub derivation-requires : goal.derivation-requires
derivation-requires c =
    let inside = c.implications.inside in
    let list : ImplicationList = record { premises = inside.premises; conclusions = inside.conclusions.items } in
    rw c.as_slice-conclusions.ensures.value (searchable c.args.total list c.implications.invariant
    (subst (AreImplicationsWithin c.args.total) (sym c.implications.view_is) c.requires))

pub returns : goal.returns
returns c =
    let inside = c.implications.inside in
    let list : ImplicationList = record { premises = inside.premises; conclusions = inside.conclusions.items } in
    let AreFlags : ImplicationList → Type 0 =
    λ i. AreFlagsOf c.args.total (Follows i) c.in_ok-found.found.flags.items in
    subst AreFlags c.implications.view_is (found_flags list c.args.total c.in_ok-found.found
    (rw c.as_slice-conclusions.ensures.value at c.in_ok-found.ensures))
