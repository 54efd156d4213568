-- A grammar is without a cycle, or has one first cyclic category.
use Rattle.std.proofs.Common.{slice_get, sym, ap, ◌∙◌}
use Rattle.std.proofs.lemmas.Option.{same_Some}
use Rattle.spec_grammar.specs.Cycles.{IsCyclic}
use Rattle.spec_lbnf.specs.Laws.{AcyclicOrCyclic, OneCyclic}
use Rattle.spec_lbnf.proofs.FirstLemmas.{one_first}

-- no grammar both is without a cycle and has a first cyclic category
pub acyclic_or_cyclic : AcyclicOrCyclic
acyclic_or_cyclic g name acyclic first = acyclic first.0 first.1.is_so

-- at most one text is that of the first cyclic category
pub one_cyclic : OneCyclic
one_cyclic g a b first other =
    let same = one_first (IsCyclic g.rules) first.0 other.0 first.1 other.1 in
    same_Some a b (sym first.2 ∙ ap (slice_get g.categories) same ∙ other.2)
