use Rattle.spec_lbnf.proofs.CycleLemmas.{acyclic_or_cyclic, one_cyclic}
use Rattle.spec_lbnf.proofs.laws.acyclic_or_cyclic.Goals as goal

pub returns-clause-either : goal.returns-clause-either
returns-clause-either c = acyclic_or_cyclic

pub returns-clause-one : goal.returns-clause-one
returns-clause-one c = one_cyclic
