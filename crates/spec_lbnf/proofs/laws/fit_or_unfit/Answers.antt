use Rattle.spec_lbnf.proofs.CheckLemmas.{fit_or_unfit, one_unfitness}
use Rattle.spec_lbnf.proofs.laws.fit_or_unfit.Goals as goal

pub returns-clause-either : goal.returns-clause-either
returns-clause-either c = fit_or_unfit

pub returns-clause-one : goal.returns-clause-one
returns-clause-one c = one_unfitness
