-- Of two beginnings one is the front of the other, and behind the shorter no command follows.
use Rattle.spec_script.proofs.BeginningLemmas.{one_script}
use Rattle.spec_script.proofs.laws.one_script.Goals as goal

pub returns : goal.returns
returns c = one_script
