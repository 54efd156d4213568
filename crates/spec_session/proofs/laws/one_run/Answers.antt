-- A command has one reply and leaves one state.
use Rattle.spec_session.proofs.RunLemmas.{one_run}
use Rattle.spec_session.proofs.laws.one_run.Goals as goal

pub returns : goal.returns
returns c = one_run
