-- The commands of the script go on from those of the beginning.
use Rattle.spec_session.proofs.SessionsLemmas.{replies_come_first}
use Rattle.spec_session.proofs.laws.replies_come_first.Goals as goal

pub returns : goal.returns
returns c = replies_come_first
