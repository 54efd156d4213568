-- A run of the commands begins with the run of the first.
use Rattle.spec_session.proofs.BeginningsLemmas.{first_list}
use Rattle.spec_session.proofs.laws.first_replies_come_first.Goals as goal

pub returns : goal.returns
returns c = first_list
