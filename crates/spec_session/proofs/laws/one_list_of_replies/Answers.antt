-- Commands have one run, and its lines are read off it.
use Rattle.spec_session.proofs.BeginningsLemmas.{one_list}
use Rattle.spec_session.proofs.laws.one_list_of_replies.Goals as goal

pub returns : goal.returns
returns c = one_list
