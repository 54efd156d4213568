-- Each command has a reply under an accepted grammar.
use Rattle.spec_session.proofs.BeginningsLemmas.{some_list}
use Rattle.spec_session.proofs.laws.some_replies.Goals as goal

pub returns : goal.returns
returns c = some_list
