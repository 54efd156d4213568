-- An input is one script, and a command has one reply.
use Rattle.spec_session.proofs.SessionsLemmas.{replies_then_last_line}
use Rattle.spec_session.proofs.laws.replies_then_last_line.Goals as goal

pub returns : goal.returns
returns c = replies_then_last_line
