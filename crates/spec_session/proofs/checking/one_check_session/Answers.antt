-- A form without commands has fronts, and the lines of the rules are one text.
use Rattle.spec_session.proofs.CheckingLemmas.{one_check_session}
use Rattle.spec_session.proofs.checking.one_check_session.Goals as goal

pub returns : goal.returns
returns c = one_check_session
