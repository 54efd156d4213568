-- All of the closing text is the longest front of it.
use Rattle.spec_automata.proofs.BorderLemmas.{inside_is_open, inside_is_closed}
use Rattle.spec_automata.proofs.laws.comments_are_open_or_closed.Goals as goal

pub returns-clause-open : goal.returns-clause-open
returns-clause-open c = inside_is_open

pub returns-clause-closed : goal.returns-clause-closed
returns-clause-closed c = inside_is_closed
