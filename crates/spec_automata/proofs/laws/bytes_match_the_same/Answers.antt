-- By recursion on the expression: what is read of a text leaves a text.
use Rattle.spec_automata.proofs.EncodingLemmas.{bytes_match, kinds_match}
use Rattle.spec_automata.proofs.laws.bytes_match_the_same.Goals as goal

pub returns-clause-expressions : goal.returns-clause-expressions
returns-clause-expressions c = bytes_match

pub returns-clause-kinds : goal.returns-clause-kinds
returns-clause-kinds c = kinds_match
