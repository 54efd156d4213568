-- A forest is empty, or a tree before others.
use Rattle.spec_grammar.proofs.DerivationLemmas.{none_derive, some_derive}
use Rattle.spec_grammar.proofs.laws.items_derive_in_turn.Goals as goal

pub returns-clause-none : goal.returns-clause-none
returns-clause-none c = none_derive

pub returns-clause-some : goal.returns-clause-some
returns-clause-some c = some_derive
