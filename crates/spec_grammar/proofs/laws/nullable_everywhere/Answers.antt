-- A tree over an empty span is moved.
use Rattle.spec_grammar.proofs.DerivationLemmas.{nullable_derives}
use Rattle.spec_grammar.proofs.laws.nullable_everywhere.Goals as goal

pub returns : goal.returns
returns c = nullable_derives
