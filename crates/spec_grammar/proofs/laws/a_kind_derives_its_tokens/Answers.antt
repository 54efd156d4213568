-- A tree of a kind is a leaf.
use Rattle.spec_grammar.proofs.DerivationLemmas.{kind_derives}
use Rattle.spec_grammar.proofs.laws.a_kind_derives_its_tokens.Goals as goal

pub returns : goal.returns
returns c = kind_derives
