-- A tree of a category is a node.
use Rattle.spec_grammar.proofs.DerivationLemmas.{category_derives}
use Rattle.spec_grammar.proofs.laws.a_category_derives_by_its_rules.Goals as goal

pub returns : goal.returns
returns c = category_derives
