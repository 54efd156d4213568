-- By the leaves under a tree.
use Rattle.spec_grammar.proofs.DerivationLemmas.{derives_within, derives_all_within}
use Rattle.spec_grammar.proofs.laws.spans_lie_within.Goals as goal

pub returns-clause-symbol : goal.returns-clause-symbol
returns-clause-symbol c = derives_within

pub returns-clause-items : goal.returns-clause-items
returns-clause-items c = derives_all_within
