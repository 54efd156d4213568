-- By the leaves under a tree.
use Rattle.spec_grammar.proofs.DerivationLemmas.{derives_kinds}
use Rattle.spec_grammar.proofs.laws.no_stray_is_derived.Goals as goal

pub returns : goal.returns
returns c = derives_kinds
