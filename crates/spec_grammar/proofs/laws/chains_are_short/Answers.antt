-- The categories of a chain are distinct.
use Rattle.spec_grammar.proofs.CycleLemmas.{chain_is_short}
use Rattle.spec_grammar.proofs.laws.chains_are_short.Goals as goal

pub returns : goal.returns
returns c = λ rules count first below acyclic is chain. chain_is_short rules count below acyclic first is chain
