-- A front part of a chain is a chain.
use Rattle.spec_grammar.proofs.CycleLemmas.{rank_is_one}
use Rattle.spec_grammar.proofs.laws.one_rank.Goals as goal

pub returns : goal.returns
returns c = rank_is_one
