use Rattle.cyk_io.proofs.BlocksLemmas.{each_block_has_an_answer, each_block_has_one_answer}
use Rattle.cyk_io.proofs.laws.each_block_has_one_answer.Goals as goal

pub returns-clause-some : goal.returns-clause-some
returns-clause-some c = each_block_has_an_answer

pub returns-clause-one : goal.returns-clause-one
returns-clause-one c = each_block_has_one_answer
