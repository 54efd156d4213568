-- A chain goes on behind a step.
use Rattle.spec_grammar.proofs.CycleLemmas.{step_lowers_rank}
use Rattle.spec_grammar.proofs.laws.steps_lower_ranks.Goals as goal

pub returns : goal.returns
returns c = step_lowers_rank
