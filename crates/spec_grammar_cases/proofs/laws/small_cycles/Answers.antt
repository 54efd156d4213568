-- Each case by its rules.
use Rattle.spec_grammar_cases.proofs.CycleCases.{small_cycles}
use Rattle.spec_grammar_cases.proofs.laws.small_cycles.Goals as goal

pub returns : goal.returns
returns c = small_cycles
