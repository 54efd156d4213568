-- Each case by its tree, or by the laws.
use Rattle.spec_grammar_cases.proofs.DerivationCases.{small_cases}
use Rattle.spec_grammar_cases.proofs.laws.small_cases.Goals as goal

pub returns : goal.returns
returns c = small_cases
