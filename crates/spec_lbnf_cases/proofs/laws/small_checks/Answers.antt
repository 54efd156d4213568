-- Each case by the checks that it passes and the one that it fails.
use Rattle.spec_lbnf_cases.proofs.CheckExamples.{small_checks}
use Rattle.spec_lbnf_cases.proofs.laws.small_checks.Goals as goal

pub returns : goal.returns
returns c = small_checks
