use Rattle.generated_run.proofs.GeneratedRunLemmas.{one_generated_line}
use Rattle.generated_run.proofs.laws.one_generated_line.Goals as goal

pub returns : goal.returns
returns c = one_generated_line
