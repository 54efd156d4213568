use Rattle.generated_run.proofs.GeneratedRunLemmas.{small_run}
use Rattle.generated_run.proofs.laws.small_run.Goals as goal

pub returns : goal.returns
returns c = small_run
