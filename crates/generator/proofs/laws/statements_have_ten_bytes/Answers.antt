use Rattle.generator.proofs.GeneratedLemmas.{ten_bytes}
use Rattle.generator.proofs.laws.statements_have_ten_bytes.Goals as goal

pub returns : goal.returns
returns c = ten_bytes
