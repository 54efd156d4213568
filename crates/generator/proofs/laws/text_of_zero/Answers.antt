use Rattle.std.proofs.Common.{refl}
use Rattle.generator.specs.Draws.{drawn}
use Rattle.generator.proofs.laws.text_of_zero.Goals as goal

pub returns : goal.returns
unfolding drawn
returns c = refl
