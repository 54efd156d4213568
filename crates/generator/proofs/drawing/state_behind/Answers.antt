use Rattle.generator.proofs.DrawsLemmas.{state_from_parts}
use Rattle.generator.proofs.drawing.state_behind.Goals as goal

pub returns : goal.returns
returns c = state_from_parts c.args.seed c.args.number c.ranges.seed.fits
