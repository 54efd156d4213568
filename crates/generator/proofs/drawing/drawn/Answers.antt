use Rattle.std.proofs.Common.{ap, ◌∙◌}
use Rattle.generator.specs.Draws.{answer_of, drawn}
use Rattle.generator.proofs.drawing.drawn.Goals as goal

pub returns : goal.returns
unfolding drawn
returns c = c.answer_of.ensures ∙ ap answer_of c.state_behind.ensures
