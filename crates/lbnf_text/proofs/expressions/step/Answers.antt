use Rattle.lbnf_text.proofs.ExpressionLemmas.{step_within}
use Rattle.lbnf_text.proofs.expressions.step.Goals as goal

pub returns-in-Some : goal.returns-in-Some
returns-in-Some c = rw (step_within c.args.state c.in-Some.atom c.args.token.now c.in-Some.is) c.atom_step.ensures
