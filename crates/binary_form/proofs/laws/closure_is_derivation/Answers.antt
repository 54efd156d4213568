-- By the parse tree, and step by step back.
use Rattle.binary_form.proofs.ClosureLemmas.{closure_is_derivation}
use Rattle.binary_form.proofs.laws.closure_is_derivation.Goals as goal

pub returns : goal.returns
returns c = closure_is_derivation
