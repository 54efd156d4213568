use Rattle.std.proofs.Common.{◌≡◌, ◌++◌, ◌∷◌, [], rules}
use Rattle.lbnf_readers.specs.ExpressionReading.{with_factor, level_expr}
use Rattle.lbnf_text.proofs.ExpressionLemmas.{with_close}
use Rattle.lbnf_text.proofs.expressions.close_step.Goals as goal

pub returns : goal.returns
returns c =
    let is : c.args.state.outer ≡ c.pop.new.self ++ c.in_ok-around.around ∷ [] = search rules in
    let made : c.in_ok-level.level ≡ with_factor c.in_ok-around.around (level_expr c.args.state.level) = rw c.in_ok-factor.ensures at c.in_ok-level.ensures in
    with_close c.args.state c.pop.new.self c.in_ok-around.around c.in_ok-level.level c.if-is_empty.ensures.1 is made
