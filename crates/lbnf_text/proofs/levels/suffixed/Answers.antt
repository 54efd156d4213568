use Rattle.std.proofs.Common.{◌≡◌, ◌<◌, ◌++◌, ◌∷◌, [], rules, arith}
use Rattle.spec_lbnf.specs.TokenExpressions.{suffix_expr}
use Rattle.lbnf_text.specs.Expressions.{suffix_of}
use Rattle.lbnf_text.proofs.ExpressionLemmas.{with_sign}
use Rattle.lbnf_text.proofs.levels.suffixed.Goals as goal

pub returns : goal.returns
returns c =
    let is : c.args.level.factors ≡ c.pop.new.self ++ c.in_ok-factor.factor ∷ [] = search rules in
    let few : c.args.level.signs < 8 = omega arith in
    let pushed : c.push.new.self ≡ c.pop.new.self ++ suffix_expr (suffix_of c.args.suffix) c.in_ok-factor.factor ∷ [] = search rules in
    with_sign c.args.level (suffix_of c.args.suffix) c.pop.new.self c.in_ok-factor.factor c.push.new.self is few pushed
