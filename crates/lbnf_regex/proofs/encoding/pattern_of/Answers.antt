-- No flags take nothing away.
use Rattle.std.proofs.Common.{◌≡◌, [], ◌∙◌}
use Rattle.std.proofs.lemmas.Result.{IfOk-weaker}
use Rattle.spec_lexing.specs.Expressions.{expression_of}
use Rattle.spec_automata.specs.Encoding.{bytes_of, without}
use Rattle.lbnf_regex.specs.declared.pattern.Pattern.{Pattern}
use Rattle.lbnf_regex.specs.ByteSets.{flag_at}
use Rattle.lbnf_regex.specs.Patterns.{bytes_of_pattern}
use Rattle.lbnf_regex.proofs.EncodingStepLemmas.{without_flags}
use Rattle.lbnf_regex.proofs.encoding.pattern_of.Goals as goal

pub returns : goal.returns
returns c =
    let x = bytes_of (expression_of c.args.expr.now) in
    IfOk-weaker c.pattern_without.result (λ (p : Pattern). bytes_of_pattern p ≡ without (flag_at []) x)
    (λ (p : Pattern). bytes_of_pattern p ≡ x) (λ p is. is ∙ without_flags x) c.pattern_without.ensures
