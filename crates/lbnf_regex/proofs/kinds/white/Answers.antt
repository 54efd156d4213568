-- Nothing is removed.
use Rattle.std.proofs.Common.{ap, ◌∙◌}
use Rattle.spec_text.specs.Bytes.{is_white}
use Rattle.spec_automata.specs.ByteExpressions.{byte_in}
use Rattle.spec_automata.specs.Encoding.{bytes_that}
use Rattle.lbnf_regex.proofs.PatternLemmas.{pattern-Bytes}
use Rattle.lbnf_regex.proofs.EncodingStepLemmas.{kept_all}
use Rattle.lbnf_regex.proofs.kinds.white.Goals as goal

pub returns : goal.returns
returns c =
    pattern-Bytes c.in_ok-set.set ∙ ap byte_in (c.in_ok-set.ensures ∙ kept_all (bytes_that is_white))
