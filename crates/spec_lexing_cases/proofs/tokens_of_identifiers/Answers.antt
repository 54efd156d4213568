-- The lexer computes the tokens.
use Rattle.std.specs.Char.{encode_utf8}
use Rattle.std.specs.Str.{chars}
use Rattle.std.proofs.Common.{codes, ap}
use Rattle.spec_lexing.proofs.KindsLemmas.{tokens_of_is}
use Rattle.spec_lexing_cases.specs.TokenExamples.{word_and_token}
use Rattle.spec_lexing_cases.proofs.TokenLemmas.{tokens_with}
use Rattle.spec_lexing_cases.proofs.tokens_of_identifiers.Goals as goal

pub returns : goal.returns
unfolding encode_utf8 chars
returns c = record {
  word_first = λ expr is.
      tokens_of_is (word_and_token "if" expr) (codes "if iff") _
      (ap (tokens_with "if" expr (codes "if iff")) is);
}
