-- The lexer computes the tokens.
use Rattle.std.proofs.Common.{[], ◌∷◌, refl}
use Rattle.spec_lexing.proofs.KindsLemmas.{tokens_of_is}
use Rattle.spec_lexing_cases.specs.TokenExamples.{commented}
use Rattle.spec_lexing_cases.proofs.tokens_among_comments.Goals as goal

pub returns : goal.returns
returns c = record {
  line = tokens_of_is (commented ("a" ∷ [])) _ _ refl;
  last_line = tokens_of_is (commented ("a" ∷ [])) _ _ refl;
  block = tokens_of_is (commented ("a" ∷ [])) _ _ refl;
  overlap = tokens_of_is (commented ("a" ∷ [])) _ _ refl;
  open_block = tokens_of_is (commented ("a" ∷ "/" ∷ [])) _ _ refl;
  comment_before_word = tokens_of_is (commented ("--" ∷ [])) _ _ refl;
  longer_word = tokens_of_is (commented ("--a\n" ∷ [])) _ _ refl;
}
