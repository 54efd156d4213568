-- The lexer computes the tokens.
use Rattle.std.proofs.Common.{[], ◌∷◌, refl}
use Rattle.spec_lexing.proofs.KindsLemmas.{tokens_of_is}
use Rattle.spec_lexing_cases.specs.TokenExamples.{words}
use Rattle.spec_lexing_cases.proofs.tokens_of_words.Goals as goal

pub returns : goal.returns
returns c = record {
  empty_text = tokens_of_is (words ("a" ∷ [])) _ _ refl;
  white_text = tokens_of_is (words ("a" ∷ [])) _ _ refl;
  words_apart = tokens_of_is (words ("a" ∷ "b" ∷ [])) _ _ refl;
  words_together = tokens_of_is (words ("a" ∷ "b" ∷ [])) _ _ refl;
  longest_wins = tokens_of_is (words ("a" ∷ "ab" ∷ [])) _ _ refl;
  shorter_word = tokens_of_is (words ("a" ∷ "ab" ∷ [])) _ _ refl;
  longest_is_kept = tokens_of_is (words ("a" ∷ "ab" ∷ "bc" ∷ [])) _ _ refl;
  least_kind_wins = tokens_of_is (words ("b" ∷ "a" ∷ "a" ∷ [])) _ _ refl;
  white_word = tokens_of_is (words (" " ∷ "a" ∷ [])) _ _ refl;
  word_with_white = tokens_of_is (words ("b c" ∷ " b" ∷ [])) _ _ refl;
  stray_between = tokens_of_is (words ("a" ∷ [])) _ _ refl;
  front_of_word = tokens_of_is (words ("ab" ∷ [])) _ _ refl;
  empty_word = tokens_of_is (words ("" ∷ [])) _ _ refl;
  two_bytes = tokens_of_is (words ("a" ∷ [])) _ _ refl;
  cut_scalar = tokens_of_is (words ("a" ∷ [])) _ _ refl;
  no_scalar = tokens_of_is (words ("a" ∷ [])) _ _ refl;
}
