-- What is told of tokens, by computation.
use Rattle.std.proofs.Common.{refl}
use Rattle.spec_session_cases.specs.TokenCases.{SmallTokenTexts}

pub small_token_texts : SmallTokenTexts
small_token_texts = record {
  of_all = refl;
  of_a_span = refl;
  of_an_empty_span = refl;
  of_words = refl;
  of_a_control_byte = refl;
  of_two_bytes = refl;
}
