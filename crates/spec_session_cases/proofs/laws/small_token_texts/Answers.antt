-- Each is computed.
use Rattle.spec_session_cases.proofs.TokenCases.{small_token_texts}
use Rattle.spec_session_cases.proofs.laws.small_token_texts.Goals as goal

pub returns : goal.returns
returns c = small_token_texts
