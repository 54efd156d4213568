-- The lexer gives the tokens.
use Rattle.spec_lexing.proofs.KindsLemmas.{some_tokens}
use Rattle.spec_lexing.proofs.laws.some_token_list.Goals as goal

pub returns : goal.returns
returns c = some_tokens
