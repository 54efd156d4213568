-- By recursion on the list of matches.
use Rattle.spec_lexing.proofs.TokensLemmas.{one_list, one_token_list}
use Rattle.spec_lexing.proofs.laws.one_token_list.Goals as goal

pub returns-clause-matches : goal.returns-clause-matches
returns-clause-matches g c = one_list g.K.TokenKind.matches

pub returns-clause-tokens : goal.returns-clause-tokens
returns-clause-tokens g c = one_token_list g.K.TokenKind.matches g.K.TokenKind.number
