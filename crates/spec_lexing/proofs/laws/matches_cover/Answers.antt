-- By recursion on the list of matches.
use Rattle.spec_lexing.proofs.TokensLemmas.{covering, few_tokens}
use Rattle.spec_lexing.proofs.laws.matches_cover.Goals as goal

pub returns-clause-cover : goal.returns-clause-cover
returns-clause-cover g c = covering g.K.TokenKind.matches

pub returns-clause-most : goal.returns-clause-most
returns-clause-most g c = few_tokens g.K.TokenKind.matches g.K.TokenKind.number
