-- Of two longest matches at a place neither ends behind the other, and neither kind stands before the other.
use Rattle.spec_lexing.proofs.LongestMatchLemmas.{one_end, one_order, matched_place}
use Rattle.spec_lexing.proofs.laws.one_longest_match.Goals as goal

pub returns-clause-one : goal.returns-clause-one
returns-clause-one g c = λ kinds text start order end other later here there. (
  one_order g.K.TokenKind.matches kinds text start order end other later here there,
  one_end g.K.TokenKind.matches kinds text start order end other later here there,
)

pub returns-clause-matched : goal.returns-clause-matched
returns-clause-matched g c = matched_place g.K.TokenKind.matches
