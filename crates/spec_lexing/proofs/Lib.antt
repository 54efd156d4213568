pub mod LongestMatchLemmas
pub mod TokensLemmas
pub mod MatchingTests
pub mod LexerByTests
pub mod KindsLemmas
pub mod ExpressionLemmas
