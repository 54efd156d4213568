-- The lexer of a word and of a token, by what the token's expression stands for.
use Rattle.std.proofs.Common.{ℕ, List, length, Bool}
use Prim.Native.String.{String}
use Rattle.spec_lexing.specs.declared.expression.Expr.{Expr}
use Rattle.spec_lexing.specs.declared.kind_def.KindDef.TheVariants.{Word, Token as TokenDef}
use Rattle.spec_lexing.specs.declared.token.Token.{Token}
use Rattle.spec_lexing.specs.Expressions.{Expression}
use Rattle.spec_lexing.specs.Kinds.{LexKind, white, line_comment, block_comment, symbol, token_kind, lex_kinds}
use Rattle.spec_lexing.specs.Tokens.{tokens_of as tokens_of_matches}
use Rattle.spec_lexing.proofs.MatchingTests.{matches as expression_matches}
use Rattle.spec_lexing.proofs.LexerByTests.{matches_from}
use Rattle.spec_lexing.proofs.KindsLemmas.{matches}
use Rattle.spec_lexing_cases.specs.TokenExamples.{word_and_token}

-- whether the kind matches the bytes, where each token has this expression
abbrev pub matches_with : Expression → LexKind → List ℕ → Bool
matches_with expression white bytes = matches white bytes
matches_with expression (line_comment opening) bytes = matches (line_comment opening) bytes
matches_with expression (block_comment opening closing) bytes =
    matches (block_comment opening closing) bytes
matches_with expression (symbol number (Word word)) bytes = matches (symbol number (Word word)) bytes
matches_with expression (symbol number (TokenDef name expr)) bytes = expression_matches expression bytes

-- the tokens of the text, where the token has this expression
abbrev pub tokens_with : String → Expr → List ℕ → Expression → List Token
tokens_with word expr text expression =
    tokens_of_matches token_kind
    (matches_from (matches_with expression) (lex_kinds (word_and_token word expr)) text (length text) 0)
