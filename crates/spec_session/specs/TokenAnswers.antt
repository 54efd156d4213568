-- The answer to a question on the tokens of a span, as one line with its LF.
use Rattle.std.specs.Prelude.{◌≡◌, ℕ, List, [], ◌∷◌, ◌++◌, length, map, flat_map, get_or, codes}
use Rattle.std.specs.Prelude.{decimal, slice_range, Option, Some, None}
use Rattle.spec_text.specs.Escapes.{printed}
use Rattle.spec_lexing.specs.declared.kind_def.KindDef.{KindDef}
use Rattle.spec_lexing.specs.declared.kind_def.KindDef.TheVariants.{Word, Token as TokenDef}
use Rattle.spec_lexing.specs.declared.token.Token.{Token}
use Rattle.spec_script.specs.declared.question.TokenSpan.{TokenSpan}
use Rattle.spec_script.specs.declared.question.TokenSpan.TheVariants.{Whole, Span}
use Rattle.spec_session.specs.Lines.{as_line}
use Rattle.spec_session.specs.Questions.{IsSpan, IsNoSpan, outside_line}

-- what a token of the kind is called: a word `word`, and any other by its name
abbrev pub kind_name : KindDef → List ℕ
kind_name (Word word) = codes "word"
kind_name (TokenDef name expr) = name

-- what a token is called whose kind has this number, where it has one; a stray token has none
abbrev pub token_name : List KindDef → Option ℕ → List ℕ
token_name kinds None = codes "stray"
token_name kinds (Some kind) = get_or (map kind_name kinds) kind []

-- the text of a token of the text: its name, a colon, and its bytes as they are printed
abbrev pub token_text : List KindDef → List ℕ → Token → List ℕ
token_text kinds text token =
    token_name kinds token.kind ++ (58 ∷ printed (slice_range text token.first token.end))

-- the texts of the tokens, each behind a space
abbrev pub tokens_text : List KindDef → List ℕ → List Token → List ℕ
tokens_text kinds text tokens = flat_map (λ token. 32 ∷ token_text kinds text token) tokens

-- the line that tells these tokens: how many they are, and the text of each
abbrev pub tokens_line : List KindDef → List ℕ → List Token → List ℕ
tokens_line kinds text tokens =
    codes "tokens " ++ as_line (decimal (length tokens) ++ tokens_text kinds text tokens)

-- the place at which the span begins
abbrev pub span_first : TokenSpan → ℕ
span_first Whole = 0
span_first (Span first end) = first

-- the place at which the span ends, in a text of so many tokens
abbrev pub span_end : ℕ → TokenSpan → ℕ
span_end size Whole = size
span_end size (Span first end) = end

-- the answer to what the tokens of the span are, of a text that has these tokens under these kinds:
-- the question is refused where it is no span of theirs, and else those of the span are told
pub data IsTokensAnswer (kinds : List KindDef) (text : List ℕ) (tokens : List Token)
    (span : TokenSpan) (line : List ℕ) : Type 0 where
  refused_tokens : IsNoSpan (length tokens) (span_first span) (span_end (length tokens) span)
      → line ≡ outside_line (length tokens) → IsTokensAnswer kinds text tokens span line
  tokens_told : IsSpan (length tokens) (span_first span) (span_end (length tokens) span)
      → line ≡ tokens_line kinds text
      (slice_range tokens (span_first span) (span_end (length tokens) span))
      → IsTokensAnswer kinds text tokens span line
