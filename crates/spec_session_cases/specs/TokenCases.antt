-- What is told of the tokens of small texts, by hand.
use Rattle.std.specs.Prelude.{◌≡◌, ℕ, List, [], ◌∷◌, codes, slice_range, Option, Some, None}
use Rattle.spec_lexing.specs.declared.expression.Expr.TheVariants.{Eps}
use Rattle.spec_lexing.specs.declared.kind_def.KindDef.{KindDef}
use Rattle.spec_lexing.specs.declared.kind_def.KindDef.TheVariants.{Word, Token as TokenDef}
use Rattle.spec_lexing.specs.declared.token.Token.{Token}
use Rattle.spec_session.specs.TokenAnswers.{tokens_text}

-- a kind of token of this name; what it matches is of no matter here
abbrev pub named : List ℕ → KindDef
named name = TokenDef name Eps

-- a token of this kind, or a stray one
abbrev pub token_of : Option ℕ → ℕ → ℕ → Token
token_of kind first end = record { kind = kind; first = first; end = end }

-- two kinds of token that have names
abbrev pub two_kinds : List KindDef
two_kinds = named (codes "Hex") ∷ named (codes "Integer") ∷ []

-- a text
abbrev pub numbers : List ℕ
numbers = codes "0xa1 0x 7"

-- its tokens under these kinds, the third a stray one
abbrev pub four_tokens : List Token
four_tokens =
    token_of (Some 0) 0 4 ∷ token_of (Some 1) 5 6 ∷ token_of None 6 7 ∷ token_of (Some 1) 8 9 ∷ []

-- what is told of the tokens of small texts
pub record SmallTokenTexts : Type 0 where
  -- a token is told by the name of its kind and its bytes, and a stray one as such
  pub of_all : tokens_text two_kinds numbers four_tokens
      ≡ codes " Hex:0xa1 Integer:0 stray:x Integer:7"
  -- those of a span alone
  pub of_a_span : tokens_text two_kinds numbers (slice_range four_tokens 1 3)
      ≡ codes " Integer:0 stray:x"
  -- none of an empty span
  pub of_an_empty_span : tokens_text two_kinds numbers (slice_range four_tokens 2 2) ≡ []
  -- each word has the name `word`
  pub of_words :
      tokens_text (Word (codes "+") ∷ Word (codes "ab") ∷ []) (codes "ab+")
      (token_of (Some 1) 0 2 ∷ token_of (Some 0) 2 3 ∷ [])
      ≡ codes " word:ab word:+"
  -- control bytes are told by their numbers, and a backslash doubled
  pub of_a_control_byte :
      tokens_text (Word (92 ∷ 7 ∷ []) ∷ []) (92 ∷ 7 ∷ 127 ∷ [])
      (token_of (Some 0) 0 2 ∷ token_of None 2 3 ∷ [])
      ≡ codes " word:\\\\\\x07 stray:\\x7f"
  -- a stray token of two bytes has both
  pub of_two_bytes : tokens_text [] (195 ∷ 169 ∷ []) (token_of None 0 2 ∷ [])
      ≡ 32 ∷ 115 ∷ 116 ∷ 114 ∷ 97 ∷ 121 ∷ 58 ∷ 195 ∷ 169 ∷ []
